-- Programs in which some nodes have another name.
use Rattle.std.specs.Prelude.{◌≡◌, ℕ, [], ◌∷◌, Bool, true, ◌&&◌, ◌||◌, cond}
use Rattle.std.specs.List.{list_any}
use Rattle.semantic_kinds.specs.Classes.{holds_kind}
use Rattle.semantic_kinds.specs.declared.kind.AstType.{AstType}
use Rattle.semantic_kinds.specs.declared.kind.AstType.TheVariants as kind
use Rattle.semantic_kinds.specs.declared.mark.Mark.TheVariants as mark
use Rattle.semantic_kinds.specs.declared.role.Role.TheVariants as role
use Rattle.semantic_syntax.specs.Tables.{Name}
use Rattle.semantic_tree.specs.Forest.{Forest, nothing, tree}
use Rattle.semantic_tree.specs.Tree.{Tree}
use Rattle.semantic_tree.specs.declared.node.Node.{Node}
use Rattle.semantic_tree.specs.Views.{children_of, child_of, holds}
use Rattle.program_laws.specs.ReadMarks.{without_where}

-- a value that is chosen, or whose left is
abbrev pub is_named_value : (ℕ → Bool) → Node → Bool
is_named_value chosen value = chosen value.node_id || holds (λ left. chosen left.node_id) (child_of role.Left value)

-- a property that can't be written in short any more
abbrev pub sheds : (ℕ → Bool) → Node → Bool
sheds chosen node =
    holds_kind (kind.ObjectProperty ∷ kind.BindingProperty ∷ []) node.kind && list_any (is_named_value chosen) (children_of role.Value node.children)

-- the forest in which the chosen nodes have the name, with all marks
abbrev pub with_name_alone : (ℕ → Bool) → Name → Forest → Forest
with_name_alone chosen name nothing = nothing
with_name_alone chosen name (tree r k span text marks below id after) =
    tree r k span (cond (chosen id) name text) marks (with_name_alone chosen name below) id (with_name_alone chosen name after)

-- and without the mark `shorthand` on properties whose values have it
abbrev pub with_name : (ℕ → Bool) → Name → Forest → Forest
with_name chosen name nothing = nothing
with_name chosen name (tree r k span text marks below id after) =
    let node : Node = record { kind = k; span = span; text = text; marks = marks; children = below; node_id = id } in
    tree r k span (cond (chosen id) name text) (without_where (sheds chosen) mark.Shorthand node) (with_name chosen name below) id (with_name chosen name after)

-- the program in which the chosen nodes below the root have the name
abbrev pub with_name_in : (ℕ → Bool) → Name → Tree → Tree
with_name_in chosen name p = record p { root = record p.root { children = with_name chosen name p.root.children } }

abbrev pub is_identifier : AstType → Bool
is_identifier k = holds_kind (kind.BindingIdentifier ∷ kind.IdentifierReference ∷ []) k

-- the chosen nodes of the forest are identifiers
abbrev pub AreIdentifiers : (ℕ → Bool) → Forest → Type 0
AreIdentifiers chosen nothing = Unit {0}
AreIdentifiers chosen (tree r k span text marks below id after) =
    (chosen id ≡ true → is_identifier k ≡ true) × AreIdentifiers chosen below × AreIdentifiers chosen after
