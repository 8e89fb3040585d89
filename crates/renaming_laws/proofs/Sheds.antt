-- Which properties can't be in short any more is told by ids, roles and kinds alone.
use Rattle.std.proofs.Common.{◌≡◌, ℕ, [], ◌∷◌, Bool, true, false, ◌&&◌, ◌||◌, cond, refl, sym, ap, ◌∙◌}
use Rattle.std.specs.List.{list_any}
use Rattle.semantic_kinds.specs.Classes.{holds_kind}
use Rattle.semantic_kinds.specs.MarkSets.{no_marks}
use Rattle.semantic_kinds.specs.Roles.{same_role}
use Rattle.semantic_kinds.specs.declared.kind.AstType.TheVariants as kind
use Rattle.semantic_kinds.specs.declared.role.Role.TheVariants as role
use Rattle.semantic_syntax.specs.Tables.{Name}
use Rattle.semantic_tree.specs.Forest.{Forest, nothing, tree}
use Rattle.semantic_tree.specs.Nodes.{first_of}
use Rattle.semantic_tree.specs.Views.{children_of, holds}
use Rattle.semantic_tree.specs.declared.node.Node.{Node}
use Rattle.rename_model.specs.WithName.{is_named_value, sheds, with_name_alone, with_name}

-- the forest without texts and marks
abbrev pub bare : Forest → Forest
bare nothing = nothing
bare (tree r k span text marks below id after) = tree r k span [] no_marks (bare below) id (bare after)

-- whether two tests agree on the ids of a forest
abbrev pub AgreeIn : (a b : ℕ → Bool) → Forest → Type 0
AgreeIn a b nothing = Unit {0}
AgreeIn a b (tree r k span text marks below id after) = (a id ≡ b id) × AgreeIn a b below × AgreeIn a b after

-- a value that is chosen, or whose left is, among the values of a node
abbrev pub any_named : (ℕ → Bool) → Forest → Bool
any_named chosen below = list_any (is_named_value chosen) (children_of role.Value below)

abbrev left_chosen : (ℕ → Bool) → Forest → Bool
left_chosen chosen below = holds (λ left. chosen left.node_id) (first_of (children_of role.Left below))

left_bare : (a b : ℕ → Bool) (f : Forest) → AgreeIn a b f → left_chosen a f ≡ left_chosen b (bare f)
left_bare a b nothing h = refl
left_bare a b (tree r k span text marks below id after) h = go (same_role r role.Left) h.0 (left_bare a b after h.2)
  where
    old : Node
    old = record { kind = k; span = span; text = text; marks = marks; children = below; node_id = id }

    new : Node
    new = record { kind = k; span = span; text = []; marks = no_marks; children = bare below; node_id = id }

    go : (x : Bool) → a id ≡ b id → left_chosen a after ≡ left_chosen b (bare after) → holds (λ left. a left.node_id) (first_of (cond x (old ∷ children_of role.Left after) (children_of role.Left after))) ≡ holds (λ left. b left.node_id) (first_of (cond x (new ∷ children_of role.Left (bare after)) (children_of role.Left (bare after))))
    go true e i = e
    go false e i = i

pub named_bare : (a b : ℕ → Bool) (f : Forest) → AgreeIn a b f → any_named a f ≡ any_named b (bare f)
named_bare a b nothing h = refl
named_bare a b (tree r k span text marks below id after) h = go (same_role r role.Value) h.0 (left_bare a b below h.1) (named_bare a b after h.2)
  where
    old : Node
    old = record { kind = k; span = span; text = text; marks = marks; children = below; node_id = id }

    new : Node
    new = record { kind = k; span = span; text = []; marks = no_marks; children = bare below; node_id = id }

    go : (x : Bool) → a id ≡ b id → left_chosen a below ≡ left_chosen b (bare below) → any_named a after ≡ any_named b (bare after) → list_any (is_named_value a) (cond x (old ∷ children_of role.Value after) (children_of role.Value after)) ≡ list_any (is_named_value b) (cond x (new ∷ children_of role.Value (bare after)) (children_of role.Value (bare after)))
    go true e l i = λ j. (e j || l j) || i j
    go false e l i = i

pub agree_same : (a : ℕ → Bool) (f : Forest) → AgreeIn a a f
agree_same a nothing = tt
agree_same a (tree r k span text marks below id after) = (refl, agree_same a below, agree_same a after)

-- names and marks are not asked
pub bare_named : (chosen : ℕ → Bool) (name : Name) (f : Forest) → bare (with_name chosen name f) ≡ bare f
bare_named chosen name nothing = refl
bare_named chosen name (tree r k span text marks below id after) = λ i. tree r k span [] no_marks (bare_named chosen name below i) id (bare_named chosen name after i)

pub bare_named_alone : (chosen : ℕ → Bool) (name : Name) (f : Forest) → bare (with_name_alone chosen name f) ≡ bare f
bare_named_alone chosen name nothing = refl
bare_named_alone chosen name (tree r k span text marks below id after) = λ i. tree r k span [] no_marks (bare_named_alone chosen name below i) id (bare_named_alone chosen name after i)

-- another test that agrees sheds the same, in a forest of the same ids
pub sheds_same : (a b : ℕ → Bool) (x y : Node) → x.kind ≡ y.kind → bare x.children ≡ bare y.children → AgreeIn a b x.children → sheds a x ≡ sheds b y
sheds_same a b x y k e h =
    λ i. holds_kind (kind.ObjectProperty ∷ kind.BindingProperty ∷ []) (k i)
    && (named_bare a b x.children h ∙ ap (any_named b) e ∙ sym (named_bare b b y.children (agree_same b y.children))) i
