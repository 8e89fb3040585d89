-- Nodes that get other names, one by one.
use Rattle.std.specs.Prelude.{◌≡◌, ◌<◌, ◌^◌, ℕ, [], ◌∷◌, Option, Bool, true, not, ◌&&◌, cond}
use Rattle.semantic_kinds.specs.Classes.{holds_kind}
use Rattle.semantic_kinds.specs.declared.kind.AstType.{AstType}
use Rattle.semantic_kinds.specs.declared.kind.AstType.TheVariants as kind
use Rattle.semantic_kinds.specs.Marks.{same_mark}
use Rattle.semantic_kinds.specs.MarkSets.{has_mark, with_mark}
use Rattle.semantic_kinds.specs.declared.mark.Mark.{Mark}
use Rattle.semantic_kinds.specs.declared.mark.Mark.TheVariants as mark
use Rattle.semantic_kinds.specs.declared.marks.Marks.{Marks}
use Rattle.semantic_syntax.specs.Tables.{Name}
use Rattle.semantic_tree.specs.Forest.{Forest, nothing, tree}
use Rattle.semantic_tree.specs.declared.node.Node.{Node}
use Rattle.program_laws.specs.ReadMarks.{without_where}
use Rattle.rename_model.specs.WithName.{sheds}
use Rattle.mangle_model.specs.Assignment.{name_or}
use Rattle.mangle_model.specs.WithNames.{is_given}

-- a property has no other bits than those of marks
abbrev pub IsKnown : AstType → Marks → Type 0
IsKnown k marks = holds_kind (kind.ObjectProperty ∷ kind.BindingProperty ∷ []) k ≡ true → marks.bits < 2 ^ 30

-- so it is with all nodes of a forest
abbrev pub AreKnown : Forest → Type 0
AreKnown nothing = Unit {0}
AreKnown (tree r k span text marks below id after) = IsKnown k marks × AreKnown below × AreKnown after

-- the node with the name that it is given, without its children
abbrev pub alone : (ℕ → Option Name) → Node → Node
alone given node = record node {
  text = name_or (given node.node_id) node.text;
  marks = without_where (sheds (is_given given)) mark.Shorthand node;
  children = nothing;
}

-- the mark stays where `shorthand` goes
abbrev pub is_kept : Marks → Mark → Bool
is_kept marks m = not (same_mark m mark.Shorthand) && has_mark marks m

-- some of the marks, and one more if it stays
abbrev pub with_kept : (marks kept : Marks) → Mark → Marks
with_kept marks kept m = cond (is_kept marks m) (with_mark kept m) kept
