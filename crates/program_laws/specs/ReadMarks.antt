-- The marks that the tables of a program read.
use Rattle.std.specs.Prelude.{◌≡◌, ◌-◌, List, [], ◌∷◌, Bool, true, cond, bit_and}
use Rattle.std.specs.List.{list_any}
use Rattle.semantic_kinds.specs.Marks.{same_mark, mark_bit}
use Rattle.semantic_kinds.specs.MarkSets.{has_mark}
use Rattle.semantic_kinds.specs.declared.mark.Mark.{Mark}
use Rattle.semantic_kinds.specs.declared.mark.Mark.TheVariants as mark
use Rattle.semantic_kinds.specs.declared.marks.Marks.{Marks}
use Rattle.semantic_tree.specs.Tree.{Tree}
use Rattle.semantic_tree.specs.declared.node.Node.{Node}
use Rattle.program_laws.specs.Remarked.{remarked_tree}

-- the marks by which scopes, declarations, references and calls of `eval` are told apart
abbrev pub read_marks : List Mark
read_marks =
    mark.Declare ∷ mark.Pure ∷ mark.Async ∷ mark.Generator ∷ mark.TypeOnly ∷ mark.Const ∷ mark.Computed ∷ mark.Abstract ∷ mark.Optional ∷ []

abbrev pub is_read : Mark → Bool
is_read m = list_any (same_mark m) read_marks

-- other marks, among which each node has those that are read as it had them
abbrev pub KeepsRead : (Node → Marks) → Type 0
KeepsRead f = (node : Node) (m : Mark) → is_read m ≡ true → has_mark (f node) m ≡ has_mark node.marks m

-- the marks but one, among the 32 bits of a set
abbrev pub without_mark : Marks → Mark → Marks
without_mark marks m = record { bits = bit_and marks.bits (4294967295 - mark_bit m) }

-- the marks of a node, without one where the node passes the test
abbrev pub without_where : (Node → Bool) → Mark → Node → Marks
without_where test m node = cond (test node) (without_mark node.marks m) node.marks

-- the program in which the nodes that pass the test do not have the mark
abbrev pub unmarked_tree : (Node → Bool) → Mark → Tree → Tree
unmarked_tree test m p = remarked_tree (without_where test m) p
