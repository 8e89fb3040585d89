use Rattle.std.proofs.Common.{◌≡◌, ◌==◌, drop}
use Rattle.std.specs.List.{list_any}
use Rattle.semantic_kinds.specs.Marks.{mark_bit, all_marks}
use Rattle.semantic_kinds.proofs.marks.Marks.is_single.Given as goal

-- whether the set is of one of the marks that are left tells whether it is of one of all
abbrev pub invariant-loop-mark : goal.invariant-loop-mark
invariant-loop-mark l =
    list_any (λ m. l.self.bits == mark_bit m) (drop l.mark-index l.mark-items) ≡ list_any (λ m. l.self.bits == mark_bit m) all_marks
