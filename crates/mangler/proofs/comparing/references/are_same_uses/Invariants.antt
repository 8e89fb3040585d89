use Rattle.std.proofs.Common.{◌≡◌, bytes_eq}
use Rattle.std.specs.Cmp.Lexicographic.{pointwise}
use Rattle.mangler.proofs.comparing.references.are_same_uses.Given as goal

abbrev pub invariant-loop-uses : goal.invariant-loop-uses
invariant-loop-uses l = pointwise bytes_eq l.theirs l.uses-iterator ≡ pointwise bytes_eq l.other.uses l.one.uses
