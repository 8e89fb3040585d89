use Rattle.std.proofs.Common.{◌≡◌, drop}
use Rattle.std.specs.Cmp.Lexicographic.{pointwise}
use Rattle.mangle_model.specs.Tests.{same_reference}
use Rattle.mangler.proofs.comparing.references.are_same_references.Given as goal

abbrev pub invariant-loop-number : goal.invariant-loop-number
invariant-loop-number l = pointwise same_reference (drop l.number l.other.references) (drop l.number l.one.references) ≡ pointwise same_reference l.other.references l.one.references
