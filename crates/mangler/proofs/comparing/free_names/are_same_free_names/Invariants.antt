use Rattle.std.proofs.Common.{◌≡◌}
use Rattle.std.specs.Cmp.Lexicographic.{pointwise}
use Rattle.mangle_model.specs.Tests.{same_free}
use Rattle.mangler.proofs.comparing.free_names.are_same_free_names.Given as goal

abbrev pub invariant-loop-name : goal.invariant-loop-name
invariant-loop-name l = pointwise same_free l.theirs l.name-iterator ≡ pointwise same_free l.other.free l.one.free
