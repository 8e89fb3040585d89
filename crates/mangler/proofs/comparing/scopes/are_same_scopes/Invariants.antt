use Rattle.std.proofs.Common.{◌≡◌, drop}
use Rattle.std.specs.Cmp.Lexicographic.{pointwise}
use Rattle.mangle_model.specs.Tests.{same_scope}
use Rattle.mangler.proofs.comparing.scopes.are_same_scopes.Given as goal

abbrev pub invariant-loop-number : goal.invariant-loop-number
invariant-loop-number l = pointwise same_scope (drop l.number l.other.scopes) (drop l.number l.one.scopes) ≡ pointwise same_scope l.other.scopes l.one.scopes
