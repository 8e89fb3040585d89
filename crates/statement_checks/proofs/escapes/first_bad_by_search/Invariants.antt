use Rattle.std.proofs.Common.{◌≡◌, length, false}
use Rattle.check_model.specs.Literals.{escapes_after}
use Rattle.statement_checks.specs.BadEscapes.{kind_of_first}
use Rattle.statement_checks.proofs.escapes.first_bad_by_search.Given as goal

abbrev pub invariant-loop-rest : goal.invariant-loop-rest
invariant-loop-rest l = kind_of_first (escapes_after false l.left) ≡ kind_of_first (escapes_after false l.raw)

abbrev pub decreases-loop-rest : goal.decreases-loop-rest
decreases-loop-rest l = length l.left
