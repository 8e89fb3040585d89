use Rattle.std.proofs.Common.{◌≡◌, length, false}
use Rattle.check_model.specs.Literals.{escapes_after}
use Rattle.statement_checks.specs.BadEscapes.{kind_of_first}
use Rattle.statement_checks.proofs.escapes.first_bad_by_bytes.Given as goal

abbrev pub invariant-loop-byte : goal.invariant-loop-byte
invariant-loop-byte l = kind_of_first (escapes_after false l.left) ≡ kind_of_first (escapes_after false l.raw)

abbrev pub decreases-loop-byte : goal.decreases-loop-byte
decreases-loop-byte l = length l.left
