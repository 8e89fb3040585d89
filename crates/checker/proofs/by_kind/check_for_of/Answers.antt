use Rattle.check_context.proofs.Telling.{first_begun, then_begun, first_stops, then_tells}
use Rattle.checker.proofs.Both.{both_told}
use Rattle.checker.proofs.by_kind.check_for_of.Goals as goal

pub returns-in_err-check_body : goal.returns-in_err-check_body
returns-in_err-check_body c = first_stops _ c.from_residual.result _ _ _ _ c.from_residual.ensures.1 (first_begun _ _ _ _ c.in_err-check_body.ensures)

pub returns-in_err-check_for_of_statement : goal.returns-in_err-check_for_of_statement
returns-in_err-check_for_of_statement c = first_stops _ c.from_residual-in_err-check_for_of_statement.result _ _ _ _ c.from_residual-in_err-check_for_of_statement.ensures.1 (then_begun _ _ _ _ _ c.in_ok-check_body.ensures c.in_err-check_for_of_statement.ensures)

pub returns : goal.returns
returns c = then_tells c.check_left.result _ _ _ _ _ (both_told _ _ _ _ _ c.in_ok-check_body.ensures c.in_ok-check_for_of_statement.ensures) c.check_left.ensures
