use Rattle.check_context.proofs.Telling.{first_stops, then_tells}
use Rattle.checker.proofs.parts.check_left_child.Goals as goal

pub returns-in_err-check_for_statement_left : goal.returns-in_err-check_for_statement_left
returns-in_err-check_for_statement_left c = first_stops _ c.from_residual.result _ _ _ _ c.from_residual.ensures.1 c.in_err-check_for_statement_left.ensures

pub returns : goal.returns
returns c = then_tells c.check_for_statement_left-2.result _ _ _ _ _ c.in_ok-check_for_statement_left.ensures c.check_for_statement_left-2.ensures
