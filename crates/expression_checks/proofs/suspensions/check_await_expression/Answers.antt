use Rattle.check_context.proofs.Telling.{first_stops, then_tells}
use Rattle.expression_checks.proofs.suspensions.check_await_expression.Goals as goal

pub returns-in_err-tell_in_parameter : goal.returns-in_err-tell_in_parameter
returns-in_err-tell_in_parameter c = first_stops _ c.from_residual.result _ _ _ _ c.from_residual.ensures.1 c.in_err-tell_in_parameter.ensures

pub returns : goal.returns
returns c = then_tells c.tell_in_block.result _ _ _ _ _ c.in_ok-tell_in_parameter.ensures c.tell_in_block.ensures
