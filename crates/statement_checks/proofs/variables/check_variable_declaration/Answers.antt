use Rattle.check_context.proofs.Telling.{first_stops, then_tells}
use Rattle.statement_checks.proofs.variables.check_variable_declaration.Goals as goal

pub returns-in_err-tell_using : goal.returns-in_err-tell_using
returns-in_err-tell_using c = first_stops _ c.from_residual.result _ _ _ _ c.from_residual.ensures.1 c.in_err-tell_using.ensures

pub returns : goal.returns
returns c = then_tells c.tell_await_using.result _ _ _ _ _ c.in_ok-tell_using.ensures c.tell_await_using.ensures
