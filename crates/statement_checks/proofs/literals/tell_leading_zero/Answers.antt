use Rattle.check_context.proofs.Telling.{first_stops, then_tells}
use Rattle.statement_checks.proofs.literals.tell_leading_zero.Goals as goal

pub returns-in_err-tell_octal : goal.returns-in_err-tell_octal
returns-in_err-tell_octal c = first_stops _ c.from_residual.result _ _ _ _ c.from_residual.ensures.1 c.in_err-tell_octal.ensures

pub returns : goal.returns
returns c = then_tells c.tell_decimal.result _ _ _ _ _ c.in_ok-tell_octal.ensures c.tell_decimal.ensures
