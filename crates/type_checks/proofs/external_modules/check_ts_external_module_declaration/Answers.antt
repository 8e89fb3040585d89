use Rattle.check_context.proofs.Telling.{first_stops, then_tells}
use Rattle.type_checks.proofs.external_modules.check_ts_external_module_declaration.Goals as goal

pub returns-in_err-tell_misplaced : goal.returns-in_err-tell_misplaced
returns-in_err-tell_misplaced c = first_stops _ c.from_residual.result _ _ _ _ c.from_residual.ensures.1 c.in_err-tell_misplaced.ensures

pub returns : goal.returns
returns c = then_tells c.tell_body.result _ _ _ _ _ c.in_ok-tell_misplaced.ensures c.tell_body.ensures
