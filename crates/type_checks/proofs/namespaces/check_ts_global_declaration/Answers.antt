use Rattle.check_context.proofs.Telling.{first_stops, then_tells}
use Rattle.type_checks.proofs.namespaces.check_ts_global_declaration.Goals as goal

pub returns-in_err-tell_place : goal.returns-in_err-tell_place
returns-in_err-tell_place c = first_stops _ c.from_residual.result _ _ _ _ c.from_residual.ensures.1 c.in_err-tell_place.ensures

pub returns : goal.returns
returns c = then_tells c.tell_undeclared.result _ _ _ _ _ c.in_ok-tell_place.ensures c.tell_undeclared.ensures
