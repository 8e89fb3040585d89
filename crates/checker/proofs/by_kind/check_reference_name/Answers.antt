use Rattle.check_context.proofs.Telling.{first_stops, then_tells}
use Rattle.checker.proofs.by_kind.check_reference_name.Goals as goal

pub returns-in_err-check_own_name : goal.returns-in_err-check_own_name
returns-in_err-check_own_name c = first_stops _ c.from_residual.result _ _ _ _ c.from_residual.ensures.1 c.in_err-check_own_name.ensures

pub returns : goal.returns
returns c = then_tells c.check_identifier_reference.result _ _ _ _ _ c.in_ok-check_own_name.ensures c.check_identifier_reference.ensures
