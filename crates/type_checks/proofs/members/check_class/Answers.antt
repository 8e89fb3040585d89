use Rattle.check_context.proofs.Telling.{first_stops, then_tells}
use Rattle.type_checks.proofs.members.check_class.Goals as goal

pub returns-in_err-tell_concrete : goal.returns-in_err-tell_concrete
returns-in_err-tell_concrete c = first_stops _ c.from_residual.result _ _ _ _ c.from_residual.ensures.1 c.in_err-tell_concrete.ensures

pub returns : goal.returns
returns c = then_tells c.tell_bodies.result _ _ _ _ _ c.in_ok-tell_concrete.ensures c.tell_bodies.ensures
