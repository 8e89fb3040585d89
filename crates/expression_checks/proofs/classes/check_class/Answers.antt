use Rattle.check_context.proofs.Telling.{first_stops, then_tells}
use Rattle.expression_checks.proofs.classes.check_class.Goals as goal

pub returns-in_err-tell_private_uses : goal.returns-in_err-tell_private_uses
returns-in_err-tell_private_uses c = first_stops _ c.from_residual.result _ _ _ _ c.from_residual.ensures.1 c.in_err-tell_private_uses.ensures

pub returns-in_err-tell_class_name : goal.returns-in_err-tell_class_name
returns-in_err-tell_class_name c =
    let r = c.from_residual-in_err-tell_class_name.result in
    then_tells r _ _ _ _ _ c.in_ok-tell_private_uses.ensures (first_stops _ r _ _ _ _ c.from_residual-in_err-tell_class_name.ensures.1 c.in_err-tell_class_name.ensures)

pub returns : goal.returns
returns c =
    let r = c.tell_constructors.result in
    then_tells r _ _ _ _ _ c.in_ok-tell_private_uses.ensures (then_tells r _ _ _ _ _ c.in_ok-tell_class_name.ensures c.tell_constructors.ensures)
