use Rattle.check_model.specs.Methods.{parameter_rows}
use Rattle.check_context.proofs.Telling.{loop_stops, goes_past}
use Rattle.type_checks.proofs.methods.tell_parameters.Goals as goal

pub returns-in_err-tell_parameter : goal.returns-in_err-tell_parameter
returns-in_err-tell_parameter c =
    loop_stops _ parameter_rows _ _ _ _ _ _ _ c.from_residual.result c.from_residual.ensures.1 c.in-Some.ensures.steps c.loop-item.invariant c.in_err-tell_parameter.ensures

pub loop-item-preserved : goal.loop-item-preserved
loop-item-preserved c = goes_past parameter_rows _ _ _ _ _ _ _ c.in-Some.ensures.steps c.loop-item.invariant c.in_ok-tell_parameter.ensures
