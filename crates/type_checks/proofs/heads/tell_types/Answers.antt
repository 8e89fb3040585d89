use Rattle.check_model.specs.TypedLoops.{typed_rows}
use Rattle.check_context.proofs.Telling.{loop_stops, goes_past}
use Rattle.type_checks.proofs.heads.tell_types.Goals as goal

pub returns-in_err-tell_type : goal.returns-in_err-tell_type
returns-in_err-tell_type c =
    loop_stops _ (typed_rows c.args.for_in) _ _ _ _ _ _ _ c.from_residual.result c.from_residual.ensures.1 c.in-Some.ensures.steps c.loop-declarator.invariant c.in_err-tell_type.ensures

pub loop-declarator-preserved : goal.loop-declarator-preserved
loop-declarator-preserved c = goes_past (typed_rows c.args.for_in) _ _ _ _ _ _ _ c.in-Some.ensures.steps c.loop-declarator.invariant c.in_ok-tell_type.ensures
