use Rattle.check_model.specs.Variables.{name_rows}
use Rattle.check_context.specs.Handed.{sight}
use Rattle.check_context.proofs.Telling.{loop_stops, goes_past}
use Rattle.statement_checks.proofs.variables.tell_names.Goals as goal

pub returns-in_err-tell_name : goal.returns-in_err-tell_name
returns-in_err-tell_name c =
    loop_stops _ (name_rows (sight c.args.kind.node.now c.args.ctx.now)) _ _ _ _ _ _ _ c.from_residual-in_err-tell_name.result c.from_residual-in_err-tell_name.ensures.1 c.in-Some.ensures.steps c.loop-name.invariant c.in_err-tell_name.ensures

pub loop-name-preserved : goal.loop-name-preserved
loop-name-preserved c = goes_past (name_rows (sight c.args.kind.node.now c.args.ctx.now)) _ _ _ _ _ _ _ c.in-Some.ensures.steps c.loop-name.invariant c.in_ok-tell_name.ensures
