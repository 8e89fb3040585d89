use Rattle.check_model.specs.Exports.{export_rows}
use Rattle.check_context.specs.Handed.{around}
use Rattle.check_context.proofs.Telling.{loop_stops, goes_past}
use Rattle.statement_checks.proofs.exports.tell_exports.Goals as goal

pub returns-in_err-tell_export : goal.returns-in_err-tell_export
returns-in_err-tell_export c =
    loop_stops _ (export_rows (around c.args.ctx.now)) _ _ _ _ _ _ _ c.from_residual.result c.from_residual.ensures.1 c.in-Some.ensures.steps c.loop-statement.invariant c.in_err-tell_export.ensures

pub loop-statement-preserved : goal.loop-statement-preserved
loop-statement-preserved c = goes_past (export_rows (around c.args.ctx.now)) _ _ _ _ _ _ _ c.in-Some.ensures.steps c.loop-statement.invariant c.in_ok-tell_export.ensures
