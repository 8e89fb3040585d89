use Rattle.semantic_kinds.specs.declared.role.Role.TheVariants as roles
use Rattle.semantic_tree.specs.Views.{child_of}
use Rattle.check_model.specs.Exports.{local_rows}
use Rattle.check_model.specs.Search.{rows_of_some}
use Rattle.check_context.specs.Handed.{around}
use Rattle.check_context.proofs.Telling.{loop_stops, goes_past}
use Rattle.statement_checks.proofs.exports.tell_specifiers.Goals as goal

pub returns-in_err-tell_specifier : goal.returns-in_err-tell_specifier
returns-in_err-tell_specifier c =
    loop_stops _ (λ specifier. rows_of_some (local_rows (around c.args.ctx.now)) (child_of roles.Local specifier)) _ _ _ _ _ _ _ c.from_residual.result c.from_residual.ensures.1 c.in-Some.ensures.steps c.loop-specifier.invariant c.in_err-tell_specifier.ensures

pub loop-specifier-preserved : goal.loop-specifier-preserved
loop-specifier-preserved c = goes_past (λ specifier. rows_of_some (local_rows (around c.args.ctx.now)) (child_of roles.Local specifier)) _ _ _ _ _ _ _ c.in-Some.ensures.steps c.loop-specifier.invariant c.in_ok-tell_specifier.ensures
