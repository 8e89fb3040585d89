use Rattle.std.proofs.Common.{Some}
use Rattle.std.proofs.lemmas.Map.Iter.{rest_more}
use Rattle.class_table.specs.Seen.{use_behind}
use Rattle.check_model.specs.Classes.{use_rows}
use Rattle.check_model.specs.Context.{classes_from}
use Rattle.check_context.proofs.Telling.{loop_stops, goes_past}
use Rattle.expression_checks.proofs.private_names.tell_uses.Goals as goal

pub returns-in_err-tell_use : goal.returns-in_err-tell_use
returns-in_err-tell_use c =
    loop_stops _ (use_rows (classes_from c.args.classes.now (Some c.args.class))) _ _ _ _ _ _ _ c.from_residual.result c.from_residual.ensures.1 (rest_more use_behind _ _ _ _ c.in-Some.is c.next.ensures.steps) c.loop-used.invariant c.in_err-tell_use.ensures

pub loop-used-preserved : goal.loop-used-preserved
loop-used-preserved c =
    goes_past (use_rows (classes_from c.args.classes.now (Some c.args.class))) _ _ _ _ _ _ _ (rest_more use_behind _ _ _ _ c.in-Some.is c.next.ensures.steps) c.loop-used.invariant c.in_ok-tell_use.ensures
