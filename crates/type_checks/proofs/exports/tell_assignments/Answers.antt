use Rattle.check_model.specs.Assignments.{assignment_row}
use Rattle.check_context.proofs.Telling.{loop_stops, goes_past}
use Rattle.type_checks.proofs.exports.tell_assignments.Goals as goal

pub returns-in_err-tell_assignment : goal.returns-in_err-tell_assignment
returns-in_err-tell_assignment c =
    loop_stops _ assignment_row _ _ _ _ _ _ _ c.from_residual.result c.from_residual.ensures.1 c.in-Some.ensures.steps c.loop-statement.invariant c.in_err-tell_assignment.ensures

pub loop-statement-preserved : goal.loop-statement-preserved
loop-statement-preserved c = goes_past assignment_row _ _ _ _ _ _ _ c.in-Some.ensures.steps c.loop-statement.invariant c.in_ok-tell_assignment.ensures
