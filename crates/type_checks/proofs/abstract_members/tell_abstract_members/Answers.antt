use Rattle.check_model.specs.Members.{abstract_rows}
use Rattle.check_context.proofs.Telling.{loop_stops, goes_past}
use Rattle.type_checks.proofs.abstract_members.tell_abstract_members.Goals as goal

pub returns-in_err-tell_abstract : goal.returns-in_err-tell_abstract
returns-in_err-tell_abstract c =
    loop_stops _ abstract_rows _ _ _ _ _ _ _ c.from_residual.result c.from_residual.ensures.1 c.in-Some.ensures.steps c.loop-member.invariant c.in_err-tell_abstract.ensures

pub loop-member-preserved : goal.loop-member-preserved
loop-member-preserved c = goes_past abstract_rows _ _ _ _ _ _ _ c.in-Some.ensures.steps c.loop-member.invariant c.in_ok-tell_abstract.ensures
