use Rattle.tangle_lint.proofs.Lines.{reason_turn}
use Rattle.tangle_lint.proofs.tangle_lines.push_reasons.Goals as goal

pub loop-reason-preserved : goal.loop-reason-preserved
loop-reason-preserved c = reason_turn c.args.reasons.now c.loop-reason.reason-index _ c.loop-reason.line c.push_reason.new.line _ c.loop-reason-test.true c.in_ok-push_reason.ensures c.loop-reason.invariant
