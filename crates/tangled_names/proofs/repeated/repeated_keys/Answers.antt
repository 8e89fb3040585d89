use Rattle.tangled_names.proofs.Keys.{met_turn, kept_turn}
use Rattle.tangled_names.proofs.repeated.repeated_keys.Goals as goal

pub loop-mention-preserved : goal.loop-mention-preserved
loop-mention-preserved c = record {
  kept = λ k. kept_turn c.args.mentions.now c.loop-mention.mention-index _ c.loop-mention-test.true k c.is_of-is.result
      c.loop-mention.met.seen c.meet.new.met.seen c.loop-mention.met.again c.meet.new.met.again c.in_ok-meet.ensures.seen c.in_ok-meet.ensures.again (c.loop-mention.invariant.kept k);
  rest = λ k. met_turn c.args.mentions.now c.loop-mention.mention-index _ c.loop-mention-test.true c.args.what k c.is_of-is.result
      c.loop-mention.met.seen c.meet.new.met.seen c.loop-mention.met.again c.meet.new.met.again _ c.is_of-is.ensures c.in_ok-meet.ensures.seen c.in_ok-meet.ensures.again (c.loop-mention.invariant.kept k) (c.loop-mention.invariant.rest k);
}
