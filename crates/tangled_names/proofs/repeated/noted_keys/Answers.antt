use Rattle.tangled_names.proofs.Keys.{keys_turn}
use Rattle.tangled_names.proofs.repeated.noted_keys.Goals as goal

pub loop-mention-preserved : goal.loop-mention-preserved
loop-mention-preserved c = λ k.
    keys_turn c.args.mentions.now c.loop-mention.mention-index _ c.loop-mention-test.true c.args.what k c.is_of-is.result c.loop-mention.keys c.add_key_if.new.self _
    c.is_of-is.ensures c.in_ok-add_key_if.ensures (c.loop-mention.invariant k)
