use Rattle.tangled_names.proofs.Keys.{openers_turn}
use Rattle.tangled_names.proofs.facts.openers_among.Goals as goal

pub loop-mention-preserved : goal.loop-mention-preserved
loop-mention-preserved c = λ n.
    openers_turn c.args.mentions.now c.loop-mention.mention-index _ c.loop-mention-test.true c.args.keys.now c.is_among-is.result n
    c.loop-mention.openers c.add_node_if.new.self _ c.is_among-is.ensures c.in_ok-add_node_if.ensures (c.loop-mention.invariant n)
