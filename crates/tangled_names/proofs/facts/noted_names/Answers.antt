use Rattle.std.proofs.Common.{ap}
use Rattle.std.specs.Str.{chars}
use Rattle.tangle_model.specs.Repeated.{is_mention_of}
use Rattle.tangled_names.proofs.Keys.{names_turn}
use Rattle.tangled_names.proofs.facts.noted_names.Goals as goal

pub loop-mention-preserved : goal.loop-mention-preserved
loop-mention-preserved c = λ x.
    names_turn c.args.mentions.now c.loop-mention.mention-index _ c.loop-mention-test.true (is_mention_of c.args.what) c.is_of-is.result x (chars c.as_str.result.now)
    c.loop-mention.names c.add_name_if.new.self _ c.is_of-is.ensures (ap chars c.as_str.ensures) c.in_ok-add_name_if.ensures (c.loop-mention.invariant x)
