use Rattle.std.proofs.Common.{◌&&◌, ap}
use Rattle.std.specs.Str.{chars}
use Rattle.tangle_model.specs.Mention.{Mention}
use Rattle.tangle_model.specs.Repeated.{is_mention_of, key_of, key_stands}
use Rattle.tangled_names.proofs.Keys.{names_turn}
use Rattle.tangled_names.proofs.facts.names_among.Goals as goal

pub loop-mention-preserved : goal.loop-mention-preserved
loop-mention-preserved c = λ x.
    names_turn c.args.mentions.now c.loop-mention.mention-index _ c.loop-mention-test.true (λ (m : Mention). is_mention_of c.args.what m && key_stands (key_of m) c.args.keys.now) c.is_among-is.result x (chars c.as_str.result.now)
    c.loop-mention.names c.add_name_if.new.self _ c.is_among-is.ensures (ap chars c.as_str.ensures) c.in_ok-add_name_if.ensures (c.loop-mention.invariant x)
