use Rattle.std.proofs.Common.{map, ap, ◌∙◌}
use Rattle.std.specs.Str.{chars}
use Rattle.tangled_names.specs.Stored.{key_seen, with_key}
use Rattle.tangled_names.proofs.SpelledKeys.{insert_seen}
use Rattle.tangled_names.proofs.key_set.KeySet.add.Goals as goal

pub returns : goal.returns
returns c =
    ap (map key_seen) c.in_ok-insert.ensures.keys
    ∙ insert_seen (c.args.name, c.args.home) c.spell.ensures c.self.inside.stored.keys c.self.invariant
    ∙ ap (λ ks. with_key ks (record { name = chars c.args.name.now; home = c.args.home })) c.self.view_is
