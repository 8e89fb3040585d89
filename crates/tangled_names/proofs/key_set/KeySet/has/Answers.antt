use Rattle.std.proofs.Common.{sym, ap, ◌∙◌}
use Rattle.std.specs.Str.{chars}
use Rattle.tangle_model.specs.Repeated.{key_stands}
use Rattle.tangled_names.proofs.SpelledKeys.{stands_seen}
use Rattle.tangled_names.proofs.key_set.KeySet.has.Goals as goal

pub returns : goal.returns
returns c =
    c.contains.ensures
    ∙ sym (stands_seen (c.args.name, c.args.home) c.spell.ensures c.self.inside.stored.keys c.self.invariant)
    ∙ ap (key_stands (record { name = chars c.args.name.now; home = c.args.home })) c.self.view_is
