use Rattle.std.proofs.Common.{◌≡◌, sym, ◌∙◌}
use Rattle.std.specs.Map.{lookup}
use Rattle.class_table.proofs.SpelledKeys.{stored_eq, lookup_seen, lookup_ids}
use Rattle.class_table.proofs.meant_names.MeantNames.meaning.Goals as goal

pub returns-clause-meaning : goal.returns-clause-meaning
returns-clause-meaning c =
    let found : c.copied.result ≡ lookup (stored_eq (c.args.name, c.args.is_private)) c.self.inside.meanings.entries = c.copied.ensures ∙ c.get.ensures.value in
    rw (← c.self.view_is) (found ∙ sym (lookup_seen (c.args.name, c.args.is_private) c.spell.ensures c.self.inside.meanings.entries c.self.invariant))

pub returns-clause-within : goal.returns-clause-within
returns-clause-within c =
    let found : c.copied.result ≡ lookup (stored_eq (c.args.name, c.args.is_private)) c.self.inside.meanings.entries = c.copied.ensures ∙ c.get.ensures.value in
    rw found (lookup_ids (stored_eq (c.args.name, c.args.is_private)) c.self.inside.meanings.entries c.self.invariant)
