use Rattle.std.proofs.Common.{◌≡◌, false, map, sym, ap, ◌∙◌, rules}
use Rattle.std.specs.Str.{chars}
use Rattle.namespace_states.specs.FirstNames.{with_first}
use Rattle.namespace_states.specs.Entries.{entry_shown}
use Rattle.namespace_states.proofs.SpelledNames.{put_new, put_spelled}
use Rattle.namespace_states.proofs.first_by_name.FirstByName.put.Goals as goal

pub invariant_of-self : goal.invariant_of-self
invariant_of-self c =
    rw c.in_ok-insert.ensures.entries (put_spelled c.args.name c.args.statement c.spell.ensures c.self.inside.statements.entries c.self.invariant)

pub returns-in_ok-insert : goal.returns-in_ok-insert
returns-in_ok-insert c =
    let unknown : c.contains_key.result ≡ false = search rules in
    ap (map entry_shown) c.in_ok-insert.ensures.entries
    ∙ put_new c.args.name c.args.statement c.spell.ensures c.self.inside.statements.entries c.self.invariant (sym c.contains_key.ensures ∙ unknown)
    ∙ ap (λ es. with_first es (chars c.args.name.now, c.args.statement.node.now)) c.self.view_is
