use Rattle.std.proofs.Common.{sym, ◌∙◌}
use Rattle.simple_names.proofs.MapTexts.{known_stays, entry_comes}
use Rattle.simple_names.proofs.name_map.NameMap.add.Goals as goal

pub returns : goal.returns
returns c = λ q.
    rw (← c.self.view_is) (entry_comes c.self.inside.names.entries c.insert.new.self.entries c.args.name.now c.args.new_name.now c.in_ok-key.key c.in_ok-value.value
    c.in_ok-key.ensures.ok c.in_ok-value.ensures.ok (sym c.contains_key.ensures ∙ c.if-contains_key.false) c.in_ok-insert.ensures.entries q)

pub returns-then-contains_key : goal.returns-then-contains_key
returns-then-contains_key c = λ q. rw (← c.self.view_is) (known_stays c.self.inside.names.entries c.args.name.now c.args.new_name.now c.utf8.name (sym c.contains_key.ensures ∙ c.if-contains_key.true) q)
