use Rattle.name_sets.proofs.NameTexts.{known_more, joined_more}
use Rattle.name_sets.proofs.name_set.NameSet.add.Goals as goal

pub returns-clause-joined : goal.returns-clause-joined
returns-clause-joined c = rw (← c.self.view_is) (joined_more c.self.inside.texts.keys c.insert.new.self.keys c.in_ok-text.text c.args.name.now c.in_ok-text.ensures.ok c.in_ok-insert.ensures.keys)

pub returns-clause-has : goal.returns-clause-has
returns-clause-has c = λ q. rw (← c.self.view_is) (known_more c.self.inside.texts.keys c.insert.new.self.keys c.in_ok-text.text c.args.name.now c.in_ok-text.ensures.ok c.in_ok-insert.ensures.keys q)
