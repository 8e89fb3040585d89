use Rattle.std.proofs.Common.{ap, ◌∙◌}
use Rattle.link_search.specs.Answers.{answer_if}
use Rattle.link_search.proofs.answer.Search.answer.Goals as goal

pub returns-in-Some : goal.returns-in-Some
returns-in-Some c = rw c.in-Name.is (c.answer_at.ensures ∙ ap (answer_if c.args.self.now) c.in-Some.ensures.index)

pub returns-in-None : goal.returns-in-None
returns-in-None c = rw c.in-Name.is (ap (answer_if c.args.self.now) c.in-None.ensures.index)
