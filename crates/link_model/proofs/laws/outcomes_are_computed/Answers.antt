use Rattle.link_model.proofs.Outcomes.{computed}
use Rattle.link_model.proofs.laws.outcomes_are_computed.Goals as goal

pub returns : goal.returns
returns c = λ ms e h. computed ms e h
