use Rattle.language_ties.proofs.EnvironmentsRound.{scopes_are_environments}
use Rattle.language_ties.proofs.laws.scopes_are_environments.Goals as goal

pub returns : goal.returns
returns c = λ p h e. scopes_are_environments p h e
