use Rattle.language_ties.proofs.UndeclaredNames.{names_are_bound}
use Rattle.language_ties.proofs.laws.names_are_bound.Goals as goal

pub returns : goal.returns
returns c = λ p h e. names_are_bound p h e
