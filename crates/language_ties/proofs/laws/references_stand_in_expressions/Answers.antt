use Rattle.language_ties.proofs.headers.InExpressions.{stand_in_expressions}
use Rattle.language_ties.proofs.laws.references_stand_in_expressions.Goals as goal

pub returns : goal.returns
returns c = λ p name h e. stand_in_expressions p h e name
