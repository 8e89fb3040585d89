use Rattle.language_ties.proofs.block_functions.StrictScopes.{strictness_agrees}
use Rattle.language_ties.proofs.laws.strictness_agrees.Goals as goal

pub returns : goal.returns
returns c = λ p h e. strictness_agrees p h e
