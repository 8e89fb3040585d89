use Rattle.language_ties.proofs.nearest.NearestTies.{tied_nearest}
use Rattle.language_ties.proofs.laws.references_are_tied_nearest.Goals as goal

pub returns : goal.returns
returns c = λ p h e. tied_nearest p h e
