use Rattle.semantic_walk.proofs.Folding.{walk_folds}
use Rattle.semantic_walk.proofs.laws.a_walk_shows_the_fold.Goals as goal

pub returns : goal.returns
returns c = walk_folds
