use Rattle.semantic_tree.proofs.KindSums.{kinds_make_up}
use Rattle.semantic_tree.proofs.laws.kinds_make_up_counts.Goals as goal

pub returns : goal.returns
returns c = kinds_make_up
