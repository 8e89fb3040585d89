use Rattle.semantic_tree.proofs.ShapedLaws.{no_fault-IsShaped, IsShaped-no_fault}
use Rattle.semantic_tree.proofs.laws.faultless_where_shaped.Goals as goal

pub returns : goal.returns
returns c = λ p. (no_fault-IsShaped p, IsShaped-no_fault p)
