use Rattle.semantic_tree.specs.Renamed.{swap}
use Rattle.semantic_model.proofs.swapped.AlikeProgram.{references_renamed}
use Rattle.semantic_model.proofs.laws.swapped_names_swap_references.Goals as goal

pub returns : goal.returns
returns c = λ a b p. references_renamed (swap a b) p
