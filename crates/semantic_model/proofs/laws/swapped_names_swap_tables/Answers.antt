use Rattle.semantic_tree.specs.Renamed.{swap}
use Rattle.semantic_model.proofs.swapped.AlikeProgram.{swap_keeps}
use Rattle.semantic_model.proofs.swapped.AlikeTies.{tables_renamed}
use Rattle.semantic_model.proofs.laws.swapped_names_swap_tables.Goals as goal

pub returns : goal.returns
returns c = λ a b p h k. tables_renamed (swap a b) (swap_keeps a b h.not_eval k.not_eval h.not_arguments k.not_arguments) p
