use Rattle.semantic_tree.specs.Renamed.{swap}
use Rattle.semantic_model.proofs.swapped.AlikeProgram.{swap_keeps, scopes_renamed}
use Rattle.semantic_model.proofs.laws.swapped_names_leave_scopes.Goals as goal

pub returns : goal.returns
returns c = λ a b p h k. scopes_renamed (swap a b) (swap_keeps a b h.not_eval k.not_eval h.not_arguments k.not_arguments) p
