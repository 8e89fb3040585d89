use Rattle.semantic_model.proofs.form.Shape.{has_form}
use Rattle.semantic_model.proofs.bindings.Owned.{bindings_owned}
use Rattle.semantic_model.proofs.laws.bindings_are_symbols.Goals as goal

pub returns : goal.returns
returns c = λ p e. bindings_owned p (has_form p e)
