use Rattle.semantic_model.proofs.form.Shape.{has_form}
use Rattle.program_laws.proofs.TiedNames.{declarations_have_names}
use Rattle.program_laws.proofs.names.declarations_have_names.Goals as goal

pub returns : goal.returns
returns c = λ p e. declarations_have_names p (has_form p e)
