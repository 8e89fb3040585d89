use Rattle.semantic_model.proofs.form.Shape.{has_form}
use Rattle.program_laws.proofs.TiedNames.{ties_have_names}
use Rattle.program_laws.proofs.names.ties_have_names.Goals as goal

pub returns : goal.returns
returns c = λ p e. ties_have_names p (has_form p e)
