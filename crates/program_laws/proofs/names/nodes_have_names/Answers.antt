use Rattle.semantic_model.proofs.form.Shape.{has_form}
use Rattle.program_laws.proofs.NodeNames.{nodes_have_names, tied_nodes_have_names}
use Rattle.program_laws.proofs.names.nodes_have_names.Goals as goal

pub returns-clause-belonging : goal.returns-clause-belonging
returns-clause-belonging c = λ p e n. nodes_have_names p (has_form p e) n

pub returns-clause-tied : goal.returns-clause-tied
returns-clause-tied c = λ p e n. tied_nodes_have_names p (has_form p e) n
