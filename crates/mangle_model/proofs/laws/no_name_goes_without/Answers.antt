use Rattle.semantic_model.specs.Analysis.{analysis_of}
use Rattle.mangle_model.specs.Mangling.{may_change}
use Rattle.mangle_model.proofs.EnoughNames.{enough}
use Rattle.mangle_model.proofs.laws.no_name_goes_without.Goals as goal

pub returns : goal.returns
returns c = λ o p. enough (may_change o p) (analysis_of p) p
