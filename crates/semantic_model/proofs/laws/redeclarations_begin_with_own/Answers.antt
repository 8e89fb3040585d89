use Rattle.semantic_model.proofs.fits.Afterwards.{lists_begin}
use Rattle.semantic_model.proofs.laws.redeclarations_begin_with_own.Goals as goal

pub returns : goal.returns
returns c = λ p. lists_begin p
