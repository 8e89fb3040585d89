use Rattle.semantic_model.proofs.fits.TablesFit.{tables_fit}
use Rattle.semantic_model.proofs.laws.tables_fit.Goals as goal

pub returns : goal.returns
returns c = λ p h. tables_fit p h
