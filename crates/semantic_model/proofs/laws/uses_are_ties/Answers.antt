use Rattle.semantic_model.proofs.fits.Afterwards.{uses_are_ties}
use Rattle.semantic_model.proofs.fits.TablesFit.{tables_fit}
use Rattle.semantic_model.proofs.laws.uses_are_ties.Goals as goal

pub returns : goal.returns
returns c = λ p h. uses_are_ties p (tables_fit p h).references_stand_once
