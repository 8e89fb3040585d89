use Rattle.semantic_model.proofs.fits.Afterwards.{one_list}
use Rattle.semantic_model.proofs.fits.TablesFit.{tables_fit}
use Rattle.semantic_model.proofs.laws.references_stand_in_one_list.Goals as goal

pub returns : goal.returns
returns c = λ p h. one_list p (tables_fit p h).references_stand_once
