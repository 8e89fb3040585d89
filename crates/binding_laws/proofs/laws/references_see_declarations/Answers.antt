use Rattle.binding_laws.proofs.TiedOutward.{ties_are_outward}
use Rattle.binding_laws.proofs.laws.references_see_declarations.Goals as goal

pub returns : goal.returns
returns c = λ p e. ties_are_outward p e
