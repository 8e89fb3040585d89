use Rattle.typescript_ties.proofs.TiedTogether.{tied_together}
use Rattle.typescript_ties.proofs.laws.plain_names_are_tied_together.Goals as goal

pub returns : goal.returns
returns c = λ p name h plainly. tied_together p h name plainly
