use Rattle.walk_model.proofs.refers.GivesTables.{has_referred}
use Rattle.walk_model.proofs.laws.walk_refers.Goals as goal

pub returns : goal.returns
returns c = λ p h. has_referred p h
