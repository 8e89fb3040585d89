use Rattle.walk_model.proofs.opens.OpenedAll.{has_opened}
use Rattle.walk_model.proofs.laws.walk_opens.Goals as goal

pub returns : goal.returns
returns c = λ p h. has_opened p h
