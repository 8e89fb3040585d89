use Rattle.walk_model.proofs.declares.DeclaredAll.{has_declared}
use Rattle.walk_model.proofs.laws.walk_declares.Goals as goal

pub returns : goal.returns
returns c = λ p h. has_declared p h
