use Rattle.mangle_model.proofs.EachAccepted.{always_accepted}
use Rattle.mangle_model.proofs.laws.one_name_for_each_is_accepted.Goals as goal

pub returns : goal.returns
returns c = λ o p h n. always_accepted o p h n
