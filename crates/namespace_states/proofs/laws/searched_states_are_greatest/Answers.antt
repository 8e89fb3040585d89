use Rattle.namespace_states.proofs.Greatest.{searched}
use Rattle.namespace_states.proofs.laws.searched_states_are_greatest.Goals as goal

pub returns : goal.returns
returns c = λ program p h a. searched program p h a
