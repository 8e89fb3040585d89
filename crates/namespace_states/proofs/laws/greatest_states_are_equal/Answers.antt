use Rattle.namespace_states.proofs.Greatest.{only-one}
use Rattle.namespace_states.proofs.laws.greatest_states_are_equal.Goals as goal

pub returns : goal.returns
returns c = λ i s t g h. only-one i s t g h
