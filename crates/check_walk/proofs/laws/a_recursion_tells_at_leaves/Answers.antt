use Rattle.check_walk.proofs.Along.{turn_told, last_untold, node_told}
use Rattle.check_walk.proofs.laws.a_recursion_tells_at_leaves.Goals as goal

pub returns-clause-turns : goal.returns-clause-turns
returns-clause-turns c = turn_told

pub returns-clause-ends : goal.returns-clause-ends
returns-clause-ends c = λ checks source ds t p own n cursor. last_untold p own n checks source ds t

pub returns-clause-node : goal.returns-clause-node
returns-clause-node c = node_told
