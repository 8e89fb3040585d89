use Rattle.unused_labels.proofs.StepsWalked.{all_append, steps_walked, node_steps_walked, all_steps_walked}
use Rattle.unused_labels.proofs.laws.steps_find_the_unused_labels.Goals as goal

pub returns-clause-lists : goal.returns-clause-lists
returns-clause-lists c = all_append

pub returns-clause-below : goal.returns-clause-below
returns-clause-below c = λ p own n cursor f w. steps_walked f p own n cursor w

pub returns-clause-node : goal.returns-clause-node
returns-clause-node c = node_steps_walked

pub returns-clause-program : goal.returns-clause-program
returns-clause-program c = all_steps_walked
