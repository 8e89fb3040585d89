use Rattle.class_table.proofs.NotingSteps.{all_append, steps_note, node_steps_note, all_steps_note}
use Rattle.class_table.proofs.laws.steps_note_the_classes.Goals as goal

pub returns-clause-lists : goal.returns-clause-lists
returns-clause-lists c = all_append

pub returns-clause-below : goal.returns-clause-below
returns-clause-below c = λ p own n cursor f b. steps_note f p own n cursor b

pub returns-clause-node : goal.returns-clause-node
returns-clause-node c = node_steps_note

pub returns-clause-program : goal.returns-clause-program
returns-clause-program c = all_steps_note
