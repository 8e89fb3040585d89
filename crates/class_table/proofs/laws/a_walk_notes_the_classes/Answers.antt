use Rattle.class_table.proofs.Noting.{unnoted}
use Rattle.class_table.proofs.NotingSteps.{noted_classes}
use Rattle.class_table.proofs.laws.a_walk_notes_the_classes.Goals as goal

pub returns-clause-noted : goal.returns-clause-noted
returns-clause-noted c = noted_classes

pub returns-clause-off : goal.returns-clause-off
returns-clause-off c = λ root b off. unnoted root.children root.kind root.node_id b off
