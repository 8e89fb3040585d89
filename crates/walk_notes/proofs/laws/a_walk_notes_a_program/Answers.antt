use Rattle.walk_notes.proofs.WholeProgram.{program_classes, program_labels}
use Rattle.walk_notes.proofs.laws.a_walk_notes_a_program.Goals as goal

pub returns-clause-classes : goal.returns-clause-classes
returns-clause-classes c = program_classes

pub returns-clause-labels : goal.returns-clause-labels
returns-clause-labels c = program_labels
