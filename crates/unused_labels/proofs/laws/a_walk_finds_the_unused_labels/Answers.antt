use Rattle.unused_labels.proofs.Walked.{finds, finds_all}
use Rattle.unused_labels.proofs.laws.a_walk_finds_the_unused_labels.Goals as goal

pub returns-clause-part : goal.returns-clause-part
returns-clause-part c = finds

pub returns-clause-program : goal.returns-clause-program
returns-clause-program c = finds_all
