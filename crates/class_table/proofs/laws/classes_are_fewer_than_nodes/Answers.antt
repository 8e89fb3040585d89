use Rattle.std.proofs.Common.{arith}
use Rattle.class_table.proofs.Room.{elements_fit_trees, trees_fit}
use Rattle.class_table.proofs.Noting.{classes_fit}
use Rattle.class_table.proofs.laws.classes_are_fewer_than_nodes.Goals as goal

pub returns-clause-classes : goal.returns-clause-classes
returns-clause-classes c = classes_fit

pub returns-clause-elements : goal.returns-clause-elements
returns-clause-elements c = λ body. let made = elements_fit_trees body in let within = trees_fit body in omega arith
