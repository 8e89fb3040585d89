use Rattle.class_table.proofs.Fitting.{told_parent}
use Rattle.class_table.proofs.laws.a_table_tells_parents.Goals as goal

pub returns : goal.returns
returns c = told_parent
