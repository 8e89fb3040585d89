use Rattle.class_table.proofs.Parents.{stand_before}
use Rattle.class_table.proofs.table.ClassTable.parent_of.Goals as goal

pub returns-clause-before : goal.returns-clause-before
returns-clause-before c = rw c.parent_of.ensures (stand_before _ c.self.inside.parent_ids.entries c.self.invariant.lists.inside c.args.c)
