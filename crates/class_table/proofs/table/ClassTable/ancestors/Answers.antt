use Rattle.class_table.proofs.Parents.{stand_before}
use Rattle.class_table.proofs.table.ClassTable.ancestors.Goals as goal

pub new-requires : goal.new-requires
new-requires c = stand_before _ c.self.inside.parent_ids.entries c.self.invariant.lists.inside
