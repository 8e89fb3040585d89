use Rattle.std.proofs.Common.{◌∙◌}
use Rattle.class_table.proofs.Parents.{last_entry}
use Rattle.class_table.proofs.table.put_inside.Goals as goal

pub returns-in_ok-insert-clause-ok : goal.returns-in_ok-insert-clause-ok
returns-in_ok-insert-clause-ok c = rw c.in-Some.is (c.in_ok-insert.ensures.entries ∙ last_entry c.args.class c.in-Some.parent c.args.parents.now.entries c.requires)
