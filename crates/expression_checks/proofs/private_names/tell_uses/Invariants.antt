use Rattle.std.proofs.Common.{Some, flat_map}
use Rattle.class_table.specs.Lists.{uses_in}
use Rattle.check_model.specs.Classes.{use_rows}
use Rattle.check_model.specs.Context.{classes_from}
use Rattle.check_context.specs.Tells.{IsTelling}
use Rattle.expression_checks.proofs.private_names.tell_uses.Given as goal

abbrev pub invariant-loop-used : goal.invariant-loop-used
invariant-loop-used l = IsTelling (flat_map (use_rows (classes_from l.classes (Some l.class))) (uses_in l.classes l.class)) (flat_map (use_rows (classes_from l.classes (Some l.class))) l.used-iterator) l.fn.out l.out
