use Rattle.std.specs.Prelude.{flat_map}
use Rattle.check_model.specs.Methods.{items_of, parameter_rows}
use Rattle.check_context.specs.Grandchildren.{grandchildren_left}
use Rattle.check_context.specs.Tells.{IsTelling}
use Rattle.type_checks.proofs.methods.tell_parameters.Given as goal

abbrev pub invariant-loop-item : goal.invariant-loop-item
invariant-loop-item l = IsTelling (flat_map parameter_rows (items_of l.value.node.now)) (flat_map parameter_rows (grandchildren_left l.item-iterator)) l.fn.out l.out
