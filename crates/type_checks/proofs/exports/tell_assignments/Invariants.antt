use Rattle.std.specs.Prelude.{flat_map}
use Rattle.semantic_kinds.specs.declared.role.Role.TheVariants as roles
use Rattle.semantic_tree.specs.ChildIter.{left_of}
use Rattle.semantic_tree.specs.Views.{all_in}
use Rattle.check_model.specs.Assignments.{assignment_row}
use Rattle.check_context.specs.Tells.{IsTelling}
use Rattle.type_checks.proofs.exports.tell_assignments.Given as goal

abbrev pub invariant-loop-statement : goal.invariant-loop-statement
invariant-loop-statement l = IsTelling (flat_map assignment_row (all_in roles.Body l.block.node.now)) (flat_map assignment_row (left_of l.statement-iterator)) l.fn.out l.out
