use Rattle.std.specs.Prelude.{flat_map}
use Rattle.semantic_kinds.specs.declared.role.Role.TheVariants as roles
use Rattle.semantic_tree.specs.ChildIter.{left_of}
use Rattle.semantic_tree.specs.Views.{all_in}
use Rattle.check_model.specs.Exports.{export_rows}
use Rattle.check_context.specs.Handed.{around}
use Rattle.check_context.specs.Tells.{IsTelling}
use Rattle.statement_checks.proofs.exports.tell_exports.Given as goal

abbrev pub invariant-loop-statement : goal.invariant-loop-statement
invariant-loop-statement l = IsTelling (flat_map (export_rows (around l.ctx)) (all_in roles.Body l.program.node.now)) (flat_map (export_rows (around l.ctx)) (left_of l.statement-iterator)) l.fn.out l.out
