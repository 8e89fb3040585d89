use Rattle.std.specs.Prelude.{flat_map}
use Rattle.semantic_kinds.specs.declared.role.Role.TheVariants as roles
use Rattle.semantic_tree.specs.ChildIter.{left_of}
use Rattle.semantic_tree.specs.Views.{all_in, child_of}
use Rattle.check_model.specs.Exports.{local_rows}
use Rattle.check_model.specs.Search.{rows_of_some}
use Rattle.check_context.specs.Handed.{around}
use Rattle.check_context.specs.Tells.{IsTelling}
use Rattle.statement_checks.proofs.exports.tell_specifiers.Given as goal

abbrev pub invariant-loop-specifier : goal.invariant-loop-specifier
invariant-loop-specifier l =
    IsTelling (flat_map (λ specifier. rows_of_some (local_rows (around l.ctx)) (child_of roles.Local specifier)) (all_in roles.Specifiers l.statement.node.now))
    (flat_map (λ specifier. rows_of_some (local_rows (around l.ctx)) (child_of roles.Local specifier)) (left_of l.specifier-iterator)) l.fn.out l.out
