use Rattle.std.proofs.Common.{◌≡◌}
use Rattle.std.specs.List.{list_any}
use Rattle.semantic_kinds.specs.declared.role.Role.TheVariants as roles
use Rattle.semantic_tree.specs.ChildIter.{left_of}
use Rattle.semantic_tree.specs.Views.{all_in}
use Rattle.check_model.specs.Assignments.{exports_otherwise}
use Rattle.type_checks.proofs.exports.has_exports.Given as goal

-- no statement so far exports
abbrev pub invariant-loop-statement : goal.invariant-loop-statement
invariant-loop-statement l = list_any exports_otherwise (left_of l.statement-iterator) ≡ list_any exports_otherwise (all_in roles.Body l.block.node.now)
