use Rattle.std.specs.Prelude.{flat_map}
use Rattle.semantic_kinds.specs.declared.role.Role.TheVariants as roles
use Rattle.semantic_tree.specs.ChildIter.{left_of}
use Rattle.semantic_tree.specs.Views.{all_in}
use Rattle.check_model.specs.TypedLoops.{typed_rows}
use Rattle.check_context.specs.Tells.{IsTelling}
use Rattle.type_checks.proofs.heads.tell_types.Given as goal

abbrev pub invariant-loop-declarator : goal.invariant-loop-declarator
invariant-loop-declarator l = IsTelling (flat_map (typed_rows l.for_in) (all_in roles.Declarators l.left.node.now)) (flat_map (typed_rows l.for_in) (left_of l.declarator-iterator)) l.fn.out l.out
