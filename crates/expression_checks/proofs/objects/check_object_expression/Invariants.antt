use Rattle.std.proofs.Common.{◌∷◌, length}
use Rattle.std.specs.Prelude.{flat_map}
use Rattle.check_model.specs.Expressions.{proto_rows, check_object_expression}
use Rattle.check_model.specs.Search.{neighbours}
use Rattle.check_context.specs.Handed.{sight}
use Rattle.check_context.specs.Tells.{IsTelling}
use Rattle.expression_checks.specs.ProtoKeys.{keys_left}
use Rattle.expression_checks.proofs.objects.check_object_expression.Given as goal

abbrev pub invariant-loop-key : goal.invariant-loop-key
invariant-loop-key l = IsTelling (check_object_expression (sight l.kind.node.now l.ctx)) (flat_map proto_rows (neighbours (l.earlier.node.now ∷ keys_left l.keys))) l.fn.out l.out

abbrev pub decreases-loop-key : goal.decreases-loop-key
decreases-loop-key l = length (keys_left l.keys)
