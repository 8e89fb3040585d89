use Rattle.std.proofs.Common.{List, ◌∷◌, ap, subst, flat_map}
use Rattle.semantic_tree.specs.declared.node.Node.{Node}
use Rattle.check_model.specs.Expressions.{proto_rows, check_object_expression}
use Rattle.check_model.specs.Search.{neighbours}
use Rattle.check_context.specs.Handed.{sight}
use Rattle.check_context.specs.Tells.{IsTelling}
use Rattle.check_context.proofs.Telling.{goes_on, loop_stops}
use Rattle.expression_checks.proofs.objects.check_object_expression.Goals as goal

pub returns-in_err-tell_proto : goal.returns-in_err-tell_proto
returns-in_err-tell_proto c =
    loop_stops _ proto_rows (check_object_expression (sight c.args.kind.node.now c.args.ctx.now)) _ _ _ _ (c.loop-key.earlier.node.now, c.in-Some-next.key.node.now) _ c.from_residual.result c.from_residual.ensures.1
    (ap (λ (keys : List Node). neighbours (c.loop-key.earlier.node.now ∷ keys)) c.in-Some-next.ensures) c.loop-key.invariant c.in_err-tell_proto.ensures

pub loop-key-preserved : goal.loop-key-preserved
loop-key-preserved c =
    goes_on (check_object_expression (sight c.args.kind.node.now c.args.ctx.now)) (proto_rows (c.loop-key.earlier.node.now, c.in-Some-next.key.node.now)) _ _ _ _
    (subst (λ (keys : List Node). IsTelling (check_object_expression (sight c.args.kind.node.now c.args.ctx.now)) (flat_map proto_rows (neighbours (c.loop-key.earlier.node.now ∷ keys))) c.args.out.now c.loop-key.out) c.in-Some-next.ensures c.loop-key.invariant)
    c.in_ok-tell_proto.ensures
