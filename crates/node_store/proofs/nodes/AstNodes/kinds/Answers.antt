use Rattle.std.proofs.Common.{◌∙◌, ap}
use Rattle.node_store.proofs.KindBits.{one_more}
use Rattle.node_store.proofs.nodes.AstNodes.kinds.Goals as goal

pub loop-node-preserved : goal.loop-node-preserved
loop-node-preserved c = λ k.
    one_more k c.ty.result _ _ _ _ _ (c.set.ensures k) (c.ty.ensures ∙ ap (λ node. node.kind) c.kind.ensures) c.in-Some.ensures.steps
    ∙ c.loop-node.invariant k
