use Rattle.std.proofs.Common.{length, ap, arith}
use Rattle.node_store.proofs.Ways.{rest_is_below, numbered_step}
use Rattle.node_store.proofs.ancestors.AstNodeEnumeratedAncestorsIterIterator.next.Goals as goal

pub invariant_of-self-2 : goal.invariant_of-self-2
invariant_of-self-2 c = rest_is_below _ _ _ _ c.in_ok-id.ensures.steps c.self.invariant

pub returns-clause-steps : goal.returns-clause-steps
returns-clause-steps c =
    rw (← c.self.view_is) (numbered_step c.self.inside.nodes.now _ _ _ _ _ c.index.ensures c.in_ok-id.ensures.steps c.self.invariant)

pub returns-clause-goes : goal.returns-clause-goes
returns-clause-goes c =
    let steps = returns-clause-steps c in record { on = λ finite. (tt, tt, omega (arith, ap length steps)); keeps = tt; rests = λ finite. tt }
