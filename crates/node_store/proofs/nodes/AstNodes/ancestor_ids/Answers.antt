use Rattle.std.proofs.Common.{◌<◌, ◌∙◌, ap, sym, subst, length, arith}
use Rattle.node_store.specs.Outward.{above, EndsAtRoot}
use Rattle.node_store.proofs.Ways.{above_ends}
use Rattle.node_store.proofs.nodes.AstNodes.ancestor_ids.Goals as goal

pub returns-clause-ends : goal.returns-clause-ends
returns-clause-ends c = λ pos.
    let within = rw (← c.self.view_is) at c.requires in
    let lt : c.args.n < length c.self.inside.parents.items = omega (arith, within, c.self.invariant.with_parents) in
    subst EndsAtRoot (sym (c.above.ensures.ids ∙ ap (λ ids. above ids c.args.n) c.as_slice.ensures.value))
    (above_ends c.self.inside.parents.items c.args.n c.self.invariant.before lt pos)
