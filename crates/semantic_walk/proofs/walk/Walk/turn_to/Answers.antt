use Rattle.std.proofs.Common.{sym, ap, ◌∙◌}
use Rattle.semantic_walk.proofs.DoingBits.{still_before, still_even}
use Rattle.semantic_walk.proofs.walk.Walk.turn_to.Goals as goal

-- in another role the cursor stays
pub returns-else-eq-clause-made : goal.returns-else-eq-clause-made
returns-else-eq-clause-made c =
    let w = c.args.self.now in
    let parent = c.args.parent.node.now in
    ap (λ n. record w { cursor = n })
    (sym (still_before parent w.is_ambient c.args.role c.args.child.node.now w.cursor (still_even parent.kind c.requires) (sym c.eq.ensures ∙ c.if-eq.false)))
