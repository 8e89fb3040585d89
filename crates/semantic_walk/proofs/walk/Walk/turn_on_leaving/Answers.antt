use Rattle.std.proofs.Common.{sym, ap, ◌∙◌}
use Rattle.semantic_walk.proofs.DoingBits.{still_leaving}
use Rattle.semantic_walk.proofs.walk.Walk.turn_on_leaving.Goals as goal

-- where the cursor doesn't move, it is as it was
pub returns-else-moves_cursor-clause-made : goal.returns-else-moves_cursor-clause-made
returns-else-moves_cursor-clause-made c =
    let w = c.args.self.now in
    ap (λ n. record w { cursor = n }) (sym (still_leaving c.args.doings w.cursor (sym c.moves_cursor.ensures ∙ c.if-moves_cursor.false)))
