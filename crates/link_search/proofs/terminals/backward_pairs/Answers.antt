use Rattle.std.proofs.Common.{◌≡◌, ◌++◌, ◌+◌, sym, ap, ◌∙◌, drop, arith, map, append_assoc, length}
use Rattle.std.proofs.lemmas.List.{length-map}
use Rattle.reachability.specs.Rows.{row, lists}
use Rattle.link_search.specs.Reached.{backward_from}
use Rattle.link_search.proofs.Spreads.{backward_more}
use Rattle.link_search.proofs.terminals.backward_pairs.Goals as goal

pub loop-from-preserved : goal.loop-from-preserved
loop-from-preserved c =
    ap (λ ps. ps ++ backward_from (c.loop-from.from + 1) (drop (c.loop-from.from + 1) (lists c.args.rows.now))) (c.in_ok-add_backward.ensures.ok ∙ ap (λ r. c.loop-from.pairs.items ++ map (λ b. (b, c.loop-from.from)) r) c.row.ensures)
    ∙ append_assoc c.loop-from.pairs.items (map (λ b. (b, c.loop-from.from)) (row (lists c.args.rows.now) c.loop-from.from)) (backward_from (c.loop-from.from + 1) (drop (c.loop-from.from + 1) (lists c.args.rows.now)))
    ∙ ap (λ ps. c.loop-from.pairs.items ++ ps) (sym (backward_more (lists c.args.rows.now) c.loop-from.from (let e : length (lists c.args.rows.now) ≡ length c.args.rows.now = length-map c.args.rows.now (λ v. v.items) in omega (arith, e))))
    ∙ c.loop-from.invariant
