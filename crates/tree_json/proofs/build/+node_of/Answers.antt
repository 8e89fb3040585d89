use Rattle.std.proofs.Common.{◌≡◌, ◌+◌, drop, map, subst, sym, ◌∙◌, arith}
use Rattle.tree_json.specs.Listing.{line, Continues}
use Rattle.tree_json.proofs.Built.{built, one_deeper, goes_up}
use Rattle.tree_json.proofs.build.+node_of.Goals as goal

pub loop-below-preserved : goal.loop-below-preserved
loop-below-preserved t c =
    let depth = c.args.row.now.depth in
    let below = c.in-Some.below.now in
    let behind = map line (drop (c.loop-below.place + 1) c.args.rows.now) in
    let (deeper, _, split) = c.in-Some.ensures.some in
    let goes = subst (Continues (depth + 1)) split c.loop-below.invariant.rest in
    let one : below.depth ≡ depth + 1 = one_deeper depth (line below) behind goes deeper in
    record {
      lines = rw c.in-Ok.ensures.ok (built depth c.args.row.now.role c.loop-below.node below.depth below.role c.in_ok-child.child _ _ _ c.loop-below.invariant.lines one (c.in_ok-child.ensures.lines ∙ sym split));
      rest = goes_up depth below.depth _ one c.in_ok-child.ensures.rest c.in_ok-child.ensures.end;
      forward = omega (arith, c.in_ok-child.ensures.forward, c.loop-below.invariant.forward);
    }
