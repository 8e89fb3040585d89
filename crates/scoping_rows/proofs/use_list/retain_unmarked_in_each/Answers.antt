use Rattle.std.proofs.Common.{length, ap, ◌∙◌, arith}
use Rattle.scoping_rows.specs.Kept.{without_marked}
use Rattle.scoping_rows.proofs.Sweeps.{swept_row, swept_rows}
use Rattle.scoping_rows.proofs.use_list.retain_unmarked_in_each.Goals as goal

pub loop-list-preserved : goal.loop-list-preserved
loop-list-preserved c = swept_row (without_marked c.args.excluded.now) _ c.loop-list.list-items c.loop-list.list-index c.list-item.result c.retain_unmarked.new.list (omega arith) c.retain_unmarked.ensures c.loop-list.invariant

pub returns : goal.returns
returns c =
    swept_rows (without_marked c.args.excluded.now) c.args.lists.now.items _ c.loop-list.list-items c.args.lists.now.len c.loop-list.list-index c.deref_mut-list-items.ensures.value
    (omega (arith, c.deref_mut-list-items.ensures.len)) (c.loop-list.auto.list-items ∙ ap length c.deref_mut-list-items.ensures.value) (omega (arith, ap length c.deref_mut-list-items.ensures.value)) c.loop-list.invariant
