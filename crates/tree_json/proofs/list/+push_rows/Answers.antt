use Rattle.std.proofs.Common.{◌+◌, map}
use Rattle.tree_json.specs.Listing.{line}
use Rattle.tree_json.proofs.Steps.{row_first, rows_more, rows_last}
use Rattle.tree_json.proofs.list.+push_rows.Goals as goal

pub loop-role-init : goal.loop-role-init
loop-role-init t c = record {
  items = c.as_slice-role-items.ensures.forest;
  rows = row_first c.args.depth c.args.role c.args.node.now c.args.rows.now.items c.push.new.self.items c.row_of.result c.as_slice-role-items.result.now c.in_ok-push.ensures.items c.row_of.ensures c.as_slice-role-items.ensures.forest;
}

pub loop-role-preserved : goal.loop-role-preserved
loop-role-preserved t c = record {
  items = c.loop-role.invariant.items;
  rows = rows_more (c.args.depth + 1) c.as_slice-role-items.result.now c.loop-role.role-index c.loop-role-item.result (map line c.loop-role.rows.items) (map line c.push_rows.new.rows.items) _ c.loop-role-test.true c.loop-role-item.is c.in_ok-push_rows.ensures c.loop-role.invariant.rows;
}

pub returns : goal.returns
returns t c = rows_last (c.args.depth + 1) c.as_slice-role-items.result.now c.loop-role.role-index (map line c.loop-role.rows.items) _ c.loop-role-test.false c.loop-role.invariant.rows
