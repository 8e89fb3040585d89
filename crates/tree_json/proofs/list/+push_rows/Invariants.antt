use Rattle.std.proofs.Common.{◌≡◌, ◌+◌, ◌++◌, map, drop}
use Rattle.semantic_tree.specs.Forest.{count}
use Rattle.semantic_tree.specs.Children.{forest_of}
use Rattle.tree_json.specs.Lines.{lines_of, node_lines}
use Rattle.tree_json.specs.Listing.{line}
use Rattle.tree_json.proofs.list.+push_rows.Given as goal

-- the rows so far, with those of the children that are left, are all
abbrev pub invariant-loop-role : goal.invariant-loop-role
invariant-loop-role l = record {
  items : forest_of l.role-items ≡ l.node.children;
  rows : map line l.rows.items ++ lines_of (l.fn.depth + 1) (forest_of (drop l.role-index l.role-items)) ≡ map line l.fn.rows.items ++ node_lines l.fn.depth l.fn.role l.node;
}

abbrev pub decreases-push_rows : goal.decreases-push_rows
decreases-push_rows l = count l.node.now.children
