use Rattle.std.proofs.Common.{◌≡◌, ◌++◌, nat_eq, drop}
use Rattle.std.specs.HashSet.{contains as has_key}
use Rattle.semantic_tree.specs.Forest.{count}
use Rattle.semantic_tree.specs.Children.{forest_of}
use Rattle.mangler.specs.Spots.{seen_below, seen_from}
use Rattle.mangler.proofs.seen_nodes.+push_seen.Given as goal

-- with those of the children that are left, all nodes are there
abbrev pub invariant-loop-role : goal.invariant-loop-role
invariant-loop-role l = record {
  items : forest_of l.role-items ≡ l.node.children;
  rest : l.nodes.items ++ seen_below (has_key nat_eq l.exported) l.fn.spot l.node (forest_of (drop l.role-index l.role-items)) ≡ l.fn.nodes.items ++ seen_from (has_key nat_eq l.exported) l.fn.spot l.node;
}

-- how many nodes are below
abbrev pub decreases-push_seen : goal.decreases-push_seen
decreases-push_seen l = count l.node.now.children
