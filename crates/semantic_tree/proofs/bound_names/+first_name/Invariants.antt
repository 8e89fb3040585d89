use Rattle.std.proofs.Common.{◌≡◌, drop}
use Rattle.semantic_tree.specs.Forest.{count}
use Rattle.semantic_tree.specs.Children.{forest_of}
use Rattle.semantic_tree.specs.Nodes.{first_of}
use Rattle.semantic_tree.specs.BoundNames.{bound_below, bound_names, rising}
use Rattle.semantic_tree.proofs.bound_names.+first_name.Given as goal

-- no name of the children so far has so great an id
abbrev pub invariant-loop-role : goal.invariant-loop-role
invariant-loop-role l = record {
  items : forest_of l.role-items ≡ l.node.children;
  rest : first_of (rising l.fn.from (bound_below l.node.kind (forest_of (drop l.role-index l.role-items)))) ≡ first_of (rising l.fn.from (bound_names l.node));
}

-- how many nodes are below
abbrev pub decreases-first_name : goal.decreases-first_name
decreases-first_name l = count l.node.now.children
