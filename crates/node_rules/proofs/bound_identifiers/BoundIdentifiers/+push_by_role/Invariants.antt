use Rattle.std.proofs.Common.{◌≡◌, ◌++◌, drop}
use Rattle.semantic_tree.specs.Forest.{count}
use Rattle.semantic_tree.specs.Children.{forest_of}
use Rattle.semantic_tree.specs.BoundNames.{bound_below, bound_names}
use Rattle.node_rules.proofs.bound_identifiers.BoundIdentifiers.+push_by_role.Given as goal

-- with those of the children that are left, all names are there
abbrev pub invariant-loop-role : goal.invariant-loop-role
invariant-loop-role l = record {
  items : forest_of l.role-items ≡ l.part.node.now.children;
  rest : l.self ++ bound_below l.part.node.now.kind (forest_of (drop l.role-index l.role-items)) ≡ l.initial.self ++ bound_names l.part.node.now;
}

-- how many nodes are below
abbrev pub decreases-push_by_role : goal.decreases-push_by_role
decreases-push_by_role l = count l.part.node.now.children
