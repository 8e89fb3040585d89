use Rattle.std.proofs.Common.{◌≡◌, ◌++◌, drop}
use Rattle.semantic_tree.specs.Forest.{count}
use Rattle.semantic_tree.specs.Children.{forest_of}
use Rattle.semantic_queries.specs.Given.{given_below, given_from}
use Rattle.semantic_queries.proofs.node_symbols.exports.+push_all_given.Given as goal

-- with those of the children that are left, all names are there
abbrev pub invariant-loop-child : goal.invariant-loop-child
invariant-loop-child l = record {
  items : forest_of l.child-items ≡ l.node.children;
  rest : l.names.items ++ given_below l.export (forest_of (drop l.child-index l.child-items)) ≡ l.fn.names.items ++ given_from l.export l.node;
}

-- how many nodes are below
abbrev pub decreases-push_all_given : goal.decreases-push_all_given
decreases-push_all_given l = count l.node.now.children
