use Rattle.std.proofs.Common.{◌≡◌, ◌+◌, drop}
use Rattle.semantic_tree.specs.Forest.{count}
use Rattle.semantic_tree.specs.Children.{forest_of}
use Rattle.mangle_model.specs.Written.{size_written_below}
use Rattle.mangler.proofs.written.+size_below.Given as goal

-- with the children that are left, it is all
abbrev pub invariant-loop-child : goal.invariant-loop-child
invariant-loop-child l = record {
  items : forest_of l.child-items ≡ l.node.children;
  rest : l.size + size_written_below (forest_of (drop l.child-index l.child-items)) ≡ size_written_below l.node.children;
}

-- how many nodes are below
abbrev pub decreases-size_below : goal.decreases-size_below
decreases-size_below l = count l.node.now.children
