use Rattle.std.proofs.Common.{◌≡◌, drop}
use Rattle.semantic_tree.specs.Forest.{count}
use Rattle.semantic_tree.specs.Children.{forest_of}
use Rattle.name_lint.specs.Gathered.{symbol_at_node, gathered_below}
use Rattle.name_lint.proofs.tree_pass.TreePass.+gather.Given as goal

-- to gather from what is left is to gather from all
abbrev pub invariant-loop-child : goal.invariant-loop-child
invariant-loop-child l = record {
  items : forest_of l.child-items ≡ l.node.node.now.children;
  rest : gathered_below (symbol_at_node l.tables) l.inside (forest_of (drop l.child-index l.child-items)) l.self ≡ gathered_below (symbol_at_node l.tables) l.inside l.node.node.now.children l.initial.self;
}

-- how many nodes are below
abbrev pub decreases-gather : goal.decreases-gather
decreases-gather l = count l.node.node.now.children
