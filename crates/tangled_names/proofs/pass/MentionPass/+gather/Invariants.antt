use Rattle.std.proofs.Common.{◌≡◌, drop}
use Rattle.semantic_tree.specs.Forest.{count}
use Rattle.semantic_tree.specs.Children.{forest_of}
use Rattle.tangled_names.specs.Gathered.{mentions_below}
use Rattle.tangled_names.proofs.pass.MentionPass.+gather.Given as goal

-- to note what is left is to note all
abbrev pub invariant-loop-child : goal.invariant-loop-child
invariant-loop-child l = record {
  items : forest_of l.child-items ≡ l.node.node.now.children;
  rest : mentions_below l.inside (forest_of (drop l.child-index l.child-items)) l.self ≡ mentions_below l.inside l.node.node.now.children l.initial.self;
}

-- how many nodes are below
abbrev pub decreases-gather : goal.decreases-gather
decreases-gather l = count l.node.node.now.children
