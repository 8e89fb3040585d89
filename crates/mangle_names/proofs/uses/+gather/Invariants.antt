use Rattle.std.proofs.Common.{◌≡◌}
use Rattle.semantic_tree.specs.Forest.{count}
use Rattle.semantic_tree.specs.Children.{forest_of}
use Rattle.mangle_names.proofs.uses.+gather.Given as goal

-- these are the children
abbrev pub invariant-loop-role : goal.invariant-loop-role
invariant-loop-role l = forest_of l.role-items ≡ l.node.children

-- how many nodes are below
abbrev pub decreases-gather : goal.decreases-gather
decreases-gather l = count l.node.now.children
