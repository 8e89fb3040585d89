use Rattle.std.proofs.Common.{◌≡◌}
use Rattle.semantic_tree.specs.Forest.{count}
use Rattle.semantic_tree.specs.Unwrapped.{without_parentheses}
use Rattle.semantic_tree.proofs.view.AstKind.without_parentheses.Given as goal

-- the wrappers so far stand round the same expression
abbrev pub invariant-loop-kind : goal.invariant-loop-kind
invariant-loop-kind l = without_parentheses l.kind.node.now ≡ without_parentheses l.self.node.now

abbrev pub decreases-loop-kind : goal.decreases-loop-kind
decreases-loop-kind l = count l.kind.node.now.children
