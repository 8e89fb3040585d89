use Rattle.std.proofs.Common.{◌≡◌}
use Rattle.semantic_tree.specs.Forest.{count}
use Rattle.semantic_tree.specs.Unwrapped.{inner_expression}
use Rattle.semantic_tree.proofs.view.AstKind.get_inner_expression.Given as goal

-- the wrappers so far stand round the same expression
abbrev pub invariant-loop-kind : goal.invariant-loop-kind
invariant-loop-kind l = inner_expression l.kind.node.now ≡ inner_expression l.self.node.now

abbrev pub decreases-loop-kind : goal.decreases-loop-kind
decreases-loop-kind l = count l.kind.node.now.children
