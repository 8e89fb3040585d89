use Rattle.std.proofs.Common.{◌≡◌}
use Rattle.semantic_tree.specs.Forest.{count}
use Rattle.check_model.specs.Groups.{under_labels}
use Rattle.statement_checks.proofs.jumps.under_labels.Given as goal

abbrev pub invariant-loop-inner : goal.invariant-loop-inner
invariant-loop-inner l = under_labels l.inner.node.now ≡ under_labels l.kind.node.now

abbrev pub decreases-loop-inner : goal.decreases-loop-inner
decreases-loop-inner l = count l.inner.node.now.children
