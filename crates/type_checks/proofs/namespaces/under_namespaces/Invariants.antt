use Rattle.std.proofs.Common.{◌≡◌}
use Rattle.semantic_tree.specs.Forest.{count}
use Rattle.check_model.specs.Groups.{under_namespaces}
use Rattle.type_checks.proofs.namespaces.under_namespaces.Given as goal

abbrev pub invariant-loop-inner : goal.invariant-loop-inner
invariant-loop-inner l = under_namespaces l.inner.node.now ≡ under_namespaces l.kind.node.now

abbrev pub decreases-loop-inner : goal.decreases-loop-inner
decreases-loop-inner l = count l.inner.node.now.children
