use Rattle.std.proofs.Common.{◌≡◌, ◌==◌}
use Rattle.std.specs.List.{list_any}
use Rattle.semantic_tree.specs.ChildIter.{left_of}
use Rattle.semantic_tree.specs.Views.{all_in}
use Rattle.check_context.proofs.nodes.is_child_in.Given as goal

abbrev pub invariant-loop-child : goal.invariant-loop-child
invariant-loop-child l = list_any (λ child. child.node_id == l.inner.node.now.node_id) (left_of l.child-iterator) ≡ list_any (λ child. child.node_id == l.inner.node.now.node_id) (all_in l.fn.role l.outer.node.now)
