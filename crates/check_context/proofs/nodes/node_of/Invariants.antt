use Rattle.std.proofs.Common.{◌≡◌, ◌==◌, length}
use Rattle.std.specs.Prelude.{find}
use Rattle.node_store.specs.PathLeft.{path_left}
use Rattle.check_context.proofs.nodes.node_of.Given as goal

abbrev pub invariant-loop-outer : goal.invariant-loop-outer
invariant-loop-outer l = find (λ node. node.node_id == l.id) (path_left l.left) ≡ find (λ node. node.node_id == l.id) (path_left l.initial.left)

abbrev pub decreases-loop-outer : goal.decreases-loop-outer
decreases-loop-outer l = length (path_left l.left)
