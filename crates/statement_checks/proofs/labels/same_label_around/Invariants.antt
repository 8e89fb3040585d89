use Rattle.std.proofs.Common.{◌≡◌, length}
use Rattle.node_store.specs.PathLeft.{path_left}
use Rattle.check_model.specs.Jumps.{same_label_around}
use Rattle.statement_checks.proofs.labels.same_label_around.Given as goal

abbrev pub invariant-loop-kind : goal.invariant-loop-kind
invariant-loop-kind l = same_label_around l.label.node.now (path_left l.left) ≡ same_label_around l.label.node.now (path_left l.initial.left)

abbrev pub decreases-loop-kind : goal.decreases-loop-kind
decreases-loop-kind l = length (path_left l.left)
