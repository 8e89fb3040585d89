use Rattle.std.proofs.Common.{◌≡◌, length}
use Rattle.std.specs.List.{list_any}
use Rattle.node_store.specs.PathLeft.{path_left}
use Rattle.check_model.specs.Types.{extends_over}
use Rattle.type_checks.proofs.infer.is_extended_over.Given as goal

abbrev pub invariant-loop-kind : goal.invariant-loop-kind
invariant-loop-kind l = list_any (extends_over l.span) (path_left l.left) ≡ list_any (extends_over l.span) (path_left l.initial.left)

abbrev pub decreases-loop-kind : goal.decreases-loop-kind
decreases-loop-kind l = length (path_left l.left)
