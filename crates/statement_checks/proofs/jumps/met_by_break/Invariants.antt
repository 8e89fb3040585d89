use Rattle.std.proofs.Common.{◌≡◌, ◌||◌, length}
use Rattle.std.specs.Prelude.{find}
use Rattle.node_store.specs.PathLeft.{path_left}
use Rattle.check_model.specs.Jumps.{ends_jump_search, is_loop_or_switch}
use Rattle.statement_checks.proofs.jumps.met_by_break.Given as goal

abbrev pub invariant-loop-kind : goal.invariant-loop-kind
invariant-loop-kind l = find (λ node. ends_jump_search node || is_loop_or_switch node) (path_left l.left) ≡ find (λ node. ends_jump_search node || is_loop_or_switch node) (path_left l.initial.left)

abbrev pub decreases-loop-kind : goal.decreases-loop-kind
decreases-loop-kind l = length (path_left l.left)
