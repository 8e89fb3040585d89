use Rattle.std.proofs.Common.{◌≡◌, ◌==◌, length}
use Rattle.std.specs.Prelude.{find}
use Rattle.check_context.specs.Shown.{links_left}
use Rattle.expression_checks.proofs.verdict.link_of.Given as goal

abbrev pub invariant-loop-child : goal.invariant-loop-child
invariant-loop-child l = find (λ link. link.0.node_id == l.id) (links_left l.left) ≡ find (λ link. link.0.node_id == l.id) (links_left l.initial.left)

abbrev pub decreases-loop-child : goal.decreases-loop-child
decreases-loop-child l = length (links_left l.left)
