use Rattle.std.proofs.Common.{◌≡◌, ◌||◌, length}
use Rattle.std.specs.Prelude.{find}
use Rattle.check_model.specs.Expressions.{enters_parameter}
use Rattle.check_model.specs.Groups.{is_function}
use Rattle.check_context.specs.Shown.{links_left}
use Rattle.expression_checks.proofs.suspensions.parameter_or_function.Given as goal

abbrev pub invariant-loop-child : goal.invariant-loop-child
invariant-loop-child l = find (λ link. enters_parameter link || is_function link.1.kind) (links_left l.left) ≡ find (λ link. enters_parameter link || is_function link.1.kind) (links_left l.initial.left)

abbrev pub decreases-loop-child : goal.decreases-loop-child
decreases-loop-child l = length (links_left l.left)
