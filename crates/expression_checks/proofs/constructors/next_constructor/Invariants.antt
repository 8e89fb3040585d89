use Rattle.std.proofs.Common.{◌≡◌, filter, length}
use Rattle.check_context.specs.Grandchildren.{grandchildren_left}
use Rattle.check_model.specs.Classes.{is_constructor_with_body}
use Rattle.expression_checks.proofs.constructors.next_constructor.Given as goal

abbrev pub invariant-loop-member : goal.invariant-loop-member
invariant-loop-member l = filter is_constructor_with_body (grandchildren_left l.members) ≡ filter is_constructor_with_body (grandchildren_left l.initial.members)

abbrev pub decreases-loop-member : goal.decreases-loop-member
decreases-loop-member l = length (grandchildren_left l.members)
