use Rattle.check_walk.proofs.Readiness.{ready_begins, ready_enters, ready_child, ready_behind}
use Rattle.check_walk.proofs.laws.a_recursion_meets_what_checks_ask.Goals as goal

pub returns-clause-begins : goal.returns-clause-begins
returns-clause-begins c = ready_begins

pub returns-clause-enters : goal.returns-clause-enters
returns-clause-enters c = ready_enters

pub returns-clause-child : goal.returns-clause-child
returns-clause-child c = ready_child

pub returns-clause-behind : goal.returns-clause-behind
returns-clause-behind c = ready_behind
