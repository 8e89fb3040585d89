use Rattle.check_walk.proofs.ClassForm.{classes_formed}
use Rattle.check_walk.proofs.ShownClasses.{begins, comes, turns, child_comes}
use Rattle.check_walk.proofs.laws.a_recursion_shows_what_checks_look_at.Goals as goal

pub returns-clause-shapes : goal.returns-clause-shapes
returns-clause-shapes c = classes_formed

pub returns-clause-begins : goal.returns-clause-begins
returns-clause-begins c = begins

pub returns-clause-comes : goal.returns-clause-comes
returns-clause-comes c = comes

pub returns-clause-child : goal.returns-clause-child
returns-clause-child c = λ b p r here after h. let k = child_comes b p r here after h in (h.around, k.0, k.1)

pub returns-clause-behind : goal.returns-clause-behind
returns-clause-behind c = turns
