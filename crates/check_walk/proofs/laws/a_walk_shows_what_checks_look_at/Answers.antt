use Rattle.check_walk.proofs.AlongClasses.{leaves_rightly, elements_shown}
use Rattle.check_walk.proofs.laws.a_walk_shows_what_checks_look_at.Goals as goal

pub returns-clause-classes : goal.returns-clause-classes
returns-clause-classes c = leaves_rightly

pub returns-clause-elements : goal.returns-clause-elements
returns-clause-elements c = elements_shown
