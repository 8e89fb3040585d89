use Rattle.check_walk.proofs.WalkConditions.{stands_inside, root_stands_inside}
use Rattle.check_walk.proofs.laws.scopes_are_shown_where_a_place_stands.Goals as goal

pub returns-clause-inside : goal.returns-clause-inside
returns-clause-inside c = stands_inside

pub returns-clause-root : goal.returns-clause-root
returns-clause-root c = root_stands_inside
