use Rattle.check_walk.proofs.Handing.{rows_inside, rows_last}
use Rattle.check_walk.proofs.laws.a_walk_hands_what_its_rows_look_at.Goals as goal

pub returns-clause-inside : goal.returns-clause-inside
returns-clause-inside c = rows_inside

pub returns-clause-root : goal.returns-clause-root
returns-clause-root c = rows_last
