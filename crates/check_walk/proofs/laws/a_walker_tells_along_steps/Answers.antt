use Rattle.check_walk.proofs.Along.{along_tells, along_makes, along_parts, leaving_parts, along_counts, unchecked}
use Rattle.check_walk.proofs.laws.a_walker_tells_along_steps.Goals as goal

pub returns-clause-tells : goal.returns-clause-tells
returns-clause-tells c = along_tells

pub returns-clause-makes : goal.returns-clause-makes
returns-clause-makes c = along_makes

pub returns-clause-counts : goal.returns-clause-counts
returns-clause-counts c = along_counts

pub returns-clause-unchecked : goal.returns-clause-unchecked
returns-clause-unchecked c = unchecked

pub returns-clause-parts : goal.returns-clause-parts
returns-clause-parts c = along_parts

pub returns-clause-leaves : goal.returns-clause-leaves
returns-clause-leaves c = leaving_parts
