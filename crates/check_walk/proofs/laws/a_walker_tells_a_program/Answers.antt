use Rattle.check_walk.proofs.FromRoot.{whole_told}
use Rattle.check_walk.proofs.laws.a_walker_tells_a_program.Goals as goal

pub returns : goal.returns
returns c = whole_told
