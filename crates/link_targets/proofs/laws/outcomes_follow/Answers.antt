use Rattle.link_targets.proofs.Follows.{comes}
use Rattle.link_targets.proofs.laws.outcomes_follow.Goals as goal

pub returns : goal.returns
returns c = λ texts s ms apart follow t e f d is. comes texts apart s ms follow t e f d is
