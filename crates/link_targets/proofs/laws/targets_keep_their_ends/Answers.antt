use Rattle.link_targets.proofs.Growth.{denoted_stays}
use Rattle.link_targets.proofs.laws.targets_keep_their_ends.Goals as goal

pub returns : goal.returns
returns c = λ old new t e grows d. denoted_stays old new grows t e d
