use Rattle.link_targets.proofs.Sets.{set_follows}
use Rattle.link_targets.proofs.laws.exports_follow.Goals as goal

pub returns : goal.returns
returns c = λ texts ms s apart are. set_follows texts ms s apart are
