use Rattle.link_targets.proofs.Sets.{set_within}
use Rattle.link_targets.proofs.laws.exports_stay_within.Goals as goal

pub returns : goal.returns
returns c = λ texts ms s apart are. set_within texts ms s apart are
