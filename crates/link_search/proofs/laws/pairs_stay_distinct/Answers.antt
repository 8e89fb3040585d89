use Rattle.link_search.proofs.Few.{stay_distinct}
use Rattle.link_search.proofs.laws.pairs_stay_distinct.Goals as goal

pub returns : goal.returns
returns c = λ ps p d. stay_distinct ps p d
