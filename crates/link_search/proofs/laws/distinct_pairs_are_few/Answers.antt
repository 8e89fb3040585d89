use Rattle.link_search.proofs.Few.{few_pairs}
use Rattle.link_search.proofs.laws.distinct_pairs_are_few.Goals as goal

pub returns : goal.returns
returns c = λ m n ps w d. few_pairs m n ps w d
