use Rattle.link_targets.proofs.Growth.{grows_and}
use Rattle.link_targets.proofs.laws.texts_keep_their_numbers.Goals as goal

pub returns : goal.returns
returns c = λ old text. grows_and old text
