use Rattle.rename_model.proofs.Refusals.{ends_renamed, renames}
use Rattle.rename_model.proofs.laws.what_is_renamed_means_the_same.Goals as goal

pub returns : goal.returns
returns c = λ p s new q. (ends_renamed p s new q, renames p s new q)
