use Rattle.rename_model.proofs.Differences.{exact_none, exact_some, complete}
use Rattle.rename_model.proofs.laws.differences_are_exact.Goals as goal

pub returns-clause-none : goal.returns-clause-none
returns-clause-none c = λ p q e. exact_none p q e

pub returns-clause-some : goal.returns-clause-some
returns-clause-some c = λ p q node e. exact_some p q node e

pub returns-clause-complete : goal.returns-clause-complete
returns-clause-complete c = λ p q s. complete p q s
