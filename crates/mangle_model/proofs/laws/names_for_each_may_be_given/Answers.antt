use Rattle.mangle_model.proofs.EachAccepted.{all_may_be_given}
use Rattle.mangle_model.proofs.EachNode.{all_named}
use Rattle.mangle_model.proofs.laws.names_for_each_may_be_given.Goals as goal

pub returns-clause-pass : goal.returns-clause-pass
returns-clause-pass c = λ o p h n. all_may_be_given o p h n

pub returns-clause-identifiers : goal.returns-clause-identifiers
returns-clause-identifiers c = λ o p h n. all_named o p h n
