use Rattle.typescript_ties.proofs.SingleNames.{nothing_parts, single_name}
use Rattle.typescript_ties.proofs.laws.single_names_are_tied_as_they_mean.Goals as goal

pub returns-clause-agree : goal.returns-clause-agree
returns-clause-agree c = λ p name h common typed numbered untangled single. nothing_parts p h common typed numbered name untangled single

pub returns-clause-tried : goal.returns-clause-tried
returns-clause-tried c = λ p name h common typed numbered untangled tried. nothing_parts p h common typed numbered name untangled (single_name p name tried)
