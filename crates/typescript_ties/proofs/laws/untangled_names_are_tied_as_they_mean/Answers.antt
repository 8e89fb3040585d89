use Rattle.typescript_ties.proofs.SimpleByTrial.{simple_name}
use Rattle.typescript_ties.proofs.UntangledTies.{nothing_parts}
use Rattle.typescript_ties.proofs.laws.untangled_names_are_tied_as_they_mean.Goals as goal

pub returns-clause-agree : goal.returns-clause-agree
returns-clause-agree c = λ p name h common typed numbered untangled simple. nothing_parts p h common typed numbered name untangled simple

pub returns-clause-tried : goal.returns-clause-tried
returns-clause-tried c = λ p name h common typed numbered untangled tried. nothing_parts p h common typed numbered name untangled (simple_name p name tried)
