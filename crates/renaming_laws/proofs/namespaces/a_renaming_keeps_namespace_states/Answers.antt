use Rattle.renaming_laws.proofs.NamespaceNames.{states_unexported, states_chosen}
use Rattle.renaming_laws.proofs.namespaces.a_renaming_keeps_namespace_states.Goals as goal

pub returns-clause-unexported : goal.returns-clause-unexported
returns-clause-unexported c = λ p q s y new faultless numbered there exports e. states_unexported p faultless numbered s y there new q e exports

pub returns-clause-of_one_symbol : goal.returns-clause-of_one_symbol
returns-clause-of_one_symbol c = λ p q s y new faultless numbered there chosen e. states_chosen p faultless numbered s y there new q e chosen
