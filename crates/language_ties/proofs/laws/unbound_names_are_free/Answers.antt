use Rattle.language_ties.proofs.UndeclaredNames.{unbound_nowhere, unbound_is_free}
use Rattle.language_ties.proofs.laws.unbound_names_are_free.Goals as goal

pub returns-clause-nowhere : goal.returns-clause-nowhere
returns-clause-nowhere c = λ p name e h. unbound_nowhere p name e h

pub returns-clause-free : goal.returns-clause-free
returns-clause-free c = λ p name h e b. unbound_is_free p name h e b
