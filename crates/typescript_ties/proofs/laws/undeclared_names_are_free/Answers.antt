use Rattle.typescript_ties.proofs.UndeclaredFree.{means_nothing, undeclared_is_free}
use Rattle.typescript_ties.proofs.laws.undeclared_names_are_free.Goals as goal

pub returns-clause-nothing : goal.returns-clause-nothing
returns-clause-nothing c = λ p name h. means_nothing p name h

pub returns-clause-untied : goal.returns-clause-untied
returns-clause-untied c = λ p name h b. undeclared_is_free p name h b
