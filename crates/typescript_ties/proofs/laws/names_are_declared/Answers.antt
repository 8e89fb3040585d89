use Rattle.typescript_ties.proofs.DeclaredAlike.{names_are_declared}
use Rattle.typescript_ties.proofs.laws.names_are_declared.Goals as goal

pub returns : goal.returns
returns c = λ p h. names_are_declared p h
