use Rattle.language_ties.proofs.DeclaredAsBound.{declarations_are_bound}
use Rattle.language_ties.proofs.moved.LeavingFunctions.{leaving_are_told}
use Rattle.language_ties.proofs.laws.declarations_are_bound.Goals as goal

pub returns-clause-staying : goal.returns-clause-staying
returns-clause-staying c = λ p h e. declarations_are_bound p h e

pub returns-clause-leaving : goal.returns-clause-leaving
returns-clause-leaving c = λ p h e numbered. leaving_are_told p h e numbered
