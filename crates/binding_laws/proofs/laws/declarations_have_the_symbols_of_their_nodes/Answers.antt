use Rattle.binding_laws.proofs.SymbolsAtNodes.{symbols_are_at_nodes}
use Rattle.binding_laws.proofs.laws.declarations_have_the_symbols_of_their_nodes.Goals as goal

pub returns : goal.returns
returns c = λ p e n. symbols_are_at_nodes p e n
