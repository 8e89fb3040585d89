use Rattle.language_ties.proofs.shared.HomesShared.{share_symbols}
use Rattle.language_ties.proofs.laws.clear_names_share_symbols.Goals as goal

pub returns : goal.returns
returns c = λ p name h e clear. share_symbols p h e name clear
