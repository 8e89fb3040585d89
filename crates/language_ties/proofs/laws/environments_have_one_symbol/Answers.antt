use Rattle.language_ties.specs.AgreeingNames.{IsPlainName}
use Rattle.language_ties.proofs.agree.KnownBounds.{one_variable}
use Rattle.language_ties.proofs.clear.UnclashedNames.{unclashed_clear}
use Rattle.language_ties.proofs.shared.HomesShared.{share_symbols}
use Rattle.language_ties.proofs.symbols.OneSymbol.{one_symbol}
use Rattle.language_ties.proofs.tangled.PlainNames.{plain_name}
use Rattle.language_ties.proofs.tangled.Untangled.{none_but_with}
use Rattle.language_ties.proofs.laws.environments_have_one_symbol.Goals as goal

pub returns-clause-untangled : goal.returns-clause-untangled
returns-clause-untangled c = λ p name h e numbered untangled well_placed no_clash.
    let plain : IsPlainName p name = plain_name p h e numbered name (none_but_with p name untangled) well_placed in
    one_variable p h e numbered name plain (share_symbols p h e name (unclashed_clear p h e numbered name plain no_clash))

pub returns-clause-clear : goal.returns-clause-clear
returns-clause-clear c = λ p name h e numbered clear. one_symbol p h e numbered name (share_symbols p h e name clear)
