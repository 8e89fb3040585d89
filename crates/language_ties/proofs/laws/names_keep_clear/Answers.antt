use Rattle.language_ties.proofs.clear.LexicalNames.{lexical_clear}
use Rattle.language_ties.proofs.clear.SingleNames.{single_clear}
use Rattle.language_ties.proofs.clear.UnclashedNames.{unclashed_clear}
use Rattle.language_ties.proofs.tangled.PlainNames.{plain_name}
use Rattle.language_ties.proofs.tangled.Untangled.{none_but_with}
use Rattle.language_ties.proofs.laws.names_keep_clear.Goals as goal

pub returns-clause-lexical : goal.returns-clause-lexical
returns-clause-lexical c = λ p name h e inside. lexical_clear p name h e inside

pub returns-clause-once : goal.returns-clause-once
returns-clause-once c = λ p name h e numbered once. single_clear p name h e numbered once

pub returns-clause-unclashed : goal.returns-clause-unclashed
returns-clause-unclashed c = λ p name h e numbered plain no_clash. unclashed_clear p h e numbered name plain no_clash

pub returns-clause-untangled : goal.returns-clause-untangled
returns-clause-untangled c = λ p name h e numbered untangled well_placed no_clash.
    unclashed_clear p h e numbered name (plain_name p h e numbered name (none_but_with p name untangled) well_placed) no_clash
