use Rattle.renaming_laws.proofs.AloneErrors.{alone_told, alone_told_out}
use Rattle.renaming_laws.proofs.early_errors.a_name_of_one_symbol_keeps_early_errors.Goals as goal

pub returns-clause-in_full : goal.returns-clause-in_full
returns-clause-in_full c = λ p q s y new checks faultless numbered there old fresh strings alone unused written e. alone_told p faultless numbered s y there new q checks old fresh strings alone unused written e

pub returns-clause-in_short : goal.returns-clause-in_short
returns-clause-in_short c = λ p q s y new checks faultless numbered there old fresh strings alone unused keeps e. alone_told_out p faultless numbered s y there new q checks old fresh strings alone unused keeps e
