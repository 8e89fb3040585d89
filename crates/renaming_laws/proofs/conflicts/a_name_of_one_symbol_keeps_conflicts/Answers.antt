use Rattle.renaming_laws.proofs.AloneConflicts.{alone_kept}
use Rattle.renaming_laws.proofs.conflicts.a_name_of_one_symbol_keeps_conflicts.Goals as goal

pub returns : goal.returns
returns c = λ p q s y new h n there arguments eval alone unused e. alone_kept p h n s y there new q arguments eval alone unused e
