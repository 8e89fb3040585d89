use Rattle.renaming_laws.proofs.KeptSymbols.{declarations_kept}
use Rattle.renaming_laws.proofs.conflicts.a_renaming_keeps_declarations.Goals as goal

pub returns : goal.returns
returns c = λ p q s y new h n there e states share others. declarations_kept p h n s y there new q e states share others
