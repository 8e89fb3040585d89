use Rattle.renaming_laws.proofs.ToldSteps.{so_far_kept}
use Rattle.renaming_laws.proofs.conflicts.a_renaming_keeps_declarations_so_far.Goals as goal

pub returns : goal.returns
returns c = λ p q s n y new faultless numbered there e states share others. so_far_kept p faultless numbered s y there new q n e states share others
