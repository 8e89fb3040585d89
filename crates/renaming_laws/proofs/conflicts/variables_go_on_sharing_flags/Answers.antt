use Rattle.renaming_laws.proofs.SharedFlags.{sharing_kept}
use Rattle.renaming_laws.proofs.conflicts.variables_go_on_sharing_flags.Goals as goal

pub returns : goal.returns
returns c = λ p q s y new faultless numbered there e states none share. sharing_kept p faultless numbered s y there new q e states none share
