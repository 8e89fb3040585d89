use Rattle.renaming_laws.proofs.BackAllowed.{back_allowed}
use Rattle.renaming_laws.proofs.GoingBack.{renamed_back}
use Rattle.renaming_laws.proofs.going_back.renaming_back_gives_the_program.Goals as goal

pub returns-clause-same : goal.returns-clause-same
returns-clause-same c = λ p q s y new h n there e. renamed_back p h n s y there new q e

pub returns-clause-allowed : goal.returns-clause-allowed
returns-clause-allowed c = λ p q s y new h n there e good. back_allowed p h n s y there new q e good
