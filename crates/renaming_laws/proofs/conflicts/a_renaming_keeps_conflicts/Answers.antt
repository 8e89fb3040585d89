use Rattle.renaming_laws.proofs.KeptConflicts.{conflicts_kept, conflicts_kept_without}
use Rattle.renaming_laws.proofs.NamespaceNames.{states_unexported}
use Rattle.renaming_laws.proofs.conflicts.a_renaming_keeps_conflicts.Goals as goal

pub returns-clause-kept : goal.returns-clause-kept
returns-clause-kept c = λ p q s y new h n there e states share others. conflicts_kept p h n s y there new q e states share others

pub returns-clause-without_namespaces : goal.returns-clause-without_namespaces
returns-clause-without_namespaces c = λ p q s y new h n there e states share others. conflicts_kept_without p h n s y there new q e states share others

pub returns-clause-unexported : goal.returns-clause-unexported
returns-clause-unexported c = λ p q s y new faultless numbered there e exports share others.
    conflicts_kept p faultless numbered s y there new q e (states_unexported p faultless numbered s y there new q e exports) share others
