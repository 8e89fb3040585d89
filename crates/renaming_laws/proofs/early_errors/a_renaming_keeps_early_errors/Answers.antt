use Rattle.renaming_laws.proofs.AllErrors.{errors_kept}
use Rattle.renaming_laws.proofs.KeptConflicts.{states_without}
use Rattle.renaming_laws.proofs.NamespaceNames.{states_unexported}
use Rattle.renaming_laws.proofs.early_errors.a_renaming_keeps_early_errors.Goals as goal

pub returns-clause-kept : goal.returns-clause-kept
returns-clause-kept c = λ p q s y new checks faultless numbered there rules e states share others.
    errors_kept p faultless numbered s y there new q checks rules e states share others

pub returns-clause-without_namespaces : goal.returns-clause-without_namespaces
returns-clause-without_namespaces c = λ p q s y new checks faultless numbered there rules e none share others.
    errors_kept p faultless numbered s y there new q checks rules e (states_without p faultless numbered s y there new q e none) share others

pub returns-clause-unexported : goal.returns-clause-unexported
returns-clause-unexported c = λ p q s y new checks faultless numbered there rules e exports share others.
    errors_kept p faultless numbered s y there new q checks rules e (states_unexported p faultless numbered s y there new q e exports) share others
