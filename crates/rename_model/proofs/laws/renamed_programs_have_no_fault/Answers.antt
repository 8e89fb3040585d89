use Rattle.rename_model.proofs.Completeness.{no_fault_renamed}
use Rattle.rename_model.proofs.Refusals.{none_means_free}
use Rattle.rename_model.proofs.laws.renamed_programs_have_no_fault.Goals as goal

pub returns-clause-shaped : goal.returns-clause-shaped
returns-clause-shaped c = λ p s y new h n there bad none. (no_fault_renamed p h n s y there new bad (none_means_free p s none)).0

pub returns-clause-numbered : goal.returns-clause-numbered
returns-clause-numbered c = λ p s y new h n there bad none. (no_fault_renamed p h n s y there new bad (none_means_free p s none)).1
