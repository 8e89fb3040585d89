use Rattle.generated_tree.proofs.NoFault.{no_fault}
use Rattle.generated_tree.proofs.laws.a_generated_script_has_no_fault.Goals as goal

pub returns : goal.returns
returns c = no_fault
