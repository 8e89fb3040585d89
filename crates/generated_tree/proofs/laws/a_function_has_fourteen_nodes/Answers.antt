use Rattle.generated_tree.proofs.NoFault.{nodes_count}
use Rattle.generated_tree.proofs.laws.a_function_has_fourteen_nodes.Goals as goal

pub returns : goal.returns
returns c = nodes_count
