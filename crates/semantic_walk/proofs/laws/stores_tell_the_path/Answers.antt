use Rattle.semantic_walk.proofs.ListedPaths.{ids_above, parent_above, nodes_above}
use Rattle.semantic_walk.proofs.StoredPaths.{stored_path}
use Rattle.semantic_walk.proofs.laws.stores_tell_the_path.Goals as goal

pub returns-clause-ids : goal.returns-clause-ids
returns-clause-ids c = ids_above

pub returns-clause-parents : goal.returns-clause-parents
returns-clause-parents c = parent_above

pub returns-clause-nodes : goal.returns-clause-nodes
returns-clause-nodes c = nodes_above

pub returns-clause-walk : goal.returns-clause-walk
returns-clause-walk c = stored_path
