-- Programs in which an analysis finds the same.
use Rattle.std.specs.Prelude.{◌≡◌, List}
use Rattle.semantic_tree.specs.Tree.{Tree}
use Rattle.semantic_model.specs.Event.{events}
use Rattle.semantic_model.specs.Fold.{Conflict, start}
use Rattle.semantic_model.specs.Hoist.{run}
use Rattle.semantic_model.specs.NamespaceStates.{namespace_states}
use Rattle.semantic_model.specs.NodeTable.{node_tables}
use Rattle.semantic_model.specs.Step.{steps}
use Rattle.semantic_model.specs.TablesOf.{tables_of}

-- the conflicts of a program
abbrev pub conflicts_of : Tree → List Conflict
conflicts_of p = (run start (events (steps p))).conflicts

-- the same tables, the same at each node, the same conflicts, and namespaces of the same states
pub record HaveSameAnalysis (p q : Tree) : Type 0 where
  pub tables : tables_of p ≡ tables_of q
  pub at_nodes : node_tables (steps p) ≡ node_tables (steps q)
  pub conflicts : conflicts_of p ≡ conflicts_of q
  pub states : namespace_states (steps p) ≡ namespace_states (steps q)
