use Rattle.std.proofs.Common.{◌≡◌, length}
use Rattle.node_store.specs.Path.{from_node}
use Rattle.node_store.specs.PathLeft.{path_left}
use Rattle.node_store.proofs.ancestor_kinds.AncestorKinds.from_node.Given as goal

-- the node was not among those that were passed
abbrev pub invariant-loop-kind : goal.invariant-loop-kind
invariant-loop-kind l = record {
  passed : from_node l.id (path_left l.left) ≡ from_node l.id (path_left l.initial.left);
  same : path_left l.rest ≡ path_left l.left;
}

abbrev pub decreases-loop-kind : goal.decreases-loop-kind
decreases-loop-kind l = length (path_left l.rest)
