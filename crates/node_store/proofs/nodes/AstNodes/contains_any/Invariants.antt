use Rattle.std.proofs.Common.{◌≡◌}
use Rattle.std.specs.List.{list_any}
use Rattle.node_store.specs.KindSets.{set_has_kind}
use Rattle.node_store.specs.Left.{nodes_left}
use Rattle.node_store.proofs.nodes.AstNodes.contains_any.Given as goal

-- the nodes that are left decide
abbrev pub invariant-loop-node : goal.invariant-loop-node
invariant-loop-node l = list_any (λ s. set_has_kind l.set s.node.kind) (nodes_left l.node-iterator) ≡ list_any (λ s. set_has_kind l.set s.node.kind) l.self.nodes
