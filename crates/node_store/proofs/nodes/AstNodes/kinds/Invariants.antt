use Rattle.std.proofs.Common.{◌≡◌, ◌||◌}
use Rattle.std.specs.List.{list_any}
use Rattle.semantic_kinds.specs.declared.kind.AstType.{AstType}
use Rattle.semantic_kinds.specs.Kinds.{same_kind}
use Rattle.node_store.specs.HeldKinds.{has_kind}
use Rattle.node_store.specs.KindSets.{set_has_kind}
use Rattle.node_store.specs.Left.{nodes_left}
use Rattle.node_store.proofs.nodes.AstNodes.kinds.Given as goal

-- what is set already and the nodes that are left decide
abbrev pub invariant-loop-node : goal.invariant-loop-node
invariant-loop-node l = (k : AstType) → (set_has_kind l.kinds k || list_any (λ s. same_kind k s.node.kind) (nodes_left l.node-iterator)) ≡ has_kind l.self k
