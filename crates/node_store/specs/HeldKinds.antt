-- Which kinds the nodes of a store have.
use Rattle.std.specs.Prelude.{Bool}
use Rattle.std.specs.List.{list_any}
use Rattle.semantic_kinds.specs.Kinds.{same_kind}
use Rattle.semantic_kinds.specs.declared.kind.AstType.{AstType}
use Rattle.node_store.specs.NodeList.{NodeList}

-- some node has the kind
abbrev pub has_kind : NodeList → AstType → Bool
has_kind list kind = list_any (λ s. same_kind kind s.node.kind) list.nodes
