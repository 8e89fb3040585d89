-- What contracts see of a node of the store.
use Rattle.node_store.specs.NodeList.{SeenNode}
use Rattle.node_store.specs.declared.ast_node.AstNode.{AstNode}

abbrev pub seen : AstNode → SeenNode
seen a = record { node = a.kind.node.now; id = a.id; scope = a.scope_id }
