-- What the iterators of the store have left, and what their items show.
use Rattle.std.specs.Prelude.{ℕ, List, map, drop}
use Rattle.std.specs.Borrow.{Bor}
use Rattle.semantic_tree.specs.declared.node.Node.{Node}
use Rattle.semantic_tree.specs.declared.view.AstKind.{AstKind}
use Rattle.node_store.specs.NodeList.{SeenNode}
use Rattle.node_store.specs.Seen.{seen}
use Rattle.node_store.specs.declared.ast_node.AstNode.{AstNode}
use Rattle.node_store.specs.declared.node_iter.AstNodesIter.{AstNodesIter}

-- the nodes that are left
abbrev pub nodes_left : AstNodesIter → List SeenNode
nodes_left it = map seen (drop it.next it.nodes.now)

-- the node behind a reference
abbrev pub seen_behind : Bor AstNode → SeenNode
seen_behind r = seen r.now

-- an id, and the node behind a reference
abbrev pub numbered_behind : ℕ × Bor AstNode → ℕ × SeenNode
numbered_behind p = (p.0, seen p.1.now)

-- what a view shows
abbrev pub shown : AstKind → Node
shown kind = kind.node.now
