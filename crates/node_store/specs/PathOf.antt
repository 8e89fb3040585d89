-- The path to the current node, by the nodes of a store or by a stack.
use Rattle.std.specs.Prelude.{⊤, ◌<◌, List, length}
use Rattle.semantic_tree.specs.declared.node.Node.{Node}
use Rattle.node_store.specs.PathIn.{path_in}
use Rattle.node_store.specs.declared.ancestry.Ancestry.{Ancestry}
use Rattle.node_store.specs.declared.ancestry.Ancestry.TheVariants.{Nodes, Stack}

-- the path to the current node, inner first, the root last
abbrev pub path_of : Ancestry → List Node
path_of (Nodes nodes current) = path_in nodes.now current
path_of (Stack stack) = stack.now

-- where there is a store, it has the current node
abbrev pub IsInStore : Ancestry → Type 0
IsInStore (Nodes nodes current) = current < length nodes.now.nodes
IsInStore (Stack stack) = ⊤

-- there is a current node
abbrev pub HasCurrent : Ancestry → Type 0
HasCurrent (Nodes nodes current) = current < length nodes.now.nodes
HasCurrent (Stack stack) = 0 < length stack.now
