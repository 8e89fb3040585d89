-- The path to a node of a store.
use Rattle.std.specs.Prelude.{ℕ, List}
use Rattle.semantic_tree.specs.declared.node.Node.{Node}
use Rattle.node_store.specs.NodeList.{NodeList}
use Rattle.node_store.specs.Outward.{outward, numbered_of, kinds_of}

-- what a node and those above it show, inner first, the root last
abbrev pub path_in : NodeList → ℕ → List Node
path_in list n = kinds_of (numbered_of list.nodes (outward list.parents n))
