-- Blocks of statements around a node.
use Rattle.std.specs.Prelude.{◌≡◌, List, [], map, reverse}
use Rattle.semantic_tree.specs.declared.node.Node.{Node}
use Rattle.semantic_model.specs.Namespace.{Item, statements}
use Rattle.namespace_states.specs.declared.open_lists.OpenList.{OpenList}
use Rattle.namespace_states.specs.FirstNames.{with_statements}

abbrev pub node_of : Item → Node
node_of i = i.node

abbrev pub statements_of : OpenList → List Node
statements_of list = statements list.block.node.now

-- the statements of each, of which the innermost stand first
abbrev pub chain_of : List OpenList → List (List Node)
chain_of lists = map statements_of (reverse lists)

-- its names are those that its statements declare
abbrev pub HasNames : OpenList → Type 0
HasNames list = list.names ≡ with_statements [] (statements_of list)
