-- The nodes that a walk has entered, and the one at which it stands.
use Rattle.std.specs.Prelude.{ℕ, ◌-◌, ◌≤◌, length, slice_index}
use Rattle.semantic_syntax.specs.declared.node_flags.NodeFlags.{NodeFlags}
use Rattle.semantic_tree.specs.declared.node.Node.{Node}
use Rattle.node_store.specs.NodeList.{NodeList, no_nodes, with_node}

pub record Entered : Type 0 where
  pub list : NodeList
  -- the id of the node at which the walk stands; 0 at first
  pub current : ℕ

-- the walk stands at a node of the list, if there is one
abbrev pub StandsInList : Entered → Type 0
StandsInList e = e.current ≤ length e.list.nodes - 1

abbrev pub nothing_entered : Entered
nothing_entered = record { list = no_nodes; current = 0 }

-- no flag is set
abbrev pub no_flags : NodeFlags
no_flags = record { bits = 0 }

-- the walk has entered a node below the one at which it stood, in the scope
abbrev pub entering : Entered → Node → ℕ → Entered
entering e node scope =
    record {
      list = with_node e.list node (length e.list.nodes) scope e.current no_flags;
      current = length e.list.nodes;
    }

-- the walk is back at the parent
abbrev pub leaving : Entered → Entered
leaving e = record e { current = slice_index e.list.parents e.current }
