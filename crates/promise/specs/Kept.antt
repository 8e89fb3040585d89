-- What an analysis keeps and notes beside the tables, where it is asked to.
use Rattle.std.specs.Prelude.{List, Bool, ◌++◌, map, if◌then◌else◌}
use Rattle.semantic_tree.specs.Tree.{Tree}
use Rattle.semantic_model.specs.Class.{classes as classes_of}
use Rattle.semantic_model.specs.NodeTable.{NodeEntry, nodes as entered_nodes}
use Rattle.semantic_model.specs.Step.{steps}
use Rattle.node_store.specs.Entered.{no_flags}
use Rattle.node_store.specs.NodeList.{NodeList, SeenNode, no_nodes}
use Rattle.class_table.specs.Lists.{ClassLists, no_classes}
use Rattle.class_table.specs.Told.{lists_told}

-- a node as a store shows it
abbrev pub seen_of : NodeEntry → SeenNode
seen_of entry = record { node = entry.node; id = entry.node.node_id; scope = entry.scope }

-- the list with these nodes, without flags
abbrev pub listed : NodeList → List NodeEntry → NodeList
listed list entries =
    record {
      nodes = list.nodes ++ map seen_of entries;
      parents = list.parents ++ map (λ (entry : NodeEntry). entry.parent) entries;
      flags = list.flags ++ map (λ (entry : NodeEntry). no_flags) entries;
    }

-- the nodes of a program in preorder, each with the scope where it stands and its parent, and without flags
abbrev pub node_list : Tree → NodeList
node_list program = listed no_nodes (entered_nodes (steps program))

-- the nodes that an analysis keeps
abbrev pub kept_nodes : Bool → Tree → NodeList
kept_nodes keeps program = if keeps then node_list program else no_nodes

-- the classes of a program, where they are noted
abbrev pub classes_noted : Bool → Tree → ClassLists
classes_noted on p = if on then lists_told (classes_of p.root) else no_classes
