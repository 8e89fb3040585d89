-- The nodes of a program as statements, each in the statement lists around it.
use Rattle.std.specs.Prelude.{List, [], ◌∷◌, ◌++◌, cond}
use Rattle.semantic_tree.specs.Forest.{Forest, nothing, tree}
use Rattle.semantic_tree.specs.declared.node.Node.{Node}
use Rattle.semantic_model.specs.Namespace.{Item, is_list, statements}

-- the statement lists around what is below a node
abbrev pub lists_inside : Node → List (List Node) → List (List Node)
lists_inside node lists = cond (is_list node) (statements node ∷ lists) lists

-- the nodes of a forest in preorder
abbrev pub items_below : List (List Node) → Forest → List Item
items_below lists nothing = []
items_below lists (tree role kind span text marks below id after) =
    let node : Node = record { kind = kind; span = span; text = text; marks = marks; children = below; node_id = id } in
    (record { node = node; lists = lists } ∷ items_below (lists_inside node lists) below) ++ items_below lists after

-- the node and those below it
abbrev pub items_from : Node → List Item
items_from root = record { node = root; lists = [] } ∷ items_below (lists_inside root []) root.children
