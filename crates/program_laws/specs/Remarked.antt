-- Trees with other marks.
use Rattle.semantic_kinds.specs.declared.marks.Marks.{Marks}
use Rattle.semantic_tree.specs.Forest.{Forest, nothing, tree}
use Rattle.semantic_tree.specs.Tree.{Tree}
use Rattle.semantic_tree.specs.declared.node.Node.{Node}

-- the forest in which each node has the marks that are told for it
abbrev pub remarked : (Node → Marks) → Forest → Forest
remarked f nothing = nothing
remarked f (tree role kind span text marks below id after) =
    tree role kind span text (f (record { kind = kind; span = span; text = text; marks = marks; children = below; node_id = id })) (remarked f below) id (remarked f after)

abbrev pub remarked_node : (Node → Marks) → Node → Node
remarked_node f node = record node { marks = f node; children = remarked f node.children }

-- the program with other marks
abbrev pub remarked_tree : (Node → Marks) → Tree → Tree
remarked_tree f p = record p { root = remarked_node f p.root }
