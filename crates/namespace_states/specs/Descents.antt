-- Nodes of a tree, with the nodes above them.
use Rattle.std.specs.Prelude.{◌≡◌, List, [], ◌∷◌, map}
use Rattle.semantic_tree.specs.Forest.{Forest}
use Rattle.semantic_tree.specs.Nodes.{trees}
use Rattle.semantic_tree.specs.declared.node.Node.{Node}
use Rattle.semantic_model.specs.Entries.{Among}

-- the nodes of the trees of a forest
abbrev pub heads : Forest → List Node
heads f = map (λ child. child.1) (trees f)

-- the node stands in the tree below these nodes, of which the root is the first and the parent the last
abbrev pub StandsBelow : Node → List Node → Node → Type 0
StandsBelow root [] node = node ≡ root
StandsBelow root (x ∷ above) node = (x ≡ root) × ((child : Node) × (Among child (heads root.children) × StandsBelow child above node))
