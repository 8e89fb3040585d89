-- What an iterator over a path has left.
use Rattle.std.specs.Prelude.{List}
use Rattle.semantic_tree.specs.declared.node.Node.{Node}
use Rattle.node_store.specs.declared.ancestor_kinds.AncestorKinds.{AncestorKinds}
use Rattle.node_store.specs.declared.ancestor_kinds.Way.{Way}
use Rattle.node_store.specs.declared.ancestor_kinds.Way.TheVariants.{Store, Frames}

-- what is left of a path, however it is kept
abbrev pub left_on : Way → List Node
left_on (Store it) = it
left_on (Frames it) = it

-- what is left of a path
abbrev pub path_left : AncestorKinds → List Node
path_left kinds = left_on kinds.way
