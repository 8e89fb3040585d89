-- The path to a node: what it and those above it show, inner first, the root last.
use Rattle.std.specs.Prelude.{◌≡◌, ℕ, ◌==◌, List, [], ◌∷◌, true, if◌then◌else◌, Option, Some, None}
use Rattle.std.specs.List.{list_any}
use Rattle.semantic_tree.specs.declared.node.Node.{Node}

-- the id of the node, or 0 where there is none
abbrev pub current_id_in : List Node → ℕ
current_id_in [] = 0
current_id_in (node ∷ rest) = node.node_id

-- the parent of the node, or the node itself where it has none
abbrev pub parent_on_path : List Node → Option Node
parent_on_path [] = None
parent_on_path (node ∷ []) = Some node
parent_on_path (node ∷ parent ∷ rest) = Some parent

-- the id of the parent, or 0 where there is none
abbrev pub parent_id_in : List Node → ℕ
parent_id_in [] = 0
parent_id_in (node ∷ rest) = current_id_in rest

-- the path from the node with the id on; empty where it is not on the path
abbrev pub from_node : ℕ → List Node → List Node
from_node id [] = []
from_node id (node ∷ rest) = if node.node_id == id then node ∷ rest else from_node id rest

-- the same, or the whole path where no id is asked for
abbrev pub from_asked : Option ℕ → List Node → List Node
from_asked None path = path
from_asked (Some id) path = from_node id path

-- the node with the id is on the path
abbrev pub IsOn : ℕ → List Node → Type 0
IsOn id path = list_any (λ node. node.node_id == id) path ≡ true
