-- The nodes of a store, as lists by their ids.
use Rattle.std.specs.Prelude.{◌≡◌, ℕ, ◌-◌, ◌<◌, ◌≤◌, ◌^◌, List, [], ◌∷◌, ◌++◌, Option, length, slice_get, slice_index}
use Rattle.std.specs.Option.{option_map}
use Rattle.semantic_syntax.specs.declared.node_flags.NodeFlags.{NodeFlags}
use Rattle.semantic_tree.specs.declared.node.Node.{Node}

-- a node, with its id and the scope where it stands
pub record SeenNode : Type 0 where
  pub node : Node
  pub id : ℕ
  pub scope : ℕ

-- the nodes, and for each its parent and its flags
pub record NodeList : Type 0 where
  pub nodes : List SeenNode
  pub parents : List ℕ
  pub flags : List NodeFlags

-- the parent of each node stands before it, and the root is its own
abbrev pub StandBefore : List ℕ → Type 0
StandBefore parents = (n : ℕ) → n < length parents → slice_index parents n ≤ n - 1

-- each node has a parent and flags, and there is an id for each
pub record IsNodeList (list : NodeList) : Type 0 where
  pub with_parents : length list.parents ≡ length list.nodes
  pub with_flags : length list.flags ≡ length list.nodes
  pub before : StandBefore list.parents
  pub numbered : length list.nodes ≤ 2 ^ 32 - 1

-- what is seen of the node with the id
abbrev pub node_at : NodeList → ℕ → Option Node
node_at list n = option_map (λ s. s.node) (slice_get list.nodes n)

-- no node
abbrev pub no_nodes : NodeList
no_nodes = record { nodes = []; parents = []; flags = [] }

-- the nodes with one more
abbrev pub with_node : NodeList → Node → ℕ → ℕ → ℕ → NodeFlags → NodeList
with_node list node id scope parent flags =
    record {
      nodes = list.nodes ++ (record { node = node; id = id; scope = scope }) ∷ [];
      parents = list.parents ++ parent ∷ [];
      flags = list.flags ++ flags ∷ [];
    }
