-- The way from a node to the root.
use Rattle.std.specs.Prelude.{◌≡◌, ◌++◌, ℕ, zero, suc, ◌+◌, List, [], ◌∷◌, drop, Option, Some, None, slice_get, slice_index, map}
use Rattle.std.specs.List.{filter_map}
use Rattle.std.specs.Option.{option_map}
use Rattle.semantic_tree.specs.declared.node.Node.{Node}
use Rattle.node_store.specs.NodeList.{SeenNode, NodeList}

-- a node and those above it by these parents, inner first, at most so many
abbrev pub outward_within : ℕ → List ℕ → ℕ → List ℕ
outward_within zero parents n = []
outward_within (suc steps) parents zero = zero ∷ []
outward_within (suc steps) parents (suc n) = suc n ∷ outward_within steps parents (slice_index parents (suc n))

-- a node and those above it, inner first, the root last
abbrev pub outward : List ℕ → ℕ → List ℕ
outward parents n = outward_within (suc n) parents n

-- a node, if there is one, and those above it
abbrev pub outward_from : List ℕ → Option ℕ → List ℕ
outward_from parents None = []
outward_from parents (Some n) = outward parents n

-- the parent of a node, if it is not the root
abbrev pub parent_above : List ℕ → ℕ → Option ℕ
parent_above parents zero = None
parent_above parents (suc n) = Some (slice_index parents (suc n))

-- those above a node, its parent first
abbrev pub above : List ℕ → ℕ → List ℕ
above parents n = drop 1 (outward parents n)

-- the nodes, each with its id, counted from a first one
abbrev pub numbered_from : ℕ → List SeenNode → List (ℕ × SeenNode)
numbered_from n [] = []
numbered_from n (node ∷ nodes) = (n, node) ∷ numbered_from (n + 1) nodes

-- the nodes with these ids, each with its id
abbrev pub numbered_of : List SeenNode → List ℕ → List (ℕ × SeenNode)
numbered_of nodes ids = filter_map (λ n. option_map (λ s. (n, s)) (slice_get nodes n)) ids

-- the nodes without their ids
abbrev pub nodes_of : List (ℕ × SeenNode) → List SeenNode
nodes_of numbered = map (λ p. p.1) numbered

-- what the nodes show
abbrev pub kinds_of : List (ℕ × SeenNode) → List Node
kinds_of numbered = map (λ p. p.1.node) numbered

-- the nodes above a node, its parent first, each with its id
abbrev pub ancestors : NodeList → ℕ → List (ℕ × SeenNode)
ancestors list n = numbered_of list.nodes (above list.parents n)

-- the last of these ids is the root's
abbrev pub EndsAtRoot : List ℕ → Type 0
EndsAtRoot ids = (before : List ℕ) × (ids ≡ before ++ 0 ∷ [])
