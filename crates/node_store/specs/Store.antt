-- What a store keeps.
use Rattle.std.specs.Prelude.{⊤, ◌≡◌, ℕ, ◌+◌, ◌-◌, ◌<◌, ◌≤◌, List, [], ◌∷◌, Bool, true, false, Option, Some, None, length, drop, slice_index}
use Rattle.semantic_tree.specs.declared.node.Node.{Node}
use Rattle.node_store.specs.Entered.{Entered, no_flags}
use Rattle.node_store.specs.NodeList.{NodeList, no_nodes, with_node}
use Rattle.node_store.specs.Path.{current_id_in}
use Rattle.node_store.specs.PathIn.{path_in}
use Rattle.node_store.specs.declared.store.AstNodeStore.{AstNodeStore}
use Rattle.node_store.specs.declared.store.AstNodeStoreKind.{AstNodeStoreKind}
use Rattle.node_store.specs.declared.store.AstNodeStoreKind.TheVariants.{Full, Ancestry}

-- a full store holds the node
abbrev pub NodeIsKept : ℕ → AstNodeStoreKind → Type 0
NodeIsKept n (Full nodes) = n < length nodes.nodes
NodeIsKept n (Ancestry path) = ⊤

-- the path to the node
abbrev pub path_kept : ℕ → AstNodeStoreKind → List Node
path_kept n (Full nodes) = path_in nodes n
path_kept n (Ancestry path) = path

-- the nodes that are kept, which are none where a path is
abbrev pub nodes_kept : AstNodeStoreKind → NodeList
nodes_kept (Full nodes) = nodes
nodes_kept (Ancestry path) = no_nodes

-- a store without nodes, or a path without them
abbrev pub emptied : Bool → AstNodeStoreKind
emptied true = Full no_nodes
emptied false = Ancestry []

-- the path to the node at which the walk stands
abbrev pub path_to : AstNodeStore → List Node
path_to s = path_kept s.current_node_id s.kind

-- the nodes that were entered, where they are kept, and the one at which the walk stands
abbrev pub entered_kept : ℕ → AstNodeStoreKind → Option Entered
entered_kept n (Full nodes) = Some (record { list = nodes; current = n })
entered_kept n (Ancestry path) = None

abbrev pub entered_in : AstNodeStore → Option Entered
entered_in s = entered_kept s.current_node_id s.kind

-- the walk stands at a node of a full store, if there is one, and so many nodes were entered
abbrev pub IsCounted : ℕ → ℕ → AstNodeStoreKind → Type 0
IsCounted n count (Full nodes) = (n ≤ length nodes.nodes - 1) × (count ≡ length nodes.nodes)
IsCounted n count (Ancestry path) = length path ≤ count

-- a walk alone has entered and left nodes
abbrev pub IsWalked : AstNodeStore → Type 0
IsWalked s = IsCounted s.current_node_id s.count s.kind

-- what is kept with one more node of the id, below the one at which the walk stood
abbrev pub kept_with : AstNodeStoreKind → Node → ℕ → ℕ → ℕ → AstNodeStoreKind
kept_with (Full nodes) node id scope parent = Full (with_node nodes node id scope parent no_flags)
kept_with (Ancestry path) node id scope parent = Ancestry (node ∷ path)

-- the walk has entered a node, which stands in the scope, below the one at which it stood
abbrev pub after_entering : AstNodeStore → Node → ℕ → AstNodeStore
after_entering s node scope = record { current_node_id = s.count; count = s.count + 1; kind = kept_with s.kind node s.count scope s.current_node_id }

-- the node to which the walk goes back
abbrev pub back_from : ℕ → AstNodeStoreKind → ℕ
back_from n (Full nodes) = slice_index nodes.parents n
back_from n (Ancestry path) = current_id_in (drop 1 path)

-- what is kept then
abbrev pub kept_behind : AstNodeStoreKind → AstNodeStoreKind
kept_behind (Full nodes) = Full nodes
kept_behind (Ancestry path) = Ancestry (drop 1 path)

-- the walk has left the node at which it stood
abbrev pub after_leaving : AstNodeStore → AstNodeStore
after_leaving s = record s { current_node_id = back_from s.current_node_id s.kind; kind = kept_behind s.kind }
