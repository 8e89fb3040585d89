-- The list of nodes while a walk makes it.
use Rattle.std.specs.Prelude.{◌≡◌, ◌<◌, ℕ, List, [], ◌∷◌, Option, Some, None, length, slice_index, Bool, if◌then◌else◌}
use Rattle.semantic_tree.specs.Forest.{Forest, numbered}
use Rattle.semantic_tree.specs.Tree.{IsPreorder}
use Rattle.semantic_model.specs.Place.{Place, scope_of_place}
use Rattle.semantic_model.specs.NodeTable.{nodes as entered_nodes}
use Rattle.semantic_model.specs.Step.{Step, entering}
use Rattle.node_store.specs.Entered.{Entered, nothing_entered}
use Rattle.node_store.specs.Entered as store
use Rattle.node_store.specs.NodeList.{NodeList, no_nodes}
use Rattle.promise.specs.Kept.{listed}

-- what a walk begins with, where it keeps the nodes that it enters
abbrev pub kept_from : Bool → Option Entered
kept_from keeps = if keeps then Some nothing_entered else None

-- the list that is kept; none has no node
abbrev pub list_kept : Option Entered → NodeList
list_kept None = no_nodes
list_kept (Some e) = e.list

-- the walk has entered the node at the place
abbrev pub entered_at : Place → Entered → Entered
entered_at p e = store.entering e p.node (scope_of_place p)

-- the nodes that a walk has entered, once it has walked over steps
abbrev pub all_listed : List Step → Entered → Entered
all_listed steps e = record e { list = listed e.list (entered_nodes steps) }

-- the parent of the node at the place has the id; the root is its own
abbrev pub IsBelow : Place → ℕ → Type 0
IsBelow p id = entered_nodes (entering p ∷ []) ≡ (record { node = p.node; scope = scope_of_place p; parent = id }) ∷ []

-- the node at the place comes next
pub record IsNext (p : Place) (e : Entered) : Type 0 where
  pub next : length e.list.nodes ≡ p.node.node_id
  pub above : IsBelow p e.current
  pub order : IsPreorder p.node
  pub parents : length e.list.parents ≡ length e.list.nodes

-- the walk stands at the place's node, and these below it come next
pub record IsAmong (p : Place) (f : Forest) (e : Entered) : Type 0 where
  pub order : numbered (length e.list.nodes) f ≡ f
  pub inside : p.node.node_id < length e.list.nodes
  pub current : e.current ≡ p.node.node_id
  pub parent : IsBelow p (slice_index e.list.parents p.node.node_id)
  pub parents : length e.list.parents ≡ length e.list.nodes
