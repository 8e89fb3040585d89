-- The way from the root to a node.
use Rattle.std.specs.Prelude.{◌≡◌, List, [], ◌∷◌, Bool, false, Option, filter, map, reverse}
use Rattle.semantic_kinds.specs.declared.kind.AstType.TheVariants as kind
use Rattle.node_store.specs.Entered.{Entered}
use Rattle.node_store.specs.Store.{IsWalked, entered_in}
use Rattle.semantic_tree.specs.declared.node.Node.{Node}
use Rattle.semantic_tree.specs.Views.{is}
use Rattle.semantic_tree.specs.BoundNames.{is_simple_parameter_list}
use Rattle.semantic_walk.specs.declared.path.Path.TheInside.{Inside}

-- the nodes from the root to the one that is visited, and those that were entered, if all are kept
pub record Way : Type 0 where
  pub nodes : List Node
  pub entered : Option Entered

abbrev pub walk_path : Inside → Way
walk_path p = record { nodes = reverse p.stack; entered = entered_in p.store }

-- of each list of parameters among the nodes, whether it is simple
abbrev pub lists_simple : List Node → List Bool
lists_simple nodes = map is_simple_parameter_list (filter (is kind.FormalParameters) nodes)

-- the answers are those of the lists on the way, and the store stands at its last node
pub record IsWay (p : Inside) : Type 0 where
  pub simple : p.simple.items ≡ lists_simple (walk_path p).nodes
  pub stands : IsWalked p.store

-- the parent of the last node of a path, alone
abbrev pub parent_in : List Node → List Node
parent_in [] = []
parent_in (x ∷ []) = []
parent_in (x ∷ y ∷ []) = x ∷ []
parent_in (x ∷ y ∷ z ∷ more) = parent_in (y ∷ z ∷ more)

-- whether the last node is a list of parameters
abbrev pub ends_with_list : List Node → Bool
ends_with_list [] = false
ends_with_list (x ∷ []) = is kind.FormalParameters x
ends_with_list (x ∷ y ∷ more) = ends_with_list (y ∷ more)
