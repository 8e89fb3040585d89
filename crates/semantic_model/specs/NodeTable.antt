-- What belongs to each node: its place, the scope that it opens, the symbol that it declares, the reference that it is.
use Rattle.std.specs.Prelude.{ℕ, ◌==◌, suc, List, [], ◌∷◌, Option, Some, None, cond, map, filter_map}
use Rattle.semantic_tree.specs.declared.node.Node.{Node}
use Rattle.semantic_model.specs.Place.{scope_of_place}
use Rattle.semantic_model.specs.Step.{Step, entering}
use Rattle.semantic_model.specs.Reference.{references}
use Rattle.semantic_model.specs.Event.{events}
use Rattle.semantic_model.specs.Fold.{State, Made, start}
use Rattle.semantic_model.specs.Hoist.{run}
use Rattle.semantic_model.specs.TablesOf.{scopes}

-- a node where it stands: the scope, and its parent; the root is its own parent
pub record NodeEntry : Type 0 where
  pub node : Node
  pub scope : ℕ
  pub parent : ℕ

abbrev parent_id : Node → List Node → ℕ
parent_id node [] = node.node_id
parent_id node (parent ∷ path) = parent.node_id

abbrev entered_node : Step → Option NodeEntry
entered_node (entering p) = Some (record { node = p.node; scope = scope_of_place p; parent = parent_id p.node p.path })
entered_node _ = None

-- the nodes in preorder
abbrev pub nodes : List Step → List NodeEntry
nodes steps = filter_map entered_node steps

-- a node and the number that belongs to it
pub record Belongs : Type 0 where
  pub node : ℕ
  pub number : ℕ

pub record NodeTables : Type 0 where
  pub scopes : List Belongs
  pub symbols : List Belongs
  pub references : List Belongs

-- the number that belongs to the node
abbrev pub number_of : List Belongs → ℕ → Option ℕ
number_of [] node = None
number_of (b ∷ bs) node = cond (b.node == node) (Some b.number) (number_of bs node)

abbrev pub numbered_from : ℕ → List ℕ → List Belongs
numbered_from i [] = []
numbered_from i (node ∷ more) = record { node = node; number = i } ∷ numbered_from (suc i) more

-- a binding identifier or enum member with its symbol
abbrev pub belonging : Made → Belongs
belonging m = record { node = m.declaration.naming.identifier; number = m.symbol }

abbrev pub symbols_of : State → List Belongs
symbols_of st = map belonging st.made

abbrev pub node_tables : List Step → NodeTables
node_tables steps = record {
  scopes = numbered_from 0 (map (λ s. s.node) (scopes steps));
  symbols = symbols_of (run start (events steps));
  references = numbered_from 0 (map (λ r. r.node) (references steps));
}
