-- The states of the nodes of a program, by what they reach.
use Rattle.std.specs.Prelude.{◌≡◌, ℕ, List, [], ◌∷◌, Bool, cond, slice_index_or}
use Rattle.semantic_tree.specs.Tree.{Tree}
use Rattle.semantic_model.specs.Entries.{Among}
use Rattle.semantic_model.specs.Place.{Place}
use Rattle.semantic_model.specs.Step.{entering, steps}
use Rattle.semantic_model.specs.Namespace.{InstanceState, non_instantiated, instantiated, const_enum_only, instance_state, nodes_around}
use Rattle.namespace_states.specs.Reaches.{IsGreatestReached, statement_at}

-- the state of what reaches a value, or a `const` enum
abbrev pub state_by : Bool → Bool → InstanceState
state_by value const_enum = cond value instantiated (cond const_enum const_enum_only non_instantiated)

abbrev pub states_by : List Bool → List Bool → List InstanceState
states_by [] const_enums = []
states_by (value ∷ values) [] = []
states_by (value ∷ values) (const_enum ∷ const_enums) = state_by value const_enum ∷ states_by values const_enums

-- the state of a node, by its id
abbrev pub state_in : List InstanceState → ℕ → InstanceState
state_in states n = slice_index_or states n non_instantiated

-- each node that is entered has the greatest state that it reaches as a statement
abbrev pub AreStatesOf : Tree → List InstanceState → Type 0
AreStatesOf program states = (p : Place) → Among (entering p) (steps program) → IsGreatestReached (statement_at p) (state_in states p.node.node_id)

-- the search of the definition finds them, too
abbrev pub AreSearched : Tree → List InstanceState → Type 0
AreSearched program states = (p : Place) → Among (entering p) (steps program) → state_in states p.node.node_id ≡ instance_state p.node p.path (nodes_around p.node p.path)
