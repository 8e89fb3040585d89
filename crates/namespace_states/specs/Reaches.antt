-- What statements lead to, and the greatest state that is reached.
use Rattle.std.specs.Prelude.{◌≡◌, ◌⊎◌, map, filter}
use Rattle.semantic_model.specs.Entries.{Among}
use Rattle.semantic_model.specs.Place.{Place}
use Rattle.semantic_model.specs.Namespace.{InstanceState, non_instantiated, greater, Item, reach, is_list, statements}

-- the statement counts as the state by itself
abbrev pub CountsAs : Item → InstanceState → Type 0
CountsAs i s = Among s (reach i).states

-- the one statement leads to the other in one step
abbrev pub LeadsTo : Item → Item → Type 0
LeadsTo i j = Among j (reach i).items

-- in any number of steps
pub data Reaches (i : Item) : Item → Type 0 where
  itself : Reaches i i
  onward : (j k : Item) → Reaches i j → LeadsTo j k → Reaches i k

-- no state is greater that a statement counts as which this one reaches, and one that it reaches counts as this state, or none does
pub record IsGreatestReached (i : Item) (s : InstanceState) : Type 0 where
  pub above : (j : Item) (t : InstanceState) → Reaches i j → CountsAs j t → greater s t ≡ s
  pub reached : (s ≡ non_instantiated) ⊎ ((j : Item) × (Reaches i j × CountsAs j s))

-- a node as a statement, in the statement lists around it
abbrev pub statement_at : Place → Item
statement_at p = record { node = p.node; lists = map statements (filter is_list p.path) }
