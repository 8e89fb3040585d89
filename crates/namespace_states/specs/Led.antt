-- Which statements lead to which, by their ids, and what they count as.
use Rattle.std.specs.Prelude.{ℕ, List, [], ◌∷◌, ◌++◌, map}
use Rattle.semantic_tree.specs.Forest.{Forest, nothing, tree}
use Rattle.semantic_tree.specs.declared.node.Node.{Node}
use Rattle.semantic_model.specs.Namespace.{InstanceState, non_instantiated, instantiated, const_enum_only, Item, StatementReach, reach}
use Rattle.namespace_states.specs.Statements.{lists_inside}

pub record Led : Type 0 where
  -- where a statement leads, and the statement
  pub backward : List (ℕ × ℕ)
  -- those that count as values
  pub values : List ℕ
  -- and as `const` enums
  pub const_enums : List ℕ

abbrev pub nothing_led : Led
nothing_led = record { backward = []; values = []; const_enums = [] }

-- a statement counts as a state
abbrev pub with_state : Led → ℕ → InstanceState → Led
with_state led from non_instantiated = led
with_state led from instantiated = record led { values = led.values ++ from ∷ [] }
with_state led from const_enum_only = record led { const_enums = led.const_enums ++ from ∷ [] }

abbrev pub counted_all : Led → ℕ → List InstanceState → Led
counted_all led from [] = led
counted_all led from (s ∷ ss) = counted_all (with_state led from s) from ss

-- it leads to another
abbrev pub led_to : Led → ℕ → ℕ → Led
led_to led from to = record led { backward = led.backward ++ (to, from) ∷ [] }

-- it counts as these states and leads to these statements
abbrev pub led_by : Led → ℕ → StatementReach → Led
led_by led from r = record {
  backward = led.backward ++ map (λ i. (i.node.node_id, from)) r.items;
  values = (counted_all led from r.states).values;
  const_enums = (counted_all led from r.states).const_enums;
}

-- the nodes of a forest, in preorder, in the statement lists around it
abbrev pub led_below : List (List Node) → Forest → Led → Led
led_below lists nothing led = led
led_below lists (tree role kind span text marks below id after) led =
    let node : Node = record { kind = kind; span = span; text = text; marks = marks; children = below; node_id = id } in
    led_below lists after (led_below (lists_inside node lists) below (led_by led id (reach (record { node = node; lists = lists }))))

-- a node and all below it
abbrev pub led_from : List (List Node) → Node → Led → Led
led_from lists node led = led_below (lists_inside node lists) node.children (led_by led node.node_id (reach (record { node = node; lists = lists })))

-- a pass: the statement lists around where it stands, and what it has noted
pub record Passing : Type 0 where
  pub lists : List (List Node)
  pub led : Led
