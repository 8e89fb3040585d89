-- What is noted of one statement after another.
use Rattle.std.proofs.Common.{◌≡◌, ℕ, List, [], ◌∷◌, ◌++◌, Option, None, Some, option_map, map, refl, ap, sym, ◌∙◌, append_assoc}
use Rattle.std.proofs.lemmas.List.{map-append, append-nil}
use Rattle.semantic_tree.specs.declared.node.Node.{Node}
use Rattle.semantic_model.specs.Namespace.{InstanceState, non_instantiated, instantiated, const_enum_only, Item, StatementReach, counts_as, leads_to, specifiers_reached}
use Rattle.namespace_states.specs.OpenBlocks.{node_of}
use Rattle.namespace_states.specs.Led.{Led, with_state, counted_all, led_to, led_by}

-- nothing
pub led_nothing : (led : Led) (from : ℕ) → led_by led from (leads_to []) ≡ led
led_nothing led from = ap (λ (ps : List (ℕ × ℕ)). record led { backward = ps }) (append-nil led.backward)

-- a state alone
pub led_counted : (led : Led) (from : ℕ) (s : InstanceState) → led_by led from (counts_as s) ≡ with_state led from s
led_counted led from non_instantiated = led_nothing led from
led_counted led from instantiated = ap (λ (ps : List (ℕ × ℕ)). record { backward = ps; values = led.values ++ from ∷ []; const_enums = led.const_enums }) (append-nil led.backward)
led_counted led from const_enum_only = ap (λ (ps : List (ℕ × ℕ)). record { backward = ps; values = led.values; const_enums = led.const_enums ++ from ∷ [] }) (append-nil led.backward)

counted_backward : (led : Led) (from : ℕ) (s : InstanceState) (ps : List (ℕ × ℕ)) → with_state (record led { backward = ps }) from s ≡ record (with_state led from s) { backward = ps }
counted_backward led from non_instantiated ps = refl
counted_backward led from instantiated ps = refl
counted_backward led from const_enum_only ps = refl

all_backward : (led : Led) (from : ℕ) (ss : List InstanceState) (ps : List (ℕ × ℕ)) → counted_all (record led { backward = ps }) from ss ≡ record (counted_all led from ss) { backward = ps }
all_backward led from [] ps = refl
all_backward led from (s ∷ ss) ps = ap (λ (l : Led). counted_all l from ss) (counted_backward led from s ps) ∙ all_backward (with_state led from s) from ss ps

counted_append : (led : Led) (from : ℕ) (ss ts : List InstanceState) → counted_all led from (ss ++ ts) ≡ counted_all (counted_all led from ss) from ts
counted_append led from [] ts = refl
counted_append led from (s ∷ ss) ts = counted_append (with_state led from s) from ss ts

-- one after the other
pub led_both : (led : Led) (from : ℕ) (r t : StatementReach) → led_by (led_by led from r) from t ≡ led_by led from (record { states = r.states ++ t.states; items = r.items ++ t.items })
led_both led from r t =
    let pair : Item → ℕ × ℕ = λ i. (i.node.node_id, from) in
    let mine : List (ℕ × ℕ) = led.backward ++ map pair r.items in
    let first : Led = counted_all led from r.states in
    let states : counted_all (led_by led from r) from t.states ≡ record (counted_all first from t.states) { backward = mine } = all_backward first from t.states mine in
    let whole : counted_all led from (r.states ++ t.states) ≡ counted_all first from t.states = counted_append led from r.states t.states in
    let pairs : mine ++ map pair t.items ≡ led.backward ++ map pair (r.items ++ t.items) = append_assoc led.backward (map pair r.items) (map pair t.items) ∙ ap (λ ps. led.backward ++ ps) (sym (map-append pair r.items t.items)) in
    ap (λ (l : Led). record { backward = mine ++ map pair t.items; values = l.values; const_enums = l.const_enums }) states
    ∙ ap (λ (l : Led). record { backward = mine ++ map pair t.items; values = l.values; const_enums = l.const_enums }) (sym whole)
    ∙ ap (λ (ps : List (ℕ × ℕ)). record { backward = ps; values = (counted_all led from (r.states ++ t.states)).values; const_enums = (counted_all led from (r.states ++ t.states)).const_enums }) pairs

-- statements of a block, one after the other
pub led_item : (led : Led) (from : ℕ) (i : Item) (more : List Item) → led_by (led_to led from i.node.node_id) from (leads_to more) ≡ led_by led from (leads_to (i ∷ more))
led_item led from i more = led_both led from (leads_to (i ∷ [])) (leads_to more)

-- specifiers, one after the other
pub led_specifier : (led : Led) (from : ℕ) (r : StatementReach) (more : List StatementReach) → led_by (led_by led from r) from (specifiers_reached more) ≡ led_by led from (specifiers_reached (r ∷ more))
led_specifier led from r more = led_both led from r (specifiers_reached more)

-- the item of a node
pub some_item : (o : Option Item) (x : Node) → Some x ≡ option_map node_of o → (i : Item) × ((o ≡ Some i) × (i.node ≡ x))
some_item None x e = absurd cc
some_item (Some i) x e = (i, (refl, cc))

pub ruleset leading = (led_nothing, led_counted, led_item, led_specifier)
