-- Below a node, what waited before it stays as it is; so at the end of a header what waited when its scope opened.
use Rattle.std.proofs.Common.{◌≡◌, ℕ, zero, suc, ◌+◌, ◌<◌, ◌≤◌, List, [], ◌∷◌, ◌++◌, Option, Some, None, IfSome, Bool, true, false, cond, ◌&&◌, not, refl, sym, subst, length, take, arith}
use Rattle.std.specs.List.{AllByRecursion}
use Rattle.semantic_tree.specs.Forest.{Forest, nothing, tree}
use Rattle.semantic_tree.specs.declared.node.Node.{Node}
use Rattle.semantic_kinds.specs.declared.role.Role.{Role}
use Rattle.semantic_tree.specs.Views.{has_role}
use Rattle.semantic_model.specs.Place.{Place, OpenScope, scope_of_place, outside}
use Rattle.semantic_model.specs.Inside.{opens, is_inside, any_inside, header_roles, is_in_header, is_parameter_decorator, scopes_in}
use Rattle.semantic_model.specs.ScopeKind.{opened_scope}
use Rattle.semantic_model.specs.Cursor.{on_entering}
use Rattle.semantic_model.specs.Declaration.{Declaration}
use Rattle.semantic_syntax.specs.Outcome.{Pending}
use Rattle.semantic_model.specs.Step.{Step, entering, opening, header_ending, closing, leaving, steps_below, steps_of, opening_at, ending_after, opening_last, scope_at, next_at, child_place, child_scopes}
use Rattle.semantic_model.proofs.steps.Turn.{Turn, turn_at}
use Rattle.semantic_model.proofs.steps.Opened.{opened_by_node, rest_opened, openings, openings-append, next_opened}
use Rattle.semantic_model.proofs.steps.TurnCases.{opening_case, last_case}
use Rattle.walk_model.specs.WalkState.{WalkState, nothing_made}
use Rattle.walk_model.specs.Opens.{innermost_number}
use Rattle.walk_model.specs.Walks.{after, after_all}
use Rattle.walk_model.proofs.places.Nested.{Descends, descends_more}
use Rattle.walk_model.proofs.turns.ChainsShown.{chain_descends}
use Rattle.walk_model.proofs.turns.ChildTurns.{WalkStandsAt}
use Rattle.walk_model.proofs.turns.HeaderStarts.{WaitsBelow, IsSound, FirstBelow, first_kept, GoesOn, opening_goes, opening_first, StepsFrom, steps_go}
pub use Rattle.walk_model.specs.Waits.{IsHeader, HoldsAt, start_at}

pub from-append : (c n : ℕ) (xs ys : List Step) → StepsFrom c n xs → StepsFrom c (n + openings xs) ys → StepsFrom c n (xs ++ ys)
from-append c n [] ys h k = subst (λ m. StepsFrom c m ys) (omega arith) k
from-append c n (entering p ∷ xs) ys h k = (h.0, from-append c n xs ys h.1 k)
from-append c n (opening p s ∷ xs) ys h k = (h.0, from-append c (suc n) xs ys h.1 (subst (λ m. StepsFrom c m ys) (omega arith) k))
from-append c n (header_ending p s ∷ xs) ys h k = (h.0, from-append c n xs ys h.1 k)
from-append c n (closing p s ∷ xs) ys h k = from-append c n xs ys h k
from-append c n (leaving p ∷ xs) ys h k = from-append c n xs ys h k

-- an own scope from the scope on, within the place's chain
abbrev pub OwnFrom : (c n : ℕ) → Place → Option OpenScope → Type 0
OwnFrom c n p None = Unit {0}
OwnFrom c n p (Some s) = (c ≤ s.number) × ((s.number < n) × Descends s.number p.chain)

own_more : (c n m : ℕ) (p : Place) (own : Option OpenScope) → n ≤ m → OwnFrom c n p own → OwnFrom c m p own
own_more c n m p None l h = tt
own_more c n m p (Some s) l h = (h.0, (omega (arith, l, h.1.0), h.1.1))

head_below : (n : ℕ) (chain : List OpenScope) → Descends n chain → IfSome (innermost_number chain) (λ q. q < n)
head_below n [] h = tt
head_below n (s ∷ ss) h = h.0

at_below : (n : ℕ) (p : Place) → 0 < n → Descends n p.chain → scope_of_place p < n
at_below n p l h = go p.chain refl h
  where
    go : (chain : List OpenScope) → p.chain ≡ chain → Descends n chain → scope_of_place p < n
    go [] e k = rw e l
    go (s ∷ ss) e k = rw e k.0

outside_descends : (n : ℕ) (chain : List OpenScope) → Descends n chain → Descends n (outside chain)
outside_descends n [] h = tt
outside_descends n (s ∷ ss) h = descends_more s.number n ss (omega (arith, h.0)) h.1

child_descends : (c n : ℕ) (p : Place) (own : Option OpenScope) (cursor : ℕ) (r : Role) (node : Node) → Descends n p.chain → OwnFrom c n p own → Descends n (child_place p own cursor r node).chain
child_descends c n p own cursor r node h o = go (is_parameter_decorator p.node.kind r)
  where
    within : (w : Option OpenScope) → OwnFrom c n p w → Descends n (child_scopes p r w)
    within None k = h
    within (Some s) k = by (is_inside p.node.kind r)
      where
        by : (b : Bool) → Descends n (cond b (record s { in_header = is_in_header p.node.kind r } ∷ p.chain) p.chain)
        by true = (k.1.0, k.1.1)
        by false = h

    go : (b : Bool) → Descends n (cond b (outside p.chain) (child_scopes p r own))
    go true = outside_descends n p.chain h
    go false = within own o

from_opening : (c n : ℕ) (p : Place) (r : Role) (own : Option OpenScope) → Descends n p.chain → StepsFrom c n (opening_at p r own n)
from_opening c n p r own h = opening_case (StepsFrom c n) p r own n tt (head_below n p.chain h, tt)

own_opened : (c n : ℕ) (p : Place) (r : Role) (own : Option OpenScope) → c ≤ n → Descends n p.chain → OwnFrom c n p own → OwnFrom c (next_at p r own n) p (scope_at p r own n)
own_opened c n p r (Some s) l h o = o
own_opened c n p r None l h o = by (is_inside p.node.kind r)
  where
    by : (b : Bool) → OwnFrom c (cond b (suc n) n) p (cond b (Some (opened_scope p n)) None)
    by true = (l, (omega arith, h))
    by false = tt

pub from_ending : (c n : ℕ) (p : Place) (r : Role) (own : Option OpenScope) (rest : Forest) → OwnFrom c n p own → StepsFrom c n (ending_after p r own rest)
from_ending c n p r None rest o = tt
from_ending c n p r (Some s) rest o = go (is_in_header p.node.kind r && not (has_role (header_roles p.node.kind) rest)) (is_inside p.node.kind r && not (any_inside p.node.kind rest))
  where
    go : (a b : Bool) → StepsFrom c n (cond a (header_ending p s ∷ []) [] ++ cond b (closing p s ∷ []) [])
    go true true = ((o.0, o.1.0), tt)
    go true false = ((o.0, o.1.0), tt)
    go false true = tt
    go false false = tt

from_last : (c n : ℕ) (p : Place) (own : Option OpenScope) → Descends n p.chain → StepsFrom c n (opening_last p own n)
from_last c n p own h = last_case (StepsFrom c n) p own n tt (head_below n p.chain h, tt)

-- the steps below a place
pub from_below : (c n : ℕ) (p : Place) (own : Option OpenScope) (cursor : ℕ) (f : Forest) → 0 < n → c ≤ n → Descends n p.chain → OwnFrom c n p own → StepsFrom c n (steps_below p own n cursor f)
from_below c n p own cursor nothing z l h o = from_last c n p own h
from_below c n p own cursor (tree r k span text marks below id after) z l h o =
    let node : Node = record { kind = k; span = span; text = text; marks = marks; children = below; node_id = id } in
    let turn : Turn = turn_at p own n cursor r node after in
    let count_x : n + openings turn.before ≡ turn.next = next_opened p r own n in
    let later : n ≤ turn.next = omega (arith, count_x) in
    let count_z : openings turn.whole ≡ cond (opens k) 1 0 + scopes_in below = opened_by_node turn.child turn.next in
    let h_x : Descends turn.next p.chain = descends_more n turn.next p.chain later h in
    let o_x : OwnFrom c turn.next p turn.scope = own_opened c n p r own l h o in
    let h_child : Descends turn.next turn.child.chain = child_descends c turn.next p turn.scope cursor r node h_x o_x in
    let a : StepsFrom c n turn.before = from_opening c n p r own h in
    let b : StepsFrom c turn.next turn.whole = (at_below turn.next turn.child (omega (arith, z, later)) h_child, from-append c turn.next turn.below (leaving turn.child ∷ []) (from_below c turn.next turn.child None turn.inner below (omega (arith, z, later)) (omega (arith, l, later)) h_child tt) tt) in
    let e : StepsFrom c turn.rest turn.behind = from_ending c turn.rest p r turn.scope after (own_more c turn.next turn.rest p turn.scope (omega arith) o_x) in
    let d : StepsFrom c turn.rest turn.others = from_below c turn.rest p turn.scope turn.past after (omega (arith, z, later)) (omega (arith, l, later)) (descends_more turn.next turn.rest p.chain (omega arith) h_x) (own_more c turn.next turn.rest p turn.scope (omega arith) o_x) in
    let two : StepsFrom c n (turn.before ++ turn.whole) = from-append c n turn.before turn.whole a (subst (λ m. StepsFrom c m turn.whole) (sym count_x) b) in
    let three : StepsFrom c n (turn.before ++ turn.whole ++ turn.behind) = from-append c n (turn.before ++ turn.whole) turn.behind two (subst (λ m. StepsFrom c m turn.behind) (omega (arith, count_x, count_z, openings-append turn.before turn.whole)) e) in
    from-append c n (turn.before ++ turn.whole ++ turn.behind) turn.others three (subst (λ m. StepsFrom c m turn.others) (sym (rest_opened p own n cursor r node after)) d)

-- the steps of a node
pub from_node : (c n : ℕ) (p : Place) → 0 < n → c ≤ n → Descends n p.chain → StepsFrom c n (steps_of p n)
from_node c n p z l h =
    (at_below n p z h, from-append c n (steps_below p None n (on_entering p.node.kind p.cursor) p.node.children) (leaving p ∷ []) (from_below c n p None (on_entering p.node.kind p.cursor) p.node.children z l h tt) tt)

below_take : (n start : ℕ) (es : List Pending) → AllByRecursion (WaitsBelow n) es → AllByRecursion (WaitsBelow n) (take start es)
below_take n zero es h = tt
below_take n (suc start) [] h = tt
below_take n (suc start) (e ∷ es) h = (h.0, below_take n start es h.1)

-- all that waits waits in scopes that exist
pub first_all : (n start : ℕ) (w : WalkState) → length w.tables.scopes ≡ n → start ≤ length w.waiting → IsSound w → FirstBelow n start w
first_all n start w e l s = record { enough = l; below = below_take n start w.waiting (subst (λ m. AllByRecursion (WaitsBelow m) w.waiting) e s.waits) }

-- over a node, each reference that waits before it waits on as it is
pub node_goes : (ds : List Declaration) (start n : ℕ) (w : WalkState) (p : Place) (own : Option OpenScope) → 0 < n → WalkStandsAt w p own n → start ≤ length w.waiting → IsSound w → GoesOn start w (after_all ds w (steps_of p n))
node_goes ds start n w p own z h l s =
    steps_go ds n start n w (steps_of p n) (from_node n n p z (omega arith) (subst (λ m. Descends m p.chain) h.count (chain_descends w.tables p.chain h.chain))) h.count s (first_all n start w h.count l s)

pub header_enough : (own : Option OpenScope) (start : ℕ) (w : WalkState) → IsHeader own start w → start ≤ length w.waiting
header_enough None start w h = h
header_enough (Some s) start w h = h.enough

holds_on : (w v : WalkState) (own : Option OpenScope) (start : ℕ) → IsHeader own start w → GoesOn start w v → HoldsAt v own start
holds_on w v None start h g = record { sound = g.sound; header = g.before.enough }
holds_on w v (Some s) start h g = record { sound = g.sound; header = first_kept s.number start w v g.before h }

-- before a child
pub holds_opening : (ds : List Declaration) (w : WalkState) (p : Place) (r : Role) (own : Option OpenScope) (start n : ℕ) → WalkStandsAt w p own n → HoldsAt w own start
    → HoldsAt (after_all ds w (opening_at p r own n)) (scope_at p r own n) (start_at p r own start w)
holds_opening ds w p r (Some s) start n k h = h
holds_opening ds w p r None start n k h = by (is_inside p.node.kind r)
  where
    head : IfSome (innermost_number p.chain) (λ q. q < length w.tables.scopes)
    head = head_below (length w.tables.scopes) p.chain (chain_descends w.tables p.chain k.chain)

    opened : GoesOn (length w.waiting) w (after ds w (opening p (opened_scope p n)))
    opened = opening_goes ds (length w.waiting) w p (opened_scope p n) head (omega arith) h.sound

    by : (b : Bool) → HoldsAt (after_all ds w (cond b (opening p (opened_scope p n) ∷ []) [])) (cond b (Some (opened_scope p n)) None) (cond b (length w.waiting) start)
    by true = record { sound = opened.sound; header = subst (λ m. FirstBelow m (length w.waiting) (after ds w (opening p (opened_scope p n)))) k.count (opening_first ds w p (opened_scope p n) h.sound) }
    by false = h

-- over a child
pub holds_past : (ds : List Declaration) (w : WalkState) (child : Place) (own : Option OpenScope) (start n : ℕ) → 0 < n → WalkStandsAt w child None n → HoldsAt w own start
    → HoldsAt (after_all ds w (steps_of child n)) own start
holds_past ds w child own start n z k h = holds_on w (after_all ds w (steps_of child n)) own start h.header (node_goes ds start n w child None z k (header_enough own start w h.header) h.sound)

-- behind a child
pub holds_ending : (ds : List Declaration) (w : WalkState) (p : Place) (r : Role) (own : Option OpenScope) (rest : Forest) (start n : ℕ) → WalkStandsAt w p own n → HoldsAt w own start
    → HoldsAt (after_all ds w (ending_after p r own rest)) own start
holds_ending ds w p r None rest start n k h = h
holds_ending ds w p r (Some s) rest start n k h =
    let falls : Descends (length w.tables.scopes) (s ∷ p.chain) = chain_descends w.tables (s ∷ p.chain) k.shown in
    let from : OwnFrom s.number n p (Some s) = (omega arith, (omega (arith, falls.0, k.count), falls.1)) in
    holds_on w (after_all ds w (ending_after p r (Some s) rest)) (Some s) start h.header
    (steps_go ds s.number start n w (ending_after p r (Some s) rest) (from_ending s.number n p r (Some s) rest from) k.count h.sound h.header)

-- on entering a node
pub holds_entering : (ds : List Declaration) (w : WalkState) (p : Place) (start n : ℕ) → 0 < n → WalkStandsAt w p None n → start ≤ length w.waiting → IsSound w → HoldsAt (after ds w (entering p)) None start
holds_entering ds w p start n z k l s =
    let falls : Descends n p.chain = subst (λ m. Descends m p.chain) k.count (chain_descends w.tables p.chain k.chain) in
    holds_on w (after ds w (entering p)) None start l (steps_go ds n start n w (entering p ∷ []) (at_below n p z falls, tt) k.count s (first_all n start w k.count l s))

-- nothing is made, and that is sound
pub nothing_sound : IsSound nothing_made
nothing_sound = record { falls = λ i. tt; waits = tt }
