-- What the steps of a node's children do, one child at a time, and how many scopes there are then.
use Rattle.std.proofs.Common.{◌≡◌, ℕ, suc, ◌+◌, ◌<◌, ◌≤◌, List, [], ◌∷◌, ◌++◌, Option, Some, None, Bool, true, false, cond, refl, sym, ap, ◌∙◌, length, get_or, drop, arith}
use Rattle.semantic_kinds.specs.declared.role.Role.{Role}
use Rattle.semantic_tree.specs.Forest.{Forest}
use Rattle.semantic_tree.specs.Children.{forest_of}
use Rattle.semantic_tree.specs.declared.node.Node.{Node}
use Rattle.semantic_model.specs.Place.{Place, OpenScope}
use Rattle.semantic_model.specs.Inside.{opens, is_inside, scopes_in}
use Rattle.semantic_model.specs.ScopeKind.{opened_scope}
use Rattle.semantic_model.specs.Cursor.{on_entering}
use Rattle.semantic_model.specs.Declaration.{Declaration}
use Rattle.semantic_model.specs.Step.{Step, entering, opening, leaving, steps_below, steps_of, opening_at, ending_after, opening_last, scope_at, next_at, child_place, cursor_past}
use Rattle.semantic_model.proofs.steps.Opened.{left_to_open, opened_below, opened_by_node, none_after}
use Rattle.semantic_model.proofs.steps.Turns.{steps_turn, steps_end}
use Rattle.walk_model.specs.WalkState.{WalkState}
use Rattle.walk_model.specs.Walks.{after, after_all}
use Rattle.walk_model.proofs.turns.ChainsShown.{KeepsRows, own_kept, chain_kept, step_rows, steps_rows, opening_chain, child_shown, after_count}
pub use Rattle.walk_model.specs.Recursion.{WalkStandsAt}

-- steps, and then others
pub after-append : (ds : List Declaration) (w : WalkState) (xs ys : List Step) → after_all ds w (xs ++ ys) ≡ after_all ds (after_all ds w xs) ys
after-append ds w [] ys = refl
after-append ds w (x ∷ xs) ys = after-append ds (after ds w x) xs ys

after_four : (ds : List Declaration) (w : WalkState) (xs ys zs rest : List Step) → after_all ds w (xs ++ ys ++ zs ++ rest) ≡ after_all ds (after_all ds (after_all ds (after_all ds w xs) ys) zs) rest
after_four ds w xs ys zs rest =
    after-append ds w (xs ++ ys ++ zs) rest
    ∙ ap (λ v. after_all ds v rest) (after-append ds w (xs ++ ys) zs ∙ ap (λ v. after_all ds v zs) (after-append ds w xs ys))

-- a node is entered, and then come the steps below it
pub node_turn : (ds : List Declaration) (w : WalkState) (p : Place) (n : ℕ) → after_all ds w (steps_of p n) ≡ after_all ds (after ds w (entering p)) (steps_below p None n (on_entering p.node.kind p.cursor) p.node.children)
node_turn ds w p n = after-append ds (after ds w (entering p)) (steps_below p None n (on_entering p.node.kind p.cursor) p.node.children) (leaving p ∷ [])

-- the first of the children that are left: the scope may open, the child's own steps, a header or the scope may end, and then the rest
pub first_turn : (ds : List Declaration) (w : WalkState) (p : Place) (own : Option OpenScope) (n cursor : ℕ) (child : Role × Node) (rest : List (Role × Node))
    → after_all ds w (steps_below p own n cursor (forest_of (child ∷ rest)))
    ≡ after_all ds (after_all ds (after_all ds (after_all ds w (opening_at p child.0 own n)) (steps_of (child_place p (scope_at p child.0 own n) cursor child.0 child.1) (next_at p child.0 own n))) (ending_after p child.0 (scope_at p child.0 own n) (forest_of rest)))
    (steps_below p (scope_at p child.0 own n) (next_at p child.0 own n + cond (opens child.1.kind) 1 0 + scopes_in child.1.children) (cursor_past p child.0 cursor (child_place p (scope_at p child.0 own n) cursor child.0 child.1)) (forest_of rest))
first_turn ds w p own n cursor child rest =
    after_four ds w (opening_at p child.0 own n) (steps_of (child_place p (scope_at p child.0 own n) cursor child.0 child.1) (next_at p child.0 own n)) (ending_after p child.0 (scope_at p child.0 own n) (forest_of rest))
    (steps_below p (scope_at p child.0 own n) (next_at p child.0 own n + cond (opens child.1.kind) 1 0 + scopes_in child.1.children) (cursor_past p child.0 cursor (child_place p (scope_at p child.0 own n) cursor child.0 child.1)) (forest_of rest))

-- the same of the child at a place among the children
pub turn_at : (ds : List Declaration) (w : WalkState) (p : Place) (own : Option OpenScope) (n cursor : ℕ) (items : List (Role × Node)) (i : ℕ) (child : Role × Node) → i < length items → child ≡ get_or items i child
    → after_all ds w (steps_below p own n cursor (forest_of (drop i items)))
    ≡ after_all ds (after_all ds (after_all ds (after_all ds w (opening_at p child.0 own n)) (steps_of (child_place p (scope_at p child.0 own n) cursor child.0 child.1) (next_at p child.0 own n))) (ending_after p child.0 (scope_at p child.0 own n) (forest_of (drop (i + 1) items))))
    (steps_below p (scope_at p child.0 own n) (next_at p child.0 own n + cond (opens child.1.kind) 1 0 + scopes_in child.1.children) (cursor_past p child.0 cursor (child_place p (scope_at p child.0 own n) cursor child.0 child.1)) (forest_of (drop (i + 1) items)))
turn_at ds w p own n cursor items i child h e =
    ap (after_all ds w) (steps_turn p own n cursor items i child h e)
    ∙ after_four ds w (opening_at p child.0 own n) (steps_of (child_place p (scope_at p child.0 own n) cursor child.0 child.1) (next_at p child.0 own n)) (ending_after p child.0 (scope_at p child.0 own n) (forest_of (drop (i + 1) items)))
    (steps_below p (scope_at p child.0 own n) (next_at p child.0 own n + cond (opens child.1.kind) 1 0 + scopes_in child.1.children) (cursor_past p child.0 cursor (child_place p (scope_at p child.0 own n) cursor child.0 child.1)) (forest_of (drop (i + 1) items)))

-- behind the last child a scope that is still to open opens and closes
pub end_at : (ds : List Declaration) (w : WalkState) (p : Place) (own : Option OpenScope) (n cursor : ℕ) (items : List (Role × Node)) (i : ℕ) → length items ≤ i
    → after_all ds w (steps_below p own n cursor (forest_of (drop i items))) ≡ after_all ds w (opening_last p own n)
end_at ds w p own n cursor items i h = ap (after_all ds w) (steps_end p own n cursor items i h)

-- how many scopes there are
pub count_opening : (ds : List Declaration) (w : WalkState) (p : Place) (r : Role) (own : Option OpenScope) (n : ℕ) → length w.tables.scopes ≡ n → length (after_all ds w (opening_at p r own n)).tables.scopes ≡ next_at p r own n
count_opening ds w p r (Some s) n e = e
count_opening ds w p r None n e = by (is_inside p.node.kind r)
  where
    by : (b : Bool) → length (after_all ds w (cond b (opening p (opened_scope p n) ∷ []) [])).tables.scopes ≡ cond b (suc n) n
    by true = omega (arith, after_count ds w (opening p (opened_scope p n) ∷ []), e)
    by false = e

pub count_node : (ds : List Declaration) (w : WalkState) (p : Place) (n : ℕ) → length (after_all ds w (steps_of p n)).tables.scopes ≡ length w.tables.scopes + cond (opens p.node.kind) 1 0 + scopes_in p.node.children
count_node ds w p n = omega (arith, after_count ds w (steps_of p n), opened_by_node p n)

pub count_ending : (ds : List Declaration) (w : WalkState) (p : Place) (r : Role) (own : Option OpenScope) (rest : Forest) → length (after_all ds w (ending_after p r own rest)).tables.scopes ≡ length w.tables.scopes
count_ending ds w p r own rest = omega (arith, after_count ds w (ending_after p r own rest), none_after p r own rest)

pub count_below : (ds : List Declaration) (w : WalkState) (p : Place) (own : Option OpenScope) (n cursor : ℕ) (f : Forest) → length (after_all ds w (steps_below p own n cursor f)).tables.scopes ≡ length w.tables.scopes + left_to_open own p + scopes_in f
count_below ds w p own n cursor f = omega (arith, after_count ds w (steps_below p own n cursor f), opened_below p own n cursor f)

pub stands_kept : (w v : WalkState) (p : Place) (own : Option OpenScope) (n m : ℕ) → KeepsRows w.tables v.tables → length v.tables.scopes ≡ m → WalkStandsAt w p own n → WalkStandsAt v p own m
stands_kept w v p own n m k e h = record { count = e; chain = chain_kept w.tables v.tables p.chain k h.chain; shown = own_kept w.tables v.tables p own k h.shown }

pub stands_entering : (ds : List Declaration) (w : WalkState) (p : Place) (own : Option OpenScope) (n : ℕ) → WalkStandsAt w p own n → WalkStandsAt (after ds w (entering p)) p own n
stands_entering ds w p own n h = stands_kept w (after ds w (entering p)) p own n n (step_rows ds w (entering p)) (omega (arith, after_count ds w (entering p ∷ []), h.count)) h

pub stands_opening : (ds : List Declaration) (w : WalkState) (p : Place) (r : Role) (own : Option OpenScope) (n : ℕ) → WalkStandsAt w p own n → WalkStandsAt (after_all ds w (opening_at p r own n)) p (scope_at p r own n) (next_at p r own n)
stands_opening ds w p r (Some s) n h = h
stands_opening ds w p r None n h = by (is_inside p.node.kind r)
  where
    by : (b : Bool) → WalkStandsAt (after_all ds w (cond b (opening p (opened_scope p n) ∷ []) [])) p (cond b (Some (opened_scope p n)) None) (cond b (suc n) n)
    by true = record {
      count = omega (arith, after_count ds w (opening p (opened_scope p n) ∷ []), h.count);
      chain = chain_kept w.tables (after ds w (opening p (opened_scope p n))).tables p.chain (step_rows ds w (opening p (opened_scope p n))) h.chain;
      shown = opening_chain ds w p (opened_scope p n) (sym h.count) h.chain;
    }
    by false = h

-- so it stands at a child before its steps
pub stands_child : (w : WalkState) (p : Place) (own : Option OpenScope) (n cursor : ℕ) (r : Role) (node : Node) → WalkStandsAt w p own n → WalkStandsAt w (child_place p own cursor r node) None n
stands_child w p own n cursor r node h = record { count = h.count; chain = child_shown w.tables p own cursor r node h.chain h.shown; shown = tt }

-- and behind them
pub stands_past : (ds : List Declaration) (w : WalkState) (p child : Place) (own : Option OpenScope) (n : ℕ) → WalkStandsAt w p own n → WalkStandsAt (after_all ds w (steps_of child n)) p own (n + cond (opens child.node.kind) 1 0 + scopes_in child.node.children)
stands_past ds w p child own n h =
    stands_kept w (after_all ds w (steps_of child n)) p own n (n + cond (opens child.node.kind) 1 0 + scopes_in child.node.children) (steps_rows ds w (steps_of child n)) (omega (arith, count_node ds w child n, h.count)) h

pub stands_ending : (ds : List Declaration) (w : WalkState) (p : Place) (r : Role) (own : Option OpenScope) (rest : Forest) (n : ℕ) → WalkStandsAt w p own n → WalkStandsAt (after_all ds w (ending_after p r own rest)) p own n
stands_ending ds w p r own rest n h =
    stands_kept w (after_all ds w (ending_after p r own rest)) p own n n (steps_rows ds w (ending_after p r own rest)) (omega (arith, count_ending ds w p r own rest, h.count)) h
