-- Step by step, the walk's tables show the state of the definitions.
use Rattle.std.proofs.Common.{◌≡◌, ℕ, suc, ◌<◌, List, [], ◌∷◌, ◌++◌, None, Bool, true, false, cond, ◌&&◌, inl, inr, refl, sym, ap, subst, length, flat_map, arith}
use Rattle.std.proofs.lemmas.List.{length-append}
use Rattle.semantic_kinds.specs.declared.kind.AstType.TheVariants as kind
use Rattle.semantic_kinds.specs.declared.role.Role.TheVariants as role
use Rattle.semantic_kinds.specs.Roles.{same_role}
use Rattle.semantic_tree.specs.Tree.{Tree}
use Rattle.semantic_tree.specs.Faults.{first_fault}
use Rattle.semantic_syntax.specs.Told.{source_of}
use Rattle.semantic_tree.specs.Views.{is}
use Rattle.semantic_model.specs.Place.{Place, OpenScope, innermost, parent_holds}
use Rattle.semantic_model.specs.Binding.{bound_by}
use Rattle.semantic_model.specs.Declaration.{How, plain, hoisted, moved, caught, Declaration, stands_in}
use Rattle.semantic_model.specs.Step.{Step, entering, opening, header_ending, closing, leaving, steps, steps_below, root_place}
use Rattle.semantic_model.specs.Cursor.{on_entering}
use Rattle.semantic_model.specs.Binder.{declared_by, declared_on_entering, declared_on_opening}
use Rattle.semantic_model.specs.Event.{Event, takes_over, is_catch_body, taken_over, declares_all, placed, events_of, events, written_declarations}
use Rattle.semantic_model.specs.Fold.{State, start}
use Rattle.semantic_model.specs.Hoist.{declare_by, run}
use Rattle.semantic_syntax.specs.Outcome.{header_outcome, last_outcome}
use Rattle.semantic_syntax.proofs.Truth.{and_first}
use Rattle.semantic_model.proofs.steps.Compose.{run-append}
use Rattle.semantic_model.specs.TablesOf.{numbers}
use Rattle.walk_model.specs.WalkState.{WalkState, nothing_made}
use Rattle.walk_model.specs.Opens.{open_scope}
use Rattle.walk_model.specs.Walks as walk
use Rattle.walk_model.proofs.shows.Represents.{Represents}
use Rattle.walk_model.proofs.shows.ShownChanges.{represents_make, represents_declare}
use Rattle.walk_model.proofs.shows.ShownHoists.{ArePassed, hoist_as, declare_and_move_as}
use Rattle.walk_model.proofs.shows.ShownTakeOvers.{represents_taken, represents_settle, represents_entering, represents_closing, represents_opening, opened_empty}
use Rattle.walk_model.proofs.places.Nested.{Descends, IsChain, IsNestedStep, AreNested, open_past, seen_past, seen_after, Leads, nested_below, nested-append}
use Rattle.walk_model.proofs.places.Routes.{grounded, IsWay, GoesOut, AllGoOut, HasVar, entering_goes, opening_goes, placed_goes, target_below, passed_apart}
use Rattle.walk_model.proofs.places.Grounds.{IsGrounded, IsStepGrounded, AllGrounded, all_grounded}

-- where a block function stands is passed
stands_apart : (n : ℕ) (d : Declaration) (passed : List OpenScope) (rest : List OpenScope) → d.route.passed ≡ passed → (passed ≡ [] → ⊥) → Descends n (passed ++ d.route.target ∷ rest) → (stands_in d < n) × (stands_in d ≡ d.route.target.number → ⊥)
stands_apart n d [] rest e l h = absurd (l refl)
stands_apart n d (s ∷ ss) rest e l h =
    let below : d.route.target.number < s.number = target_below s.number ss d.route.target rest h.1 in
    rw e (h.0, λ q. absurd (omega (arith, below, q)))

-- each passed scope is open
all_passed : (n : ℕ) (passed : List OpenScope) (target : OpenScope) (rest : List OpenScope) → Descends n (passed ++ target ∷ rest) → ArePassed n passed target.number
all_passed n [] target rest h = tt
all_passed n (s ∷ ss) target rest h =
    let below : target.number < s.number = target_below s.number ss target rest h.1 in
    (h.0, λ e. absurd (omega (arith, below, e)), passed_apart n ss target rest s.number h.0 h.1)

declare_by_as : (how : How) (n : ℕ) (chain : List OpenScope) (w : WalkState) (st : State) (d : Declaration) → IsWay chain how d.route.passed d.route.target → Descends n (grounded chain) → Represents n w st → Represents n (walk.declare_by how w d) (declare_by how st d)
declare_by_as plain n chain w st d g k h =
    represents_declare n w st d.route.target.number d (target_below n d.route.passed d.route.target g.rest (subst (Descends n) (sym g.is) k)) h
declare_by_as caught n chain w st d g k h =
    represents_make n w st d.route.target.number d (target_below n d.route.passed d.route.target g.rest (subst (Descends n) (sym g.is) k)) h
declare_by_as hoisted n chain w st d g k h =
    let down : Descends n (d.route.passed ++ d.route.target ∷ g.rest) = subst (Descends n) (sym g.is) k in
    hoist_as n w st d (target_below n d.route.passed d.route.target g.rest down) (all_passed n d.route.passed d.route.target g.rest down) h
declare_by_as moved n chain w st d g k h =
    let down : Descends n (d.route.passed ++ d.route.target ∷ g.rest) = subst (Descends n) (sym g.is) k in
    let q : (stands_in d < n) × (stands_in d ≡ d.route.target.number → ⊥) = stands_apart n d d.route.passed g.rest refl g.leaves down in
    declare_and_move_as n w st d q.0 (target_below n d.route.passed d.route.target g.rest down) q.1 h

pub declares_as : (n : ℕ) (chain : List OpenScope) (w : WalkState) (st : State) (ds new : List Declaration) → AllGoOut chain new → Descends n (grounded chain) → Represents n w st
    → Represents n (walk.act_all w (declares_all ds new)) (run st (declares_all ds new))
declares_as n chain w st ds [] g k h = h
declares_as n chain w st ds (d ∷ new) g k h =
    let there : Declaration = placed ds d in
    let goes : GoesOut chain there = placed_goes chain d.how ds d g.0 in
    declares_as n chain (walk.declare_by there.how w there) (declare_by there.how st there) ds new g.1 k (declare_by_as there.how n chain w st there goes k h)

pub solid : (n : ℕ) (chain : List OpenScope) → HasVar chain → Descends n chain → Descends n (grounded chain)
solid n [] v h = absurd (v refl)
solid n (s ∷ ss) v h = h

pub root_declares_none : (p : Place) → p.node.kind ≡ kind.Program → declared_on_entering p ≡ []
root_declares_none p e = ap (λ k. declared_by k p) e

pub entering_as : (n : ℕ) (ds : List Declaration) (w : WalkState) (st : State) (p : Place) → IsGrounded p → Descends n p.chain → Represents n w st
    → Represents n (walk.act_all w (declares_all ds (declared_on_entering p))) (run st (declares_all ds (declared_on_entering p)))
entering_as n ds w st p (inl v) k h = declares_as n p.chain w st ds (declared_on_entering p) (entering_goes p.node.kind p v) (solid n p.chain v k) h
entering_as n ds w st p (inr e) k h = rw (root_declares_none p e) h

act_all-append : (w : WalkState) (es fs : List Event) → walk.act_all w (es ++ fs) ≡ walk.act_all (walk.act_all w es) fs
act_all-append w [] fs = refl
act_all-append w (e ∷ es) fs = act_all-append (walk.act w e) es fs

pub first_below : (n : ℕ) (chain : List OpenScope) → HasVar chain → Descends n chain → (innermost chain).number < n
first_below n [] v h = absurd (v refl)
first_below n (s ∷ ss) v h = h.0

-- a block that takes over is not the root
pub body_has_var : (p : Place) → IsGrounded p → is_catch_body p ≡ true → HasVar p.chain
body_has_var p (inl v) h = v
body_has_var p (inr e) h =
    let b : is kind.BlockStatement p.node ≡ true = and_first (is kind.BlockStatement p.node) (same_role p.role role.Body) (and_first (is kind.BlockStatement p.node && same_role p.role role.Body) (parent_holds (is kind.CatchClause) p.path) h) in
    let q : false ≡ true = rw e at b in absurd cc

taken_as : (n : ℕ) (w : WalkState) (st : State) (p : Place) (s : OpenScope) → s.number ≡ n → IsGrounded p → Descends n p.chain → bound_by st.bindings n ≡ [] → Represents (suc n) w st
    → Represents (suc n) (walk.act_all w (taken_over p s)) (run st (taken_over p s))
taken_as n w st p s e g k empty h = go (is_catch_body p) refl
  where
    go : (b : Bool) → is_catch_body p ≡ b → Represents (suc n) (walk.act_all w (cond b (takes_over (innermost p.chain).number s.number ∷ []) [])) (run st (cond b (takes_over (innermost p.chain).number s.number ∷ []) []))
    go true q =
        let below : (innermost p.chain).number < n = first_below n p.chain (body_has_var p g q) k in
        represents_taken (suc n) w st (innermost p.chain).number s.number (omega arith) (omega arith) (λ i. absurd (omega arith)) (subst (λ m. bound_by st.bindings m ≡ []) (sym e) empty) h
    go false q = h

opening_as : (n : ℕ) (ds : List Declaration) (w : WalkState) (st : State) (p : Place) (s : OpenScope) → s.number ≡ n → IsGrounded p → Descends n p.chain → Represents n w st
    → Represents (suc n) (walk.act_all (open_scope w p s) (taken_over p s ++ declares_all ds (declared_on_opening p s))) (run st (taken_over p s ++ declares_all ds (declared_on_opening p s)))
opening_as n ds w st p s e g k h =
    let new : List Event = declares_all ds (declared_on_opening p s) in
    let took : Represents (suc n) (walk.act_all (open_scope w p s) (taken_over p s)) (run st (taken_over p s)) =
    taken_as n (open_scope w p s) st p s e g k (opened_empty n w st h) (represents_opening n w st p s h) in
    let down : Descends (suc n) (s ∷ p.chain) = (omega (arith, e), subst (λ m. Descends m p.chain) (sym e) k) in
    let all : Represents (suc n) (walk.act_all (walk.act_all (open_scope w p s) (taken_over p s)) new) (run (run st (taken_over p s)) new) =
    declares_as (suc n) (s ∷ p.chain) (walk.act_all (open_scope w p s) (taken_over p s)) (run st (taken_over p s)) ds (declared_on_opening p s) (opening_goes p.node.kind p s) down took in
    rw (act_all-append (open_scope w p s) (taken_over p s) new, run-append (taken_over p s) new st) all

pub step_as : (ds : List Declaration) (w : WalkState) (st : State) (stack : List ℕ) (seen : List (List ℕ)) (step : Step) → IsNestedStep stack seen step → IsStepGrounded step → Represents (length seen) w st
    → Represents (length (seen_past seen step)) (walk.after ds w step) (run st (events_of ds step))
step_as ds w st stack seen (entering p) nested g h =
    entering_as (length seen) ds (walk.prepare w (entering p)) st p g nested.descends (represents_entering (length seen) w st p h)
step_as ds w st stack seen (opening p s) nested g h =
    let more : suc (length seen) ≡ length (seen ++ numbers p.chain ∷ []) = omega (arith, length-append seen (numbers p.chain ∷ [])) in
    subst (λ n. Represents n (walk.after ds w (opening p s)) (run st (events_of ds (opening p s)))) more
    (opening_as (length seen) ds w st p s (ap (λ o. o.number) nested.1) g nested.0.descends h)
step_as ds w st stack seen (header_ending p s) nested g h = represents_settle (length seen) w st (header_outcome (source_of w.tables) s.number) h
step_as ds w st stack seen (closing p s) nested g h = represents_closing (length seen) w st s.number h
step_as ds w st stack seen (leaving p) nested g h = h

pub steps_as : (ds : List Declaration) (w : WalkState) (st : State) (stack : List ℕ) (seen : List (List ℕ)) (ss : List Step) → AreNested stack seen ss → AllGrounded ss → Represents (length seen) w st
    → Represents (length (seen_after seen ss)) (walk.after_all ds w ss) (run st (flat_map (events_of ds) ss))
steps_as ds w st stack seen [] nested g h = h
steps_as ds w st stack seen (s ∷ more) nested g h =
    rw (run-append (events_of ds s) (flat_map (events_of ds) more) st)
    (steps_as ds (walk.after ds w s) (run st (events_of ds s)) (open_past stack s) (seen_past seen s) more nested.1 g.1 (step_as ds w st stack seen s nested.0 g.0 h))

pub nothing_as : Represents 0 nothing_made start
nothing_as = record {
  shows = record { scopes = refl; bindings = λ c. refl; single = tt; symbols = refl; remembered = refl; conflicts = refl; uses = refl };
  notes = record { pure_is = refl; nodes_are = refl };
}

-- the steps of a program are nested
pub program_nested : (p : Tree) → AreNested [] [] (steps p)
program_nested p =
    let below : List Step = steps_below (root_place p) None 0 (on_entering p.root.kind 0) p.root.children in
    let chain : IsChain [] [] [] = record { are_open = tt; are_linked = tt; descends = tt } in
    let led : Leads [] [] [] below = nested_below (root_place p) None 0 (on_entering p.root.kind 0) p.root.children [] [] refl chain tt in
    (chain, nested-append [] [] below (leaving (root_place p) ∷ []) led.nested (tt, tt))

-- so the walk shows the whole fold
pub walk_as : (p : Tree) → first_fault p ≡ None → Represents (length (seen_after [] (steps p))) (walk.walked p) (run start (events (steps p)))
walk_as p h =
    let ds : List Declaration = written_declarations (steps p) in
    let all : WalkState = walk.after_all ds nothing_made (steps p) in
    represents_settle (length (seen_after [] (steps p))) all (run start (events (steps p))) (last_outcome (source_of all.tables))
    (steps_as ds nothing_made start [] [] (steps p) (program_nested p) (all_grounded p h) nothing_as)
