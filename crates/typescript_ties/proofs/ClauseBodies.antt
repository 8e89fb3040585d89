-- What is declared in a catch clause, the clause's block takes over, and it takes over that clause alone.
use Rattle.std.proofs.Common.{◌≡◌, ℕ, List, [], ◌∷◌, Option, Some, None, Bool, true, false, ◌||◌, cond, inl, inr, ◌⊎◌, refl, sym, ap, subst, ◌∙◌}
use Rattle.std.specs.Prelude.{slice_get}
use Rattle.std.proofs.lemmas.Bool.Decides.{eqb_tells}
use Rattle.semantic_tree.specs.Faults.{first_fault}
use Rattle.semantic_tree.specs.Tree.{Tree, IsNumbered}
use Rattle.semantic_model.specs.Binder.{declared_on_entering, declared_on_opening}
use Rattle.semantic_model.specs.Declaration.{Declaration, plain, caught}
use Rattle.semantic_model.specs.Entries.{Among}
use Rattle.semantic_model.specs.Event.{Event, declares, takes_over, ends_header, is_catch_body, taken_over, declares_all, events_of, events, declarations, written_declarations, placed}
use Rattle.semantic_model.specs.Place.{Place, OpenScope, innermost}
use Rattle.semantic_model.specs.Step.{Step, entering, opening, header_ending, closing, leaving, steps}
use Rattle.semantic_model.proofs.alone.Homecoming.{takes, AllHomed, homed}
use Rattle.semantic_model.proofs.alone.PlacesFollowed.{followed_program}
use Rattle.semantic_model.proofs.fold.Declared.{AllEventsIn}
use Rattle.semantic_model.proofs.fold.Orders.{HasForm, table_of, root_body, steps_in, events_in}
use Rattle.semantic_model.proofs.form.Shape.{has_form}
use Rattle.program_laws.proofs.DeclaredNodes.{among_map, among_flat}
use Rattle.semantic_model.proofs.lists.Members.{among_cases}
use Rattle.binding_laws.specs.SeenDeclarations.{is_own_name}
use Rattle.binding_laws.proofs.EnteredOnce.{entered_once}
use Rattle.binding_laws.proofs.ListLaws.{each_at}
use Rattle.binding_laws.proofs.ScopeOpeners.{openers, IsOpened}
use Rattle.binding_laws.proofs.SmallLaws.{some_is}
use Rattle.typescript_ties.proofs.ClearNames.{IsCaughtAlone}
use Rattle.typescript_ties.proofs.ClearTies.{all_known}
use Rattle.typescript_ties.proofs.OwnScopes.{OwnStep, own_program}
use Rattle.typescript_ties.proofs.UndeclaredFree.{OfOpened, IsEnteredIn, all_entered, opened_program}

-- the clause's scope is taken over in the events
taken_among : (c : ℕ) (es : List Event) → takes c es ≡ true → (b : ℕ) × Among (takes_over c b) es
taken_among c [] h = absurd cc
taken_among c (takes_over d g ∷ es) h = elim (eqb_tells d c) [
  | inl q ↦ (g, inl (ap (λ n. takes_over n g) q.1))
  | inr q ↦ (let (b, a) = taken_among c es (sym (ap (λ t. t || takes c es) q.0) ∙ h) in (b, inr a))
]
taken_among c (declares d ∷ es) h = let (b, a) = taken_among c es h in (b, inr a)
taken_among c (ends_header d ∷ es) h = let (b, a) = taken_among c es h in (b, inr a)

homed_among : (es : List Event) → AllHomed es → (d : Declaration) → Among d (declarations es) → (b : ℕ) → d.route.target.body ≡ Some b → (g : ℕ) × Among (takes_over d.route.target.number g) es
homed_among [] h d a b q = absurd a
homed_among (declares e ∷ es) h d (inl i) b q = let (g, k) = taken_among d.route.target.number es (subst (λ (z : Declaration). takes z.route.target.number es ≡ true) i (h.0 b (ap (λ (z : Declaration). z.route.target.body) i ∙ q))) in (g, inr k)
homed_among (declares e ∷ es) h d (inr a) b q = let (g, k) = homed_among es h.1 d a b q in (g, inr k)
homed_among (takes_over c f ∷ es) h d a b q = let (g, k) = homed_among es h d a b q in (g, inr k)
homed_among (ends_header c ∷ es) h d a b q = let (g, k) = homed_among es h d a b q in (g, inr k)

-- its body is that of the table, and has none itself
bodies_are : (table : List (Option ℕ)) (root : slice_get table 0 ≡ Some None) (es : List Event) → AllEventsIn table root es → (c g : ℕ) → Among (takes_over c g) es → (slice_get table c ≡ Some (Some g)) × (slice_get table g ≡ Some None)
bodies_are table root [] h c g a = absurd a
bodies_are table root (takes_over d b ∷ es) h c g (inl e) = let k : d ≡ c = cc in let l : b ≡ g = cc in (ap (slice_get table) (sym k) ∙ h.0.0 ∙ ap (λ n. Some (Some n)) l, ap (slice_get table) (sym l) ∙ h.0.1)
bodies_are table root (declares d ∷ es) h c g (inl e) = absurd cc
bodies_are table root (ends_header d ∷ es) h c g (inl e) = absurd cc
bodies_are table root (e ∷ es) h c g (inr a) = bodies_are table root es h.1 c g a

-- the block that takes it over, and its scope
pub record IsTakenOver (p : Tree) (c b : ℕ) : Type 0 where
  pub place : Place
  pub scope : OpenScope
  pub among : Among (opening place scope) (steps p)
  pub is_body : is_catch_body place ≡ true
  pub clause : (innermost place.chain).number ≡ c
  pub number : scope.number ≡ b

-- the block is entered, and opens the scope
pub record IsOpenedBy (p : Tree) (c b : ℕ) (t : IsTakenOver p c b) : Type 0 where
  pub entered : Among (entering t.place) (steps p)
  pub opened : slice_get (openers (steps p)) b ≡ Some t.place.node.node_id

pub opened_by : (p : Tree) (c b : ℕ) (t : IsTakenOver p c b) → IsOpenedBy p c b t
opened_by p c b t =
    let (entered, (n, is_own)) = each_at (OfOpened (IsEnteredIn (steps p))) (steps p) (opening t.place t.scope) (opened_program (IsEnteredIn (steps p)) p (all_entered (steps p) (steps p) (λ st a. a))) t.among in
    let listed : IsOpened (openers (steps p)) t.scope = each_at (OwnStep (steps p) (openers (steps p))) (steps p) (opening t.place t.scope) (own_program p) t.among in
    record { entered = entered; opened = ap (slice_get (openers (steps p))) (sym t.number) ∙ listed ∙ ap (λ (z : OpenScope). Some z.opener) is_own }

-- it takes over one clause alone
pub one_clause : (p : Tree) → IsNumbered p.root → (c d b : ℕ) → IsTakenOver p c b → IsTakenOver p d b → c ≡ d
one_clause p numbered c d b t u =
    let v : IsOpenedBy p c b t = opened_by p c b t in
    let w : IsOpenedBy p d b u = opened_by p d b u in
    let same : t.place ≡ u.place = entered_once p numbered t.place u.place v.entered w.entered (some_is t.place.node.node_id u.place.node.node_id (sym v.opened ∙ w.opened)) in
    sym t.clause ∙ ap (λ (z : Place). (innermost z.chain).number) same ∙ u.clause

no_declares : (ds new : List Declaration) (c b : ℕ) → Among (takes_over c b) (declares_all ds new) → ⊥
no_declares ds new c b a = let (d, i, e) = among_map (λ z. declares (placed ds z)) new (takes_over c b) a in absurd cc

taken_step : (p : Tree) (ds : List Declaration) (c b : ℕ) (st : Step) → Among st (steps p) → Among (takes_over c b) (events_of ds st) → IsTakenOver p c b
taken_step p ds c b (entering q) i a = absurd (no_declares ds (declared_on_entering q) c b a)
taken_step p ds c b (opening q s) i a = elim (among_cases (takes_over c b) (taken_over q s) (declares_all ds (declared_on_opening q s)) a) [
  | inr k ↦ absurd (no_declares ds (declared_on_opening q s) c b k)
  | inl k ↦ go (is_catch_body q) refl k
]
  where
    go : (t : Bool) → is_catch_body q ≡ t → Among (takes_over c b) (cond t (takes_over (innermost q.chain).number s.number ∷ []) []) → IsTakenOver p c b
    go true e (inl k) = let f : (innermost q.chain).number ≡ c = cc in let g : s.number ≡ b = cc in record { place = q; scope = s; among = i; is_body = e; clause = f; number = g }
    go true e (inr k) = absurd k
    go false e k = absurd k
taken_step p ds c b (header_ending q s) i (inl a) = absurd cc
taken_step p ds c b (header_ending q s) i (inr a) = absurd a
taken_step p ds c b (closing q s) i a = absurd a
taken_step p ds c b (leaving q) i a = absurd a

module _ (p : Tree) (h : first_fault p ≡ None) (d : Declaration) (there : Among d (declarations (events (steps p)))) (b : ℕ) (body : d.route.target.body ≡ Some b) where
  abbrev form : HasForm p
  form = has_form p h

  all_homed : AllHomed (events (steps p))
  all_homed = homed (table_of p) (root_body p form) (written_declarations (steps p)) (steps p) (steps_in p form) (followed_program p form)

  abbrev taken : (g : ℕ) × Among (takes_over d.route.target.number g) (events (steps p))
  taken = homed_among (events (steps p)) all_homed d there b body

  bodies : (slice_get (table_of p) d.route.target.number ≡ Some (Some taken.0)) × (slice_get (table_of p) taken.0 ≡ Some None)
  bodies = bodies_are (table_of p) (root_body p form) (events (steps p)) (events_in p form) d.route.target.number taken.0 taken.1

  same_body : taken.0 ≡ b
  same_body = some_is taken.0 b (some_is (Some taken.0) (Some b) (sym bodies.0 ∙ all_known p h d there ∙ ap Some body))

  -- the block's scope is no clause's
  pub body_ends : slice_get (table_of p) b ≡ Some None
  body_ends = ap (slice_get (table_of p)) (sym same_body) ∙ bodies.1

  pub taken_by_block : IsTakenOver p d.route.target.number b
  taken_by_block =
      let (st, i, a) = among_flat (events_of (written_declarations (steps p))) (steps p) (takes_over d.route.target.number taken.0) taken.1 in
      subst (IsTakenOver p d.route.target.number) same_body (taken_step p (written_declarations (steps p)) d.route.target.number taken.0 st i a)

-- so it is caught alone, if neither the clause nor the block has the name by another declaration
pub is_caught_alone : (p : Tree) (h : first_fault p ≡ None) → IsNumbered p.root → (d : Declaration) → Among d (declarations (events (steps p))) → (b : ℕ) → d.route.target.body ≡ Some b → (d.how ≡ plain) ⊎ (d.how ≡ caught) → is_own_name d ≡ false
    → ((e : Declaration) → Among e (declarations (events (steps p))) → e.naming.name ≡ d.naming.name → e.route.target.number ≡ d.route.target.number → e.naming.identifier ≡ d.naming.identifier)
    → ((e : Declaration) → Among e (declarations (events (steps p))) → e.naming.name ≡ d.naming.name → e.route.target.number ≡ b → ⊥) → IsCaughtAlone (table_of p) (declarations (events (steps p))) d b
is_caught_alone p h numbered d a b body how other alone unbodied = record {
  body = body;
  how = how;
  other = other;
  ends = body_ends p h d a b body;
  alone = alone;
  unbodied = unbodied;
  sole = λ e i n q. one_clause p numbered e.route.target.number d.route.target.number b (taken_by_block p h e i b q) (taken_by_block p h d a b body);
}
