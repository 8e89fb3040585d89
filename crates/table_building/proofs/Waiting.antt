-- References that wait, in tables that grow.
use Rattle.std.proofs.Common.{◌≡◌, ℕ, zero, suc, ◌<◌, List, [], ◌∷◌, ◌++◌, length, take, drop, map, Some, None, All, arith, get_or, subst, refl, ap, slice_get, slice_index_or}
use Rattle.std.proofs.lemmas.List.Elements.{All-nil, All-cons, All-head, All-tail}
use Rattle.semantic_syntax.specs.Source.{IsSource}
use Rattle.semantic_syntax.specs.Told.{source_of}
use Rattle.table_building.proofs.Outcomes.{header_outcome-below, last_outcome-below}
use Rattle.semantic_syntax.specs.Tables.{Tables}
use Rattle.resolver.specs.declared.outcomes.Outcome.{Outcome}
use Rattle.resolver.specs.declared.outcomes.Outcome.TheVariants.{Tied, Free, Pending}
use Rattle.resolver.specs.declared.pending.UnresolvedReference.{UnresolvedReference}
use Rattle.resolver.specs.Terms.{outcome_of, pending_of, staying as staying_of}
use Rattle.semantic_syntax.specs.Outcome.{Pending as Waiting, header_outcome, last_outcome, staying}
use Rattle.semantic_syntax.specs.Outcome as model
use Rattle.table_building.specs.Growth.{Grows}
use Rattle.table_building.specs.Settled.{IsOutcomeWithin, no_pending}
use Rattle.table_building.specs.Waiting.{AreWaiting}

pub waiting_drop : (t : Tables) (n : ℕ) (es : List Waiting) → AreWaiting t es → AreWaiting t (drop n es)
waiting_drop t zero es h = h
waiting_drop t (suc n) [] h = tt
waiting_drop t (suc n) (e ∷ es) h = waiting_drop t n es h.1

-- what is said of what waits, of the program's references
pub scopes_exist : (t : Tables) (us : List UnresolvedReference) → AreWaiting t (map pending_of us) → All (λ u. u.lookup_scope_id < length t.scopes) us
scopes_exist t [] h = All-nil (λ (u : UnresolvedReference). u.lookup_scope_id < length t.scopes)
scopes_exist t (u ∷ us) h = All-cons (λ (u : UnresolvedReference). u.lookup_scope_id < length t.scopes) u us h.0.scope (scopes_exist t us h.1)

pub references_exist : (t : Tables) (us : List UnresolvedReference) → AreWaiting t (map pending_of us) → All (λ u. u.reference_id < length t.references) us
references_exist t [] h = All-nil (λ (u : UnresolvedReference). u.reference_id < length t.references)
references_exist t (u ∷ us) h = All-cons (λ (u : UnresolvedReference). u.reference_id < length t.references) u us h.0.reference (references_exist t us h.1)

-- the reference at a place
pub waiting_at : (t : Tables) (us : List UnresolvedReference) (i : ℕ) (u : UnresolvedReference) → slice_get us i ≡ Some u → AreWaiting t (map pending_of us)
    → u.reference_id < length t.references
waiting_at t [] i u is h = absurd (cc)
waiting_at t (e ∷ us) zero u is h = let same : e ≡ u = cc in subst (λ (v : UnresolvedReference). v.reference_id < length t.references) same h.0.reference
waiting_at t (e ∷ us) (suc i) u is h = waiting_at t us i u is h.1

pub pending_at : (us : List UnresolvedReference) (i : ℕ) (u : UnresolvedReference) → slice_get us i ≡ Some u → slice_index_or (map pending_of us) i no_pending ≡ pending_of u
pending_at [] i u is = absurd (cc)
pending_at (e ∷ us) zero u is = let same : e ≡ u = cc in ap pending_of same
pending_at (e ∷ us) (suc i) u is = pending_at us i u is

pub none_at : (us : List UnresolvedReference) (i : ℕ) → slice_get us i ≡ None → i < length (map pending_of us) → ⊥
none_at [] i is h = omega arith
none_at (e ∷ us) zero is h = cc
none_at (e ∷ us) (suc i) is h = none_at us i is (omega arith)

-- those that wait on
pub staying_same : (us : List UnresolvedReference) (os : List Outcome) → map pending_of (staying_of us os) ≡ staying (map pending_of us) (map outcome_of os)
staying_same [] os = refl
staying_same (u ∷ us) [] = refl
staying_same (u ∷ us) (Tied y ∷ os) = staying_same us os
staying_same (u ∷ us) (Free ∷ os) = staying_same us os
staying_same (u ∷ us) (Pending s ∷ os) = ap (λ es. record (pending_of u) { lookup_scope = s } ∷ es) (staying_same us os)

-- references with outcomes from a place on
pub applied_same : (n : ℕ) (us : List UnresolvedReference) (os : List Outcome)
    → map pending_of (take n us ++ staying_of (drop n us) os) ≡ take n (map pending_of us) ++ staying (drop n (map pending_of us)) (map outcome_of os)
applied_same zero us os = staying_same us os
applied_same (suc n) [] os = refl
applied_same (suc n) (u ∷ us) os = ap (λ es. pending_of u ∷ es) (applied_same n us os)

-- what the outcome names exists in the tables
abbrev pub outcome_exists : Tables → Outcome → Type 0
outcome_exists t o = IsOutcomeWithin (length t.symbols) (length t.scopes) (outcome_of o)

waiting_staying : (t : Tables) (us : List UnresolvedReference) (os : List Outcome) → AreWaiting t (map pending_of us)
    → All (outcome_exists t) os → AreWaiting t (map pending_of (staying_of us os))
waiting_staying t [] os h w = tt
waiting_staying t (u ∷ us) [] h w = tt
waiting_staying t (u ∷ us) (Tied y ∷ os) h w = waiting_staying t us os h.1 (All-tail (outcome_exists t) (Tied y) os w)
waiting_staying t (u ∷ us) (Free ∷ os) h w = waiting_staying t us os h.1 (All-tail (outcome_exists t) Free os w)
waiting_staying t (u ∷ us) (Pending s ∷ os) h w =
    (record { scope = All-head (outcome_exists t) (Pending s) os w; reference = h.0.reference }, waiting_staying t us os h.1 (All-tail (outcome_exists t) (Pending s) os w))

pub waiting_applied : (t : Tables) (n : ℕ) (us : List UnresolvedReference) (os : List Outcome) → AreWaiting t (map pending_of us)
    → All (outcome_exists t) os → AreWaiting t (map pending_of (take n us ++ staying_of (drop n us) os))
waiting_applied t zero us os h w = waiting_staying t us os h w
waiting_applied t (suc n) [] os h w = tt
waiting_applied t (suc n) (u ∷ us) os h w = (h.0, waiting_applied t n us os h.1 w)

pub outcomes-grow : (t u : Tables) (os : List Outcome) → Grows t u → All (outcome_exists t) os → All (outcome_exists u) os
outcomes-grow t u os g w = λ k d within. grown (get_or os k d) (w k d within)
  where
    grown : (o : Outcome) → outcome_exists t o → outcome_exists u o
    grown (Tied y) h = omega (arith, g.symbols, h)
    grown Free h = tt
    grown (Pending s) h = omega (arith, g.scopes, h)

-- outcomes that name what exists in the tables, as each one of a definition does
are-within : (t : Tables) (outcome : Waiting → model.Outcome) (os : List Outcome) (es : List Waiting)
    → ((e : Waiting) → e.lookup_scope < length t.scopes → IsOutcomeWithin (length t.symbols) (length t.scopes) (outcome e)) → AreWaiting t es
    → map outcome_of os ≡ map outcome es → All (outcome_exists t) os
are-within t outcome [] es k h is = All-nil (outcome_exists t)
are-within t outcome (o ∷ os) [] k h is = absurd (cc)
are-within t outcome (o ∷ os) (e ∷ es) k h is =
    let first : outcome e ≡ outcome_of o = cc in
    All-cons (outcome_exists t) o os (subst (IsOutcomeWithin (length t.symbols) (length t.scopes)) first (k e h.0.scope)) (are-within t outcome os es k h.1 (cc))

module _ (t : Tables) (law : IsSource (source_of t)) (os : List Outcome) (es : List Waiting) (h : AreWaiting t es) where
  pub header-within : (scope : ℕ) → scope < length t.scopes → map outcome_of os ≡ map (header_outcome (source_of t) scope) es → All (outcome_exists t) os
  header-within scope l = are-within t (header_outcome (source_of t) scope) os es (λ e k. header_outcome-below (source_of t) law scope e l k) h

  pub last-within : map outcome_of os ≡ map (last_outcome (source_of t)) es → All (outcome_exists t) os
  last-within = are-within t (last_outcome (source_of t)) os es (λ e k. last_outcome-below (source_of t) law e k) h
