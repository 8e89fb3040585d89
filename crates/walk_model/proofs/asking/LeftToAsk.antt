-- How many scopes are left to ask for the references that wait, by the views of the end.
use Rattle.std.proofs.Common.{◌≡◌, ℕ, zero, suc, ◌+◌, ◌<◌, ◌==◌, List, [], ◌∷◌, ◌++◌, Option, Some, None, cond, inl, inr, refl, sym, ap, subst, ◌∙◌, map, option_map, length, arith}
use Rattle.std.specs.Prelude.{slice_get}
use Rattle.std.specs.List.{AllByRecursion, sum_by}
use Rattle.std.proofs.lemmas.Bool.Decides.{eqb_tells}
use Rattle.std.proofs.lemmas.List.{length-append, append_assoc}
use Rattle.std.proofs.lemmas.List.Sums.{sum_by-cons}
use Rattle.semantic_syntax.specs.declared.references.Reference.{Reference}
use Rattle.semantic_model.specs.Place.{OpenScope}
use Rattle.semantic_model.specs.Reference.{Occurrence}
use Rattle.semantic_model.specs.Event.{Event}
use Rattle.semantic_model.specs.Fold.{State}
use Rattle.semantic_syntax.specs.Lookup.{probes_in}
use Rattle.semantic_syntax.specs.Outcome.{Pending, Outcome, means, is_free, waits, staying, waiting_on, looked_up_from}
use Rattle.semantic_model.specs.Tie.{Tie, ties, answer}
use Rattle.walk_model.proofs.places.Nested.{Descends}
use Rattle.walk_model.proofs.refers.Settling.{Tracks, none, is_done, is_open, AreNumbered}

-- the scopes of a chain from the one of the number on
abbrev pub scopes_from : ℕ → List OpenScope → List OpenScope
scopes_from c [] = []
scopes_from c (s ∷ ss) = cond (s.number == c) (s ∷ ss) (scopes_from c ss)

-- how many of the scopes a reference asks
abbrev pub cost : State → List Event → Occurrence → List OpenScope → ℕ
cost final es r ss = probes_in r.name r.way (map (answer final es r.name) ss)

-- how many scopes it asks in all
abbrev pub cost_of : State → List Event → Occurrence → ℕ
cost_of final es r = cost final es r r.chain

abbrev pub left_of : State → List Event → Option Occurrence → ℕ → ℕ
left_of final es None c = 0
left_of final es (Some r) c = cost final es r (scopes_from c r.chain)

-- how many scopes are left for a reference that waits, among those of the program
abbrev pub left_for : State → List Event → List Occurrence → Pending → ℕ
left_for final es rs e = left_of final es (slice_get rs e.reference) e.lookup_scope

-- from one of its scopes a chain is what follows there
pub from_there : (n : ℕ) (xs : List OpenScope) (s : OpenScope) (ss : List OpenScope) → Descends n (xs ++ s ∷ ss) → scopes_from s.number (xs ++ s ∷ ss) ≡ s ∷ ss
from_there n [] s ss d = elim (eqb_tells s.number s.number) [ inl q ↦ rw q.0 refl | inr q ↦ absurd (q.1 refl) ]
from_there n (x ∷ xs) s ss d = elim (eqb_tells x.number s.number) [
  | inl q ↦ absurd (omega (arith, q.1, below x.number xs d.1))
  | inr q ↦ rw q.0 (from_there x.number xs s ss d.1)
]
  where
    below : (m : ℕ) (ys : List OpenScope) → Descends m (ys ++ s ∷ ss) → s.number < m
    below m [] e = e.0
    below m (y ∷ ys) e = omega (arith, e.0, below y.number ys e.1)

-- what is left once the reference has its outcome
abbrev pub left_then : (Pending → ℕ) → Pending → Outcome → ℕ
left_then left e (means y) = 0
left_then left e is_free = 0
left_then left e (waits s) = left (record e { lookup_scope = s })

-- if each pays what its outcome spares, so do all
pub all_pay : (left pays : Pending → ℕ) (outcome : Pending → Outcome) (es : List Pending) → AllByRecursion (λ e. left e ≡ pays e + left_then left e (outcome e)) es
    → sum_by left es ≡ sum_by pays es + sum_by left (staying es (map outcome es))
all_pay left pays outcome [] h = refl
all_pay left pays outcome (e ∷ es) h = by (all_pay left pays outcome es h.1) (outcome e) h.0
  where
    by : sum_by left es ≡ sum_by pays es + sum_by left (staying es (map outcome es)) → (o : Outcome) → left e ≡ pays e + left_then left e o
        → sum_by left (e ∷ es) ≡ sum_by pays (e ∷ es) + sum_by left (waiting_on looked_up_from e o (staying es (map outcome es)))
    by rest (means y) q = omega (arith, q, rest, sum_by-cons left e es, sum_by-cons pays e es)
    by rest is_free q = omega (arith, q, rest, sum_by-cons left e es, sum_by-cons pays e es)
    by rest (waits s) q = omega (arith, q, rest, sum_by-cons left e es, sum_by-cons pays e es, sum_by-cons left (record e { lookup_scope = s }) (staying es (map outcome es)))

pub all_pay_last : (left pays : Pending → ℕ) (es : List Pending) → AllByRecursion (λ e. left e ≡ pays e) es → sum_by left es ≡ sum_by pays es
all_pay_last left pays [] h = refl
all_pay_last left pays (e ∷ es) h = omega (arith, h.0, all_pay_last left pays es h.1, sum_by-cons left e es, sum_by-cons pays e es)

-- a reference that waits, and its tie among the list
pub record HasTie (W : Tie → Pending → Type 0) (ts : List Tie) (e : Pending) : Type 0 where
  pub tie : Tie
  pub waits_so : W tie e
  pub is_there : slice_get ts e.reference ≡ Some tie

tie_at : (ts : List Tie) (t : Tie) (us : List Tie) (n : ℕ) → length ts ≡ n → slice_get (ts ++ t ∷ us) n ≡ Some t
tie_at [] t us zero e = refl
tie_at [] t us (suc n) e = absurd (omega arith)
tie_at (u ∷ ts) t us zero e = absurd (omega arith)
tie_at (u ∷ ts) t us (suc n) e = tie_at ts t us n (omega arith)

-- each that waits stands at its number
pub among_ties : (D : Tie → Type 0) (W : Tie → Pending → Type 0) → ((t : Tie) (e : Pending) → W t e → e.reference ≡ t.number)
    → (ts : List Tie) (refs : List Reference) (waiting : List Pending) (n : ℕ) (before : List Tie) → Tracks D W ts refs waiting → AreNumbered n ts → length before ≡ n
    → AllByRecursion (HasTie W (before ++ ts)) waiting
among_ties D W number ts refs waiting n before none k l = tt
among_ties D W number ts refs waiting n before (is_done {t = t} {ts = ts2} {rs = refs2} {es = waiting2} d h) k l =
    subst (λ (zs : List Tie). AllByRecursion (HasTie W zs) waiting2) (append_assoc before (t ∷ []) ts2)
    (among_ties D W number ts2 refs2 waiting2 (suc n) (before ++ t ∷ []) h k.1 (omega (arith, length-append before (t ∷ []), l)))
among_ties D W number ts refs waiting n before (is_open {t = t} {e = e} {ts = ts2} {rs = refs2} {es = waiting2} w h) k l = (
  record { tie = t; waits_so = w; is_there = tie_at before t ts2 e.reference (l ∙ sym (number t e w ∙ k.0)) },
  subst (λ (zs : List Tie). AllByRecursion (HasTie W zs) waiting2) (append_assoc before (t ∷ []) ts2)
      (among_ties D W number ts2 refs2 waiting2 (suc n) (before ++ t ∷ []) h k.1 (omega (arith, length-append before (t ∷ []), l))),
)

pub each : {P Q : Pending → Type 0} → ((e : Pending) → P e → Q e) → (es : List Pending) → AllByRecursion P es → AllByRecursion Q es
each f [] h = tt
each f (e ∷ es) h = (f e h.0, each f es h.1)

-- the reference of a tie stands at the same number
pub reference_at_tie : (final : State) (es : List Event) (n : ℕ) (rs : List Occurrence) (i : ℕ) (t : Tie) → slice_get (ties final es n rs) i ≡ Some t → slice_get rs i ≡ Some t.reference
reference_at_tie final es n [] i t h = absurd cc
reference_at_tie final es n (r ∷ rs) zero t h = ap (option_map (λ (u : Tie). u.reference)) h
reference_at_tie final es n (r ∷ rs) (suc i) t h = reference_at_tie final es (suc n) rs i t h

pub more_at : (rs qs : List Occurrence) (i : ℕ) (r : Occurrence) → slice_get rs i ≡ Some r → slice_get (rs ++ qs) i ≡ Some r
more_at [] qs i r h = absurd cc
more_at (x ∷ rs) qs zero r h = h
more_at (x ∷ rs) qs (suc i) r h = more_at rs qs i r h

pub next_at : (rs : List Occurrence) (r : Occurrence) (qs : List Occurrence) (n : ℕ) → length rs ≡ n → slice_get (rs ++ r ∷ qs) n ≡ Some r
next_at [] r qs zero e = refl
next_at [] r qs (suc n) e = absurd (omega arith)
next_at (x ∷ rs) r qs zero e = absurd (omega arith)
next_at (x ∷ rs) r qs (suc n) e = next_at rs r qs n (omega arith)
