-- Each reference is settled exactly once.
use Rattle.std.proofs.Common.{◌≡◌, ℕ, suc, ◌+◌, ◌<◌, ◌≤◌, ◌==◌, List, [], ◌∷◌, ◌++◌, length, Option, Some, None, Bool, true, false, cond, inl, inr, refl, ap, sym, subst, arith}
use Rattle.std.proofs.lemmas.Bool.{ne_eqb}
use Rattle.std.proofs.lemmas.Option.{none-some}
use Rattle.semantic_tree.specs.Tree.{Tree}
use Rattle.semantic_model.specs.Place.{OpenScope, Place, innermost}
use Rattle.semantic_syntax.specs.Lookup.{Lookup, tied, barred, unanswered}
use Rattle.std.proofs.lemmas.Bool.Decides.{eqb_tells}
use Rattle.semantic_model.specs.Reference.{Occurrence, references, reference_at}
use Rattle.semantic_model.specs.Fold.{State}
use Rattle.semantic_model.proofs.once.HeadersEndOnce.{less_or, IsEntered, held_ends_once}
use Rattle.semantic_model.proofs.once.Headers.{ends}
use Rattle.semantic_kinds.specs.declared.kind.AstType.TheVariants as kind
use Rattle.semantic_tree.specs.Views.{is}
use Rattle.semantic_model.specs.Step.{Step, entering, opening, header_ending, closing, leaving, steps}
use Rattle.semantic_model.specs.Declaration.{Declaration}
use Rattle.semantic_model.specs.Binder.{declared_on_entering, declared_on_opening}
use Rattle.std.specs.List.{cons_option}
use Rattle.std.specs.Prelude.{flat_map, filter}
use Rattle.semantic_model.specs.Event.{Event, declares, takes_over, ends_header, events, events_of, declares_all, taken_over, written_declarations, is_catch_body}
use Rattle.semantic_model.specs.Tie.{Tie, ties, first_header, header_from, moment_by, moment, is_at, is_last, settled_at, in_order}
use Rattle.semantic_model.specs.Entries.{Among}

-- how often the tie of reference n stands in a list
abbrev pub tie_times : ℕ → List Tie → ℕ
tie_times n [] = 0
tie_times n (t ∷ ts) = cond (t.number == n) 1 0 + tie_times n ts

pub tie-append : (n : ℕ) (xs ys : List Tie) → tie_times n (xs ++ ys) ≡ tie_times n xs + tie_times n ys
tie-append n [] ys = omega arith
tie-append n (x ∷ xs) ys = omega (arith, tie-append n xs ys)

-- how often a moment comes among the events
abbrev pub comes : Option ℕ → List Event → ℕ
comes m [] = 0
comes m (ends_header c ∷ es) = cond (is_at c m) 1 0 + comes m es
comes m (declares d ∷ es) = comes m es
comes m (takes_over c b ∷ es) = comes m es

-- the part of one tie
share : (n : ℕ) (t : Tie) (ts : List Tie) (b : Bool) → tie_times n (cond b (t ∷ ts) ts) ≡ cond b (cond (t.number == n) 1 0) 0 + tie_times n ts
share n t ts true = refl
share n t ts false = omega arith

-- the ties that are settled at the ends of headers, one tie more
at_headers : (n : ℕ) (t : Tie) (ts : List Tie) (es : List Event) → tie_times n (flat_map (settled_at (t ∷ ts)) es) ≡ cond (t.number == n) (comes (moment t) es) 0 + tie_times n (flat_map (settled_at ts) es)
at_headers n t ts [] = by (t.number == n)
  where
    by : (b : Bool) → ◌≡◌ {A = ℕ} 0 (cond b 0 0 + 0)
    by true = refl
    by false = refl
at_headers n t ts (declares d ∷ es) = at_headers n t ts es
at_headers n t ts (takes_over c b ∷ es) = at_headers n t ts es
at_headers n t ts (ends_header c ∷ es) =
    omega (
      arith,
      tie-append n (settled_at (t ∷ ts) (ends_header c)) (flat_map (settled_at (t ∷ ts)) es),
      tie-append n (settled_at ts (ends_header c)) (flat_map (settled_at ts) es),
      share n t (filter (λ x. is_at c (moment x)) ts) (is_at c (moment t)),
      at_headers n t ts es,
      by (t.number == n) (is_at c (moment t)) (comes (moment t) es),
    )
  where
    by : (b a : Bool) (k : ℕ) → ◌≡◌ {A = ℕ} (cond b (cond a 1 0 + k) 0) (cond a (cond b 1 0) 0 + cond b k 0)
    by true a k = by' a
      where
        by' : (a : Bool) → ◌≡◌ {A = ℕ} (cond a 1 0 + k) (cond a 1 0 + k)
        by' a = refl
    by false true k = refl
    by false false k = refl

-- the tie is settled once: at the end of one header, or in the end
abbrev pub IsOnce : List Event → Tie → Type 0
IsOnce es t = comes (moment t) es + cond (is_last (moment t)) 1 0 ≡ 1

none_settled : (n : ℕ) (es : List Event) → tie_times n (flat_map (settled_at []) es) ≡ 0
none_settled n [] = refl
none_settled n (declares d ∷ es) = none_settled n es
none_settled n (takes_over c b ∷ es) = none_settled n es
none_settled n (ends_header c ∷ es) = none_settled n es

-- each tie stands in the order of settling as often as in the list
pub in_order_keeps : (n : ℕ) (es : List Event) (ts : List Tie) → ((t : Tie) → Among t ts → IsOnce es t) → tie_times n (in_order es ts) ≡ tie_times n ts
in_order_keeps n es [] h = omega (arith, tie-append n (flat_map (settled_at []) es) [], none_settled n es)
in_order_keeps n es (t ∷ ts) h =
    omega (
      arith,
      tie-append n (flat_map (settled_at (t ∷ ts)) es) (filter (λ x. is_last (moment x)) (t ∷ ts)),
      tie-append n (flat_map (settled_at ts) es) (filter (λ x. is_last (moment x)) ts),
      at_headers n t ts es,
      share n t (filter (λ x. is_last (moment x)) ts) (is_last (moment t)),
      by (t.number == n) (is_last (moment t)) (comes (moment t) es) (h t (inl refl)),
      in_order_keeps n es ts (λ x at. h x (inr at)),
    )
  where
    by : (b a : Bool) (k : ℕ) → k + cond a 1 0 ≡ 1 → ◌≡◌ {A = ℕ} (cond b k 0 + cond a (cond b 1 0) 0) (cond b 1 0)
    by true true k e = omega (arith, e)
    by true false k e = omega (arith, e)
    by false true k e = refl
    by false false k e = refl

no_bit : (b : Bool) → b ≡ false → ◌≡◌ {A = ℕ} (cond b 1 0) 0
no_bit b e = rw e refl

-- ties are numbered one by one
pub not_before : (n : ℕ) (final : State) (es : List Event) (m : ℕ) (rs : List Occurrence) → n < m → tie_times n (ties final es m rs) ≡ 0
not_before n final es m [] h = refl
not_before n final es m (r ∷ rs) h =
    omega (arith, no_bit (m == n) (ne_eqb m n (λ e. absurd (omega (arith, h, e)))), not_before n final es (suc m) rs (omega (arith, h)))

pub numbered_once : (n : ℕ) (final : State) (es : List Event) (m : ℕ) (rs : List Occurrence) → m ≤ n → n < m + length rs → tie_times n (ties final es m rs) ≡ 1
numbered_once n final es m [] h l = absurd (omega (arith, h, l))
numbered_once n final es m (r ∷ rs) h l = elim (eqb_tells m n) [
  | inl e ↦ omega (arith, bit (m == n) e.0, not_before n final es (suc m) rs (omega (arith, e.1)))
  | inr e ↦ omega (arith, no_bit (m == n) e.0, numbered_once n final es (suc m) rs (less m n h e.1) (omega (arith, l)))
]
  where
    bit : (b : Bool) → b ≡ true → ◌≡◌ {A = ℕ} (cond b 1 0) 1
    bit b e = rw e refl

    less : (m n : ℕ) → m ≤ n → (m ≡ n → ⊥) → suc m ≤ n
    less m n h ne = elim (less_or m n) [ inl l ↦ omega (arith, l) | inr l ↦ absurd (ne (omega (arith, h, l))) ]

abbrev value : Option ℕ → ℕ
value None = 0
value (Some n) = n

-- a scope of the chain whose header holds the place
record Holder (chain : List OpenScope) (d : ℕ) : Type 0 where
  scope : OpenScope
  among : Among scope chain
  held : scope.in_header ≡ true
  number : scope.number ≡ d

more_holder : (s : OpenScope) (chain : List OpenScope) (d : ℕ) → Holder chain d → Holder (s ∷ chain) d
more_holder s chain d h = record { scope = h.scope; among = inr h.among; held = h.held; number = h.number }

first_holder : (chain : List OpenScope) (d : ℕ) → first_header chain ≡ Some d → Holder chain d
first_holder [] d e = absurd (none-some d e)
first_holder (s ∷ ss) d e = by s.in_header refl e (first_holder ss d)
  where
    by : (b : Bool) → s.in_header ≡ b → cond b (Some s.number) (first_header ss) ≡ Some d → (first_header ss ≡ Some d → Holder ss d) → Holder (s ∷ ss) d
    by true held e more = record { scope = s; among = inl refl; held = held; number = ap value e }
    by false held e more = more_holder s ss d (more e)

header_holder : (c : ℕ) (chain : List OpenScope) (d : ℕ) → header_from c chain ≡ Some d → Holder chain d
header_holder c [] d e = absurd (none-some d e)
header_holder c (s ∷ ss) d e = by (s.number == c) e (header_holder c ss d)
  where
    by : (b : Bool) → cond b (first_header (s ∷ ss)) (header_from c ss) ≡ Some d → (header_from c ss ≡ Some d → Holder ss d) → Holder (s ∷ ss) d
    by true e more = first_holder (s ∷ ss) d e
    by false e more = more_holder s ss d (more e)

moment_holder : (l : Lookup) (chain : List OpenScope) (d : ℕ) → moment_by l chain ≡ Some d → Holder chain d
moment_holder (tied c s flags) chain d e = header_holder c chain d e
moment_holder (barred c) chain d e = header_holder c chain d e
moment_holder unanswered chain d e = absurd (none-some d e)

-- the events of a step end a header exactly where the step does
quiet : (m : Option ℕ) (ds new : List Declaration) → comes m (declares_all ds new) ≡ 0
quiet m ds [] = refl
quiet m ds (d ∷ more) = quiet m ds more

comes-append : (m : Option ℕ) (xs ys : List Event) → comes m (xs ++ ys) ≡ comes m xs + comes m ys
comes-append m [] ys = omega arith
comes-append m (ends_header c ∷ xs) ys = omega (arith, comes-append m xs ys)
comes-append m (declares d ∷ xs) ys = comes-append m xs ys
comes-append m (takes_over c b ∷ xs) ys = comes-append m xs ys

quiet_opening : (m : Option ℕ) (p : Place) (s : OpenScope) → comes m (taken_over p s) ≡ 0
quiet_opening m p s = by (is_catch_body p)
  where
    by : (b : Bool) → comes m (cond b (takes_over (innermost p.chain).number s.number ∷ []) []) ≡ 0
    by true = refl
    by false = refl

pub comes_as_ends : (ds : List Declaration) (c : ℕ) (steps : List Step) → comes (Some c) (flat_map (events_of ds) steps) ≡ ends c steps
comes_as_ends ds c [] = refl
comes_as_ends ds c (entering p ∷ more) =
    omega (arith, comes-append (Some c) (events_of ds (entering p)) (flat_map (events_of ds) more), quiet (Some c) ds (declared_on_entering p), comes_as_ends ds c more)
comes_as_ends ds c (opening p s ∷ more) =
    omega (
      arith,
      comes-append (Some c) (events_of ds (opening p s)) (flat_map (events_of ds) more),
      comes-append (Some c) (taken_over p s) (declares_all ds (declared_on_opening p s)),
      quiet_opening (Some c) p s,
      quiet (Some c) ds (declared_on_opening p s),
      comes_as_ends ds c more,
    )
comes_as_ends ds c (header_ending p s ∷ more) = omega (arith, comes_as_ends ds c more)
comes_as_ends ds c (closing p s ∷ more) = comes_as_ends ds c more
comes_as_ends ds c (leaving p ∷ more) = comes_as_ends ds c more

never : (es : List Event) → comes None es ≡ 0
never [] = refl
never (ends_header c ∷ es) = never' (never es)
  where
    never' : comes None es ≡ 0 → ◌≡◌ {A = ℕ} (0 + comes None es) 0
    never' h = omega (arith, h)
never (declares d ∷ es) = never es
never (takes_over c b ∷ es) = never es

-- a reference stands at a place that is entered
pub record Stands (r : Occurrence) (steps : List Step) : Type 0 where
  pub place : Place
  pub entered : IsEntered place steps
  pub chain : r.chain ≡ place.chain

more_stands : (r : Occurrence) (step : Step) (more : List Step) → ((q : Place) → IsEntered q more → IsEntered q (step ∷ more)) → Stands r more → Stands r (step ∷ more)
more_stands r step more f s = record { place = s.place; entered = f s.place s.entered; chain = s.chain }

pub reference_stands : (r : Occurrence) (steps : List Step) → Among r (references steps) → Stands r steps
reference_stands r [] h = absurd h
reference_stands r (entering p ∷ more) h = by (is kind.IdentifierReference p.node) h (reference_stands r more)
  where
    by : (b : Bool) → Among r (cons_option (cond b (Some (reference_at p)) None) (references more)) → (Among r (references more) → Stands r more) → Stands r (entering p ∷ more)
    by true (inl e) f = record { place = p; entered = inl refl; chain = sym (ap (λ x. x.chain) e) }
    by true (inr h) f = more_stands r (entering p) more (λ q at. inr at) (f h)
    by false h f = more_stands r (entering p) more (λ q at. inr at) (f h)
reference_stands r (opening p s ∷ more) h = more_stands r (opening p s) more (λ q at. at) (reference_stands r more h)
reference_stands r (header_ending p s ∷ more) h = more_stands r (header_ending p s) more (λ q at. at) (reference_stands r more h)
reference_stands r (closing p s ∷ more) h = more_stands r (closing p s) more (λ q at. at) (reference_stands r more h)
reference_stands r (leaving p ∷ more) h = more_stands r (leaving p) more (λ q at. at) (reference_stands r more h)

pub tie_reference : (final : State) (es : List Event) (m : ℕ) (rs : List Occurrence) (t : Tie) → Among t (ties final es m rs) → Among t.reference rs
tie_reference final es m [] t h = absurd h
tie_reference final es m (r ∷ rs) t (inl e) = inl (ap (λ x. x.reference) e)
tie_reference final es m (r ∷ rs) t (inr h) = inr (tie_reference final es (suc m) rs t h)

-- each tie of a program is settled once
pub once : (program : Tree) (t : Tie) → Among t.reference (references (steps program)) → IsOnce (events (steps program)) t
once program t h = by (moment t) refl
  where
    by : (m : Option ℕ) → moment t ≡ m → comes m (events (steps program)) + cond (is_last m) 1 0 ≡ 1
    by None e = omega (arith, never (events (steps program)))
    by (Some d) e =
        let stands : Stands t.reference (steps program) = reference_stands t.reference (steps program) h in
        let holder : Holder t.reference.chain d = moment_holder t.lookup t.reference.chain d e in
        omega (
          arith,
          comes_as_ends (written_declarations (steps program)) d (steps program),
          subst (λ c. ends c (steps program) ≡ 1) holder.number
              (held_ends_once program stands.place stands.entered holder.scope (subst (λ c. Among holder.scope c) stands.chain holder.among) holder.held),
        )

-- in the order of settling each reference stands exactly once
pub settled_once : (program : Tree) (final : State) (n : ℕ) → n < length (references (steps program)) → tie_times n (in_order (events (steps program)) (ties final (events (steps program)) 0 (references (steps program)))) ≡ 1
settled_once program final n h =
    let es : List Event = events (steps program) in
    let ts : List Tie = ties final es 0 (references (steps program)) in
    omega (
      arith,
      in_order_keeps n es ts (λ t at. once program t (tie_reference final es 0 (references (steps program)) t at)),
      numbered_once n final es 0 (references (steps program)) (omega arith) (omega (arith, h)),
    )
