-- What the walk tracks of references, from step to step.
use Rattle.std.proofs.Common.{◌≡◌, ℕ, zero, suc, ◌+◌, ◌<◌, ◌≤◌, List, [], ◌∷◌, ◌++◌, Option, Some, None, Bool, true, false, cond, inl, inr, refl, sym, ap, subst, ◌∙◌, length, slice_index_or, arith}
use Rattle.std.specs.Prelude.{filter}
use Rattle.std.specs.List.{cons_option}
use Rattle.std.proofs.lemmas.Bool.Decides.{eqb_tells}
use Rattle.std.proofs.lemmas.List.{length-append, append_assoc}
use Rattle.semantic_syntax.specs.declared.references.Reference.{Reference}
use Rattle.semantic_syntax.specs.Reading.{no_reference}
use Rattle.semantic_kinds.specs.declared.kind.AstType.TheVariants as kind
use Rattle.semantic_tree.specs.Views.{is}
use Rattle.semantic_model.specs.Place.{Place, OpenScope}
use Rattle.semantic_model.specs.Reference.{Occurrence, reference_at, references}
use Rattle.semantic_syntax.specs.Members.{contains}
use Rattle.semantic_model.specs.Step.{Step, entering, opening, header_ending, closing, leaving}
use Rattle.semantic_model.specs.Event.{Event, declares, takes_over, ends_header}
use Rattle.semantic_model.specs.Fold.{State}
use Rattle.semantic_model.specs.Tie.{Tie, ties, answers, until_end_of, moment, is_at}
use Rattle.semantic_syntax.specs.Lookup as look
use Rattle.semantic_syntax.specs.Outcome.{Pending}
use Rattle.semantic_model.specs.TablesOf.{entry_of, numbers}
use Rattle.walk_model.proofs.places.Nested.{Descends, linked_more, descends_more, IsNestedStep, AreNested, open_past, seen_past, seen_longer}
use Rattle.walk_model.proofs.headers.Headed.{AllMatch, AllLess, ChainLess, match_more, flagged_later, awaiting_past, flags_past, reference_matches, AreHeaded, has_header}
use Rattle.walk_model.proofs.refers.Lookups.{in_headers, header_among, not_at}
use Rattle.walk_model.proofs.refers.Settling.{open_entry, Tracks, none, is_done, is_open, AreNumbered}
use Rattle.walk_model.proofs.refers.HeaderEnds.{Waits, waits_still, descends_right}

abbrev pub tie_of : State → List Event → ℕ → Occurrence → Tie
tie_of final es n r = record { number = n; reference = r; lookup = look.lookup r.name r.way (answers final es r) }

pub ties-append : (final : State) (es : List Event) (n : ℕ) (rs qs : List Occurrence) → ties final es n (rs ++ qs) ≡ ties final es n rs ++ ties final es (n + length rs) qs
ties-append final es n [] qs = ap (λ m. ties final es m qs) (omega arith)
ties-append final es n (r ∷ rs) qs =
    let m : suc n + length rs ≡ n + length (r ∷ rs) = omega arith in
    ap (λ l. tie_of final es n r ∷ l) (ties-append final es (suc n) rs qs ∙ ap (λ k. ties final es (suc n) rs ++ ties final es k qs) m)

pub numbered : (final : State) (es : List Event) (n : ℕ) (rs : List Occurrence) → AreNumbered n (ties final es n rs)
numbered final es n [] = tt
numbered final es n (r ∷ rs) = (refl, numbered final es (suc n) rs)

pub tracks-push : (D : Tie → Type 0) (W : Tie → Pending → Type 0) (ts : List Tie) (rs : List Reference) (es : List Pending) (t : Tie) (e : Pending) → Tracks D W ts rs es → W t e → Tracks D W (ts ++ t ∷ []) (rs ++ open_entry t ∷ []) (es ++ e ∷ [])
tracks-push D W ts rs es t e none w = is_open w none
tracks-push D W ts rs es t e (is_done {t = u} {ts = ts2} {rs = rs2} {es = es2} d h) w = is_done d (tracks-push D W ts2 rs2 es2 t e h w)
tracks-push D W ts rs es t e (is_open {t = u} {e = f} {ts = ts2} {rs = rs2} {es = es2} v h) w = is_open v (tracks-push D W ts2 rs2 es2 t e h w)

pub tracks_map : (D DoneThen : Tie → Type 0) (W WaitsThen : Tie → Pending → Type 0) (ts : List Tie) (rs : List Reference) (es : List Pending) → ((t : Tie) → D t → DoneThen t) → ((t : Tie) (e : Pending) → W t e → WaitsThen t e) → Tracks D W ts rs es → Tracks DoneThen WaitsThen ts rs es
tracks_map D DoneThen W WaitsThen ts rs es f g none = none
tracks_map D DoneThen W WaitsThen ts rs es f g (is_done {t = u} {ts = ts2} {rs = rs2} {es = es2} d h) = is_done (f u d) (tracks_map D DoneThen W WaitsThen ts2 rs2 es2 f g h)
tracks_map D DoneThen W WaitsThen ts rs es f g (is_open {t = u} {e = x} {ts = ts2} {rs = rs2} {es = es2} v h) = is_open (g u x v) (tracks_map D DoneThen W WaitsThen ts2 rs2 es2 f g h)

pub tracks_length : (D : Tie → Type 0) (W : Tie → Pending → Type 0) (ts : List Tie) (rs : List Reference) (es : List Pending) → Tracks D W ts rs es → length rs ≡ length ts
tracks_length D W ts rs es none = refl
tracks_length D W ts rs es (is_done {t = u} {ts = ts2} {rs = rs2} {es = es2} d h) = omega (arith, tracks_length D W ts2 rs2 es2 h)
tracks_length D W ts rs es (is_open {t = u} {e = x} {ts = ts2} {rs = rs2} {es = es2} v h) = omega (arith, tracks_length D W ts2 rs2 es2 h)

pub ties_length : (final : State) (es : List Event) (n : ℕ) (rs : List Occurrence) → length (ties final es n rs) ≡ length rs
ties_length final es n [] = refl
ties_length final es n (r ∷ rs) = omega (arith, ties_length final es (suc n) rs)

-- a reference that waits still has its way
way_middle : (xs : List Reference) (x : Reference) (ys : List Reference) (n : ℕ) → length xs ≡ n → (slice_index_or (xs ++ x ∷ ys) n no_reference).flags.bits ≡ x.flags.bits
way_middle [] x ys zero e = refl
way_middle [] x ys (suc n) e = absurd (omega arith)
way_middle (z ∷ xs) x ys zero e = absurd (omega arith)
way_middle (z ∷ xs) x ys (suc n) e = way_middle xs x ys n (omega arith)

pub with_ways : (D : Tie → Type 0) (W : Tie → Pending → Type 0) (all : List Reference) (ts : List Tie) (rs : List Reference) (es : List Pending) (n : ℕ) (before : List Reference) → Tracks D W ts rs es → AreNumbered n ts → length before ≡ n → all ≡ before ++ rs
    → Tracks D (λ t e. W t e × ((slice_index_or all t.number no_reference).flags.bits ≡ t.reference.way)) ts rs es
with_ways D W all ts rs es n before none k l e = none
with_ways D W all ts rs es n before (is_done {t = u} {ts = ts2} {rs = rs2} {es = es2} d h) k l e =
    is_done d (with_ways D W all ts2 rs2 es2 (suc n) (before ++ entry_of u ∷ []) h k.1 (omega (arith, length-append before (entry_of u ∷ []), l)) (e ∙ sym (append_assoc before (entry_of u ∷ []) rs2)))
with_ways D W all ts rs es n before (is_open {t = u} {e = x} {ts = ts2} {rs = rs2} {es = es2} v h) k l e =
    is_open (v, ap (λ m. (slice_index_or all m no_reference).flags.bits) k.0 ∙ ap (λ (xs : List Reference). (slice_index_or xs n no_reference).flags.bits) e ∙ way_middle before (open_entry u) rs2 n l)
    (with_ways D W all ts2 rs2 es2 (suc n) (before ++ open_entry u ∷ []) h k.1 (omega (arith, length-append before (open_entry u ∷ []), l)) (e ∙ sym (append_assoc before (open_entry u ∷ []) rs2)))

-- settled at a header that has ended
pub record IsDone (awaiting : List ℕ) (n : ℕ) (t : Tie) : Type 0 where
  pub header : ℕ
  pub is : moment t ≡ Some header
  pub ended : contains awaiting header ≡ false
  pub older : header < n

pub done_more : (awaiting : List ℕ) (n m : ℕ) (t : Tie) → n ≤ m → IsDone awaiting n t → IsDone awaiting m t
done_more awaiting n m t l h = record { header = h.header; is = h.is; ended = h.ended; older = omega (arith, h.older, l) }

pub done_opening : (b : Bool) (awaiting : List ℕ) (n m c : ℕ) (t : Tie) → n ≤ c → n ≤ m → IsDone awaiting n t → IsDone (cond b (c ∷ awaiting) awaiting) m t
done_opening true awaiting n m c t k l h = record {
  header = h.header;
  is = h.is;
  ended = elim (eqb_tells c h.header) [ inl q ↦ absurd (omega (arith, q.1, h.older, k)) | inr q ↦ rw q.0 h.ended ];
  older = omega (arith, h.older, l);
}
done_opening false awaiting n m c t k l h = done_more awaiting n m t l h

pub done_ending : (c : ℕ) (awaiting : List ℕ) (n : ℕ) (t : Tie) → IsDone (c ∷ awaiting) n t → IsDone awaiting n t
done_ending c awaiting n t h = record { header = h.header; is = h.is; ended = elim (eqb_tells c h.header) [ inl q ↦ (let w : true ≡ false = rw q.0 at h.ended in absurd cc) | inr q ↦ rw q.0 at h.ended ]; older = h.older }

pub done_not : (c : ℕ) (awaiting : List ℕ) (n : ℕ) (t : Tie) → IsDone (c ∷ awaiting) n t → is_at c (moment t) ≡ false
done_not c awaiting n t h = ap (is_at c) h.is ∙ (elim (eqb_tells c h.header) [ inl q ↦ (let w : true ≡ false = rw q.0 at h.ended in absurd cc) | inr q ↦ q.0 ])

pub at_is : (c : ℕ) (o : Option ℕ) → is_at c o ≡ true → o ≡ Some c
at_is c None h = absurd cc
at_is c (Some d) h = elim (eqb_tells c d) [ inl q ↦ ap Some (sym q.1) | inr q ↦ (let w : false ≡ true = sym q.0 ∙ h in absurd cc) ]

-- a reference waits on as scopes open
chain_less : (n : ℕ) (ss : List OpenScope) → Descends n ss → ChainLess ss n
chain_less n [] h = tt
chain_less n (s ∷ ss) h = (h.0, chain_less n ss (descends_more s.number n ss (omega (arith, h.0)) h.1))

pub waits_opening : (awaiting : List ℕ) (seen : List (List ℕ)) (fs : List ℕ) (final : State) (es : List Event) (p : Place) (s : OpenScope) (t : Tie) (e : Pending) → s.number ≡ length seen → Waits awaiting seen fs final es t e
    → Waits (awaiting_past awaiting (opening p s)) (seen_past seen (opening p s)) (flags_past fs (opening p s)) final es t e
waits_opening awaiting seen fs final es p s t e n h =
    waits_still awaiting (awaiting_past awaiting (opening p s)) seen (seen_past seen (opening p s)) fs (flags_past fs (opening p s)) final es t e h (by (has_header p))
    (linked_more seen (seen ++ numbers p.chain ∷ []) (h.next ∷ h.rest) (record { added = numbers p.chain ∷ []; is = refl }) h.linked)
    (flagged_later fs (opening p s ∷ []) (h.next ∷ h.rest) h.flagged)
    (descends_more (length seen) (length (seen ++ numbers p.chain ∷ [])) t.reference.chain (omega (arith, length-append seen (numbers p.chain ∷ []))) h.descends)
  where
    less : ChainLess (h.next ∷ h.rest) s.number
    less = subst (ChainLess (h.next ∷ h.rest)) (sym n) (chain_less (length seen) (h.next ∷ h.rest) (descends_right (length seen) h.asked (h.next ∷ h.rest) (subst (Descends (length seen)) h.chain_is h.descends)))

    by : (b : Bool) → AllMatch (cond b (s.number ∷ awaiting) awaiting) (h.next ∷ h.rest)
    by true = match_more s.number awaiting (h.next ∷ h.rest) less h.matches
    by false = h.matches

-- awaited headers are listed innermost first
abbrev pub OldFirst : List ℕ → Type 0
OldFirst [] = Unit {0}
OldFirst (c ∷ cs) = AllLess cs c × OldFirst cs

-- no header of the list has ended in the events
abbrev pub AllEnds : List ℕ → ℕ → List Event → Type 0
AllEnds awaiting n [] = Unit {0}
AllEnds awaiting n (ends_header d ∷ es) = (d < n) × (contains awaiting d ≡ false) × AllEnds awaiting n es
AllEnds awaiting n (declares d ∷ es) = AllEnds awaiting n es
AllEnds awaiting n (takes_over c b ∷ es) = AllEnds awaiting n es

pub ends-append : (awaiting : List ℕ) (n : ℕ) (es fs : List Event) → AllEnds awaiting n es → AllEnds awaiting n fs → AllEnds awaiting n (es ++ fs)
ends-append awaiting n [] fs h k = k
ends-append awaiting n (ends_header d ∷ es) fs h k = (h.0, h.1, ends-append awaiting n es fs h.2 k)
ends-append awaiting n (declares d ∷ es) fs h k = ends-append awaiting n es fs h k
ends-append awaiting n (takes_over c b ∷ es) fs h k = ends-append awaiting n es fs h k

pub ends_more : (awaiting : List ℕ) (n m : ℕ) (es : List Event) → n ≤ m → AllEnds awaiting n es → AllEnds awaiting m es
ends_more awaiting n m [] l h = tt
ends_more awaiting n m (ends_header d ∷ es) l h = (omega (arith, h.0, l), h.1, ends_more awaiting n m es l h.2)
ends_more awaiting n m (declares d ∷ es) l h = ends_more awaiting n m es l h
ends_more awaiting n m (takes_over c b ∷ es) l h = ends_more awaiting n m es l h

pub ends_opening : (awaiting : List ℕ) (n c : ℕ) (es : List Event) → n ≤ c → AllEnds awaiting n es → AllEnds (c ∷ awaiting) n es
ends_opening awaiting n c [] l h = tt
ends_opening awaiting n c (ends_header d ∷ es) l h =
    (h.0, elim (eqb_tells c d) [ inl q ↦ absurd (omega (arith, q.1, h.0, l)) | inr q ↦ rw q.0 h.1 ], ends_opening awaiting n c es l h.2)
ends_opening awaiting n c (declares d ∷ es) l h = ends_opening awaiting n c es l h
ends_opening awaiting n c (takes_over a b ∷ es) l h = ends_opening awaiting n c es l h

pub ends_ending : (awaiting : List ℕ) (n c : ℕ) (es : List Event) → AllEnds (c ∷ awaiting) n es → AllEnds awaiting n es
ends_ending awaiting n c [] h = tt
ends_ending awaiting n c (ends_header d ∷ es) h = (h.0, elim (eqb_tells c d) [ inl q ↦ (let w : true ≡ false = rw q.0 at h.1 in absurd cc) | inr q ↦ rw q.0 at h.1 ], ends_ending awaiting n c es h.2)
ends_ending awaiting n c (declares d ∷ es) h = ends_ending awaiting n c es h
ends_ending awaiting n c (takes_over a b ∷ es) h = ends_ending awaiting n c es h

-- the events before the end of a header that is awaited
pub until_is : (awaiting : List ℕ) (n c : ℕ) (es later : List Event) → AllEnds (c ∷ awaiting) n es → until_end_of c (es ++ ends_header c ∷ later) ≡ es
until_is awaiting n c [] later h = elim (eqb_tells c c) [ inl q ↦ rw q.0 refl | inr q ↦ absurd (q.1 refl) ]
until_is awaiting n c (ends_header d ∷ es) later h = elim (eqb_tells c d) [
  | inl q ↦ (let w : true ≡ false = rw q.0 at h.1 in absurd cc)
  | inr q ↦ elim (eqb_tells d c) [
    | inl r ↦ absurd (q.1 (sym r.1))
    | inr r ↦ rw r.0 (ap (λ l. ends_header d ∷ l) (until_is awaiting n c es later h.2))
  ]
]
until_is awaiting n c (declares d ∷ es) later h = ap (λ l. declares d ∷ l) (until_is awaiting n c es later h)
until_is awaiting n c (takes_over a b ∷ es) later h = ap (λ l. takes_over a b ∷ l) (until_is awaiting n c es later h)

-- later references aren't settled at the end of a header that has ended
headers_none : (aw : List ℕ) (c : ℕ) (chain : List OpenScope) → contains aw c ≡ false → AllMatch aw chain → contains (in_headers chain) c ≡ false
headers_none aw c [] n h = refl
headers_none aw c (s ∷ ss) n h = by s.in_header refl (headers_none aw c ss n h.1)
  where
    by : (b : Bool) → s.in_header ≡ b → contains (in_headers ss) c ≡ false → contains (cond b (s.number ∷ in_headers ss) (in_headers ss)) c ≡ false
    by true e rest = elim (eqb_tells s.number c) [
      | inl q ↦ (let w : true ≡ false = sym e ∙ h.0 ∙ ap (contains aw) q.1 ∙ n in absurd cc)
      | inr q ↦ rw q.0 rest
    ]
    by false e rest = rest

not_later : (final : State) (es : List Event) (aw : List ℕ) (c k : ℕ) (r : Occurrence) → contains aw c ≡ false → AllMatch aw r.chain → is_at c (moment (tie_of final es k r)) ≡ false
not_later final es aw c k r n h = not_at c (tie_of final es k r).lookup r.chain (λ d a q.
    let there : contains (in_headers r.chain) c ≡ true = header_among d r.chain c q in
    let w : true ≡ false = sym there ∙ headers_none aw c r.chain n h in absurd cc)

still_ended : (aw : List ℕ) (step : Step) (c n : ℕ) → ((p : Place) (s : OpenScope) → step ≡ opening p s → c < s.number) → contains aw c ≡ false → contains (awaiting_past aw step) c ≡ false
still_ended aw (opening p s) c n l h = by (has_header p)
  where
    by : (b : Bool) → contains (cond b (s.number ∷ aw) aw) c ≡ false
    by true = elim (eqb_tells s.number c) [ inl q ↦ (let m : c < s.number = l p s refl in absurd (omega (arith, q.1, m))) | inr q ↦ rw q.0 h ]
    by false = h
still_ended [] (header_ending p s) c n l h = h
still_ended (a ∷ aw) (header_ending p s) c n l h = elim (eqb_tells a c) [ inl q ↦ (let w : true ≡ false = rw q.0 at h in absurd cc) | inr q ↦ rw q.0 at h ]
still_ended [] (entering p) c n l h = h
still_ended (a ∷ aw) (entering p) c n l h = h
still_ended [] (closing p s) c n l h = h
still_ended (a ∷ aw) (closing p s) c n l h = h
still_ended [] (leaving p) c n l h = h
still_ended (a ∷ aw) (leaving p) c n l h = h

opening_later : (stack : List ℕ) (seen : List (List ℕ)) (c : ℕ) (step : Step) → c < length seen → IsNestedStep stack seen step → (p : Place) (s : OpenScope) → step ≡ opening p s → c < s.number
opening_later stack seen c step l k p s e =
    let q : IsNestedStep stack seen (opening p s) = subst (IsNestedStep stack seen) e k in
    let n : s.number ≡ length seen = ap (λ (o : OpenScope). o.number) q.1 in omega arith

pub none_later : (final : State) (es : List Event) (c k : ℕ) (stack : List ℕ) (seen : List (List ℕ)) (aw fs : List ℕ) (ss : List Step) → AreNested stack seen ss → AreHeaded aw fs ss → c < length seen → contains aw c ≡ false
    → filter (λ t. is_at c (moment t)) (ties final es k (references ss)) ≡ []
none_later final es c k stack seen aw fs [] n h l o = refl
none_later final es c k stack seen aw fs (entering p ∷ ss) n h l o =
    by (is kind.IdentifierReference p.node) refl
    (λ j. none_later final es c j (open_past stack (entering p)) seen (awaiting_past aw (entering p)) fs ss n.1 h.1 l (still_ended aw (entering p) c 0 (opening_later stack seen c (entering p) l n.0) o))
  where
    by : (b : Bool) → is kind.IdentifierReference p.node ≡ b → ((j : ℕ) → filter (λ t. is_at c (moment t)) (ties final es j (references ss)) ≡ [])
        → filter (λ t. is_at c (moment t)) (ties final es k (cons_option (cond b (Some (reference_at p)) None) (references ss))) ≡ []
    by true e rest = rw (not_later final es aw c k (reference_at p) o (reference_matches aw fs p h.0 e)) (rest (suc k))
    by false e rest = rest k
none_later final es c k stack seen aw fs (opening p s ∷ ss) n h l o =
    none_later final es c k (open_past stack (opening p s)) (seen_past seen (opening p s)) (awaiting_past aw (opening p s)) (flags_past fs (opening p s)) ss n.1 h.1 (omega (arith, l, seen_longer seen (opening p s))) (still_ended aw (opening p s) c 0 (opening_later stack seen c (opening p s) l n.0) o)
none_later final es c k stack seen aw fs (header_ending p s ∷ ss) n h l o =
    none_later final es c k (open_past stack (header_ending p s)) seen (awaiting_past aw (header_ending p s)) fs ss n.1 h.1 l (still_ended aw (header_ending p s) c 0 (opening_later stack seen c (header_ending p s) l n.0) o)
none_later final es c k stack seen aw fs (closing p s ∷ ss) n h l o =
    none_later final es c k (open_past stack (closing p s)) seen (awaiting_past aw (closing p s)) fs ss n.1 h.1 l (still_ended aw (closing p s) c 0 (opening_later stack seen c (closing p s) l n.0) o)
none_later final es c k stack seen aw fs (leaving p ∷ ss) n h l o =
    none_later final es c k (open_past stack (leaving p)) seen (awaiting_past aw (leaving p)) fs ss n.1 h.1 l (still_ended aw (leaving p) c 0 (opening_later stack seen c (leaving p) l n.0) o)
