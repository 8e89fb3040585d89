-- What becomes of a reference at the end of a header is what its tie tells.
use Rattle.std.proofs.Common.{◌≡◌, ℕ, ◌<◌, ◌≤◌, List, [], ◌∷◌, ◌++◌, Option, Some, None, Bool, true, false, cond, inl, inr, refl, sym, ap, subst, ◌∙◌, map, length, arith}
use Rattle.std.proofs.lemmas.Bool.Decides.{eqb_tells}
use Rattle.std.proofs.lemmas.List.{append_assoc, map-append}
use Rattle.semantic_syntax.specs.Usable.{settled}
use Rattle.semantic_syntax.specs.Tables.{Name, Scope}
use Rattle.semantic_syntax.specs.Told.{source_of}
use Rattle.semantic_model.specs.Place.{OpenScope}
use Rattle.semantic_model.specs.Binding.{get}
use Rattle.semantic_syntax.specs.Members.{contains}
use Rattle.semantic_model.specs.Event.{Event}
use Rattle.semantic_model.specs.Fold.{State, flags_of}
use Rattle.semantic_syntax.specs.Lookup.{Seen, Asked, Lookup, tied, barred, unanswered, lookup}
use Rattle.semantic_model.specs.Tie.{Tie, seen_as, answer, symbol_by, final_flags, header_from, moment, is_at}
use Rattle.semantic_syntax.specs.Outcome.{Pending, Outcome, answer as source_answer, outcome_or}
use Rattle.semantic_model.proofs.lists.Bounds.{IsSound, get_below}
use Rattle.semantic_model.proofs.once.UseLists.{IsBelow}
use Rattle.semantic_model.proofs.lists.Members.{contains_first}
use Rattle.walk_model.specs.WalkState.{WalkState}
use Rattle.semantic_model.specs.TablesOf.{numbers}
use Rattle.semantic_model.proofs.fits.Outwards.{flags_at}
use Rattle.walk_model.proofs.shows.Represents.{Shows}
use Rattle.walk_model.proofs.places.Nested.{AreLinked, Descends, descends_more}
use Rattle.walk_model.proofs.opens.OpenedScopes.{ShowsScopes}
use Rattle.walk_model.proofs.headers.Headed.{AllMatch, AreFlagged, AllLess, not_among}
use Rattle.walk_model.proofs.refers.Lookups.{answered_in, lookup_first, lookup_through, answered_among, IsSeenBy, first_sees, later_sees, tied_is_seen, in_headers, header_among, header_skip, NoneInHeader, header_at, moment_answered, not_at}
use Rattle.walk_model.proofs.refers.Settling.{IsRight, ties, frees}
use Rattle.walk_model.proofs.headers.Frozen.{Frozen}
use Rattle.walk_model.proofs.refers.Sources.{answer_bound, AllViewed, viewed_frozen}

-- the walk's tables at some step
pub record At (w : WalkState) (st : State) (stack : List ℕ) (seen calls : List (List ℕ)) (bare : List Scope) (fs : List ℕ) : Type 0 where
  pub shows : Shows (length seen) w st
  pub scopes : ShowsScopes stack seen calls bare w
  pub flags : map (λ e. e.flags.bits) bare ≡ fs
  pub sound : IsSound st

abbrev pub answers_of : State → List Event → Tie → List OpenScope → List Asked
answers_of final es t ss = map (answer final es t.reference.name) ss

abbrev pub looked_up : State → List Event → Tie → List OpenScope → Lookup
looked_up final es t ss = lookup t.reference.name t.reference.way (answers_of final es t ss)

-- a reference waits: no scope so far has answered
pub record Waits (awaiting : List ℕ) (seen : List (List ℕ)) (fs : List ℕ) (final : State) (es : List Event) (t : Tie) (e : Pending) : Type 0 where
  pub asked : List OpenScope
  pub next : OpenScope
  pub rest : List OpenScope
  pub chain_is : t.reference.chain ≡ asked ++ next ∷ rest
  pub through : answered_in (looked_up final es t asked) ≡ None
  pub is_tie : t.lookup ≡ looked_up final es t t.reference.chain
  pub name : e.name ≡ t.reference.name
  pub number : e.reference ≡ t.number
  pub scope : e.lookup_scope ≡ next.number
  pub matches : AllMatch awaiting (next ∷ rest)
  pub linked : AreLinked seen (next ∷ rest)
  pub flagged : AreFlagged fs (next ∷ rest)
  pub descends : Descends (length seen) t.reference.chain

-- it waits still, among other headers and scopes
pub waits_still : (aw aw2 : List ℕ) (seen seen2 : List (List ℕ)) (fs fs2 : List ℕ) (final : State) (es : List Event) (t : Tie) (e : Pending) (h : Waits aw seen fs final es t e)
    → AllMatch aw2 (h.next ∷ h.rest) → AreLinked seen2 (h.next ∷ h.rest) → AreFlagged fs2 (h.next ∷ h.rest) → Descends (length seen2) t.reference.chain → Waits aw2 seen2 fs2 final es t e
waits_still aw aw2 seen seen2 fs fs2 final es t e h matches linked flagged descends = record {
  asked = h.asked;
  next = h.next;
  rest = h.rest;
  chain_is = h.chain_is;
  through = h.through;
  is_tie = h.is_tie;
  name = h.name;
  number = h.number;
  scope = h.scope;
  matches = matches;
  linked = linked;
  flagged = flagged;
  descends = descends;
}

pub descends_right : (n : ℕ) (xs ys : List OpenScope) → Descends n (xs ++ ys) → Descends n ys
descends_right n [] ys h = h
descends_right n (x ∷ xs) ys h = descends_right n xs ys (descends_more x.number n (xs ++ ys) (omega (arith, h.0)) h.1)

pub among_less : (n : ℕ) (ys : List OpenScope) (d : ℕ) → Descends n ys → contains (numbers ys) d ≡ true → d < n
among_less n [] d h k = absurd cc
among_less n (y ∷ ys) d h k = elim (eqb_tells y.number d) [
  | inl q ↦ subst (λ m. m < n) q.1 h.0
  | inr q ↦ omega (arith, among_less y.number ys d h.1 (rw q.0 at k), h.0)
]

pub apart : (n : ℕ) (xs ys : List OpenScope) (d : ℕ) → Descends n (xs ++ ys) → contains (numbers ys) d ≡ true → contains (numbers xs) d ≡ false
apart n [] ys d h k = refl
apart n (x ∷ xs) ys d h k =
    let less : d < x.number = among_less x.number ys d (descends_right x.number xs ys h.1) k in
    elim (eqb_tells x.number d) [
      | inl q ↦ absurd (omega (arith, q.1, less))
      | inr q ↦ rw q.0 (apart x.number xs ys d h.1 k)
    ]

pub scopes_of : (final : State) (es : List Event) (t : Tie) (ss : List OpenScope) → map (λ a. a.scope) (answers_of final es t ss) ≡ numbers ss
scopes_of final es t [] = refl
scopes_of final es t (s ∷ ss) = ap (λ l. s.number ∷ l) (scopes_of final es t ss)

header_numbers : (ss : List OpenScope) (c : ℕ) → contains (in_headers ss) c ≡ true → contains (numbers ss) c ≡ true
header_numbers [] c h = absurd cc
header_numbers (s ∷ ss) c h = by s.in_header (header_numbers ss c) h
  where
    by : (b : Bool) → (contains (in_headers ss) c ≡ true → contains (numbers ss) c ≡ true) → contains (cond b (s.number ∷ in_headers ss) (in_headers ss)) c ≡ true → contains (s.number ∷ numbers ss) c ≡ true
    by true rest q = elim (eqb_tells s.number c) [ inl e ↦ rw e.0 refl | inr e ↦ rw e.0 (rest (rw e.0 at q)) ]
    by false rest q = elim (eqb_tells s.number c) [ inl e ↦ rw e.0 refl | inr e ↦ rw e.0 (rest q) ]

-- a tie looks up past what was asked
pub past_asked : (final : State) (es : List Event) (t : Tie) (xs ys : List OpenScope) → t.reference.chain ≡ xs ++ ys → answered_in (looked_up final es t xs) ≡ None → t.lookup ≡ looked_up final es t t.reference.chain → t.lookup ≡ looked_up final es t ys
past_asked final es t xs ys e h i =
    i ∙ ap (looked_up final es t) e ∙ ap (lookup t.reference.name t.reference.way) (map-append (answer final es t.reference.name) xs ys)
    ∙ lookup_through t.reference.name t.reference.way (answers_of final es t xs) (answers_of final es t ys) h

-- it isn't settled at the end of a header that holds none of the scopes left
pub not_now : (final : State) (es : List Event) (t : Tie) (n c : ℕ) (xs ys : List OpenScope) → t.reference.chain ≡ xs ++ ys → answered_in (looked_up final es t xs) ≡ None → t.lookup ≡ looked_up final es t t.reference.chain → Descends n t.reference.chain → contains (numbers ys) c ≡ false
    → is_at c (moment t) ≡ false
not_now final es t n c xs ys e h i k none = not_at c t.lookup t.reference.chain (λ d a q.
    let from_left : answered_in (looked_up final es t ys) ≡ Some d = subst (λ l. answered_in l ≡ Some d) (past_asked final es t xs ys e h i) a in
    let there : contains (numbers ys) d ≡ true = subst (λ l. contains l d ≡ true) (scopes_of final es t ys) (answered_among t.reference.name t.reference.way (answers_of final es t ys) d from_left) in
    let out : contains (numbers xs) d ≡ false = apart n xs ys d (subst (Descends n) e k) there in
    let from : header_from d ys ≡ Some c = sym (header_skip d xs ys out) ∙ ap (header_from d) (sym e) ∙ q in
    let w : true ≡ false = sym (header_numbers ys c (header_among d ys c from)) ∙ none in absurd cc)

pub split_answers : (final : State) (es : List Event) (t : Tie) (seg : List OpenScope) (h : OpenScope) (tail : List OpenScope) → answers_of final es t (seg ++ h ∷ tail) ≡ answers_of final es t (seg ++ h ∷ []) ++ answers_of final es t tail
split_answers final es t seg h tail = ap (answers_of final es t) (sym (append_assoc seg (h ∷ []) tail)) ∙ map-append (answer final es t.reference.name) (seg ++ h ∷ []) tail

-- an answer within the header
pub answered_now : (final : State) (es : List Event) (t : Tie) (n d : ℕ) (xs seg : List OpenScope) (h : OpenScope) (tail : List OpenScope) → t.reference.chain ≡ xs ++ (seg ++ h ∷ tail) → answered_in (looked_up final es t xs) ≡ None → t.lookup ≡ looked_up final es t t.reference.chain → Descends n t.reference.chain
    → NoneInHeader seg → h.in_header ≡ true → answered_in (looked_up final es t (seg ++ h ∷ [])) ≡ Some d → (t.lookup ≡ looked_up final es t (seg ++ h ∷ [])) × (moment t ≡ Some h.number)
answered_now final es t n d xs seg h tail e f i k none inside a =
    let whole : t.lookup ≡ looked_up final es t (seg ++ h ∷ []) =
    past_asked final es t xs (seg ++ h ∷ tail) e f i ∙ ap (lookup t.reference.name t.reference.way) (split_answers final es t seg h tail)
    ∙ lookup_first t.reference.name t.reference.way (answers_of final es t (seg ++ h ∷ [])) (answers_of final es t tail) d a in
    let there : contains (numbers (seg ++ h ∷ [])) d ≡ true = subst (λ l. contains l d ≡ true) (scopes_of final es t (seg ++ h ∷ [])) (answered_among t.reference.name t.reference.way (answers_of final es t (seg ++ h ∷ [])) d a) in
    let out : contains (numbers xs) d ≡ false = apart n xs (seg ++ h ∷ tail) d (subst (Descends n) e k) (more_there seg h tail d there) in
    (whole, moment_answered t.lookup t.reference.chain d (ap answered_in whole ∙ a) ∙ ap (header_from d) e ∙ header_skip d xs (seg ++ h ∷ tail) out ∙ header_at d seg h tail none inside there)
  where
    more_there : (seg : List OpenScope) (h : OpenScope) (tail : List OpenScope) (d : ℕ) → contains (numbers (seg ++ h ∷ [])) d ≡ true → contains (numbers (seg ++ h ∷ tail)) d ≡ true
    more_there [] h tail d q = elim (eqb_tells h.number d) [ inl r ↦ rw r.0 refl | inr r ↦ (let w : false ≡ true = rw r.0 at q in absurd cc) ]
    more_there (s ∷ ss) h tail d q = elim (eqb_tells s.number d) [ inl r ↦ rw r.0 refl | inr r ↦ rw r.0 (more_there ss h tail d (rw r.0 at q)) ]

-- no answer within the header
pub through_more : (final : State) (es : List Event) (t : Tie) (xs ys : List OpenScope) → answered_in (looked_up final es t xs) ≡ None → answered_in (looked_up final es t ys) ≡ None → answered_in (looked_up final es t (xs ++ ys)) ≡ None
through_more final es t xs ys h k =
    ap (λ l. answered_in (lookup t.reference.name t.reference.way l)) (map-append (answer final es t.reference.name) xs ys)
    ∙ ap answered_in (lookup_through t.reference.name t.reference.way (answers_of final es t xs) (answers_of final es t ys) h) ∙ k

-- what is seen in the tables is bound, with the flags of its symbol
pub seen_in : (w : WalkState) (st : State) (n : ℕ) (x : Name) (y f : ℕ) (ss : List OpenScope) → Shows n w st → IsSound st → IsSeenBy y f (map (source_answer (source_of w.tables) x) (numbers ss)) → (f ≡ flags_of st y) × (y < length st.symbols)
seen_in w st n x y f [] h b i = elim i [ ]
seen_in w st n x y f (s ∷ ss) h b (later_sees i) = seen_in w st n x y f ss h b i
seen_in w st n x y f (s ∷ ss) h b (first_sees e) = by (get st.bindings s.number x) refl (sym (answer_bound n w st s.number x h) ∙ e)
  where
    by : (o : Option ℕ) → get st.bindings s.number x ≡ o → seen_as st o ≡ Some (record { symbol = y; flags = f }) → (f ≡ flags_of st y) × (y < length st.symbols)
    by None q r = absurd cc
    by (Some z) q r =
        let i : z ≡ y = ap symbol_or r in
        let j : flags_of st z ≡ f = ap flags_or r in
        (sym j ∙ ap (flags_of st) i, subst (λ m. m < length st.symbols) i (subst (IsBelow (length st.symbols)) q (get_below (length st.symbols) st.bindings s.number x b.bindings)))
      where
        symbol_or : Option Seen → ℕ
        symbol_or None = 0
        symbol_or (Some u) = u.symbol

        flags_or : Option Seen → ℕ
        flags_or None = 0
        flags_or (Some u) = u.flags

-- an outcome by the lookup that gave it
pub right_by : (W : Tie → Pending → Type 0) (now : Tie → Bool) (w : WalkState) (st : State) (n : ℕ) (t : Tie) (e : Pending) (ss : List OpenScope) (other : Outcome) (l : Lookup)
    → Shows n w st → IsSound st → lookup t.reference.name t.reference.way (map (source_answer (source_of w.tables) t.reference.name) (numbers ss)) ≡ l
    → ((d : ℕ) → answered_in l ≡ Some d → (t.lookup ≡ l) × (now t ≡ true)) → (answered_in l ≡ None → IsRight W st.symbols now t e other)
    → IsRight W st.symbols now t e (outcome_or other l)
right_by W now w st n t e ss other (tied d y f) h b i answered rest =
    let q : (t.lookup ≡ tied d y f) × (now t ≡ true) = answered d refl in
    let s : (f ≡ flags_of st y) × (y < length st.symbols) = seen_in w st n t.reference.name y f ss h b (tied_is_seen t.reference.name t.reference.way (map (source_answer (source_of w.tables) t.reference.name) (numbers ss)) d y f i) in
    ties y q.1 (ap symbol_by q.0) s.1 (flags_tied q.0 ∙ ap (settled t.reference.way) (s.0 ∙ sym (flags_at st.symbols y)))
  where
    flags_tied : t.lookup ≡ tied d y f → final_flags t ≡ settled t.reference.way f
    flags_tied r = rw r refl
right_by W now w st n t e ss other (barred d) h b i answered rest =
    let q : (t.lookup ≡ barred d) × (now t ≡ true) = answered d refl in
    frees q.1 (ap symbol_by q.0) (flags_barred q.0)
  where
    flags_barred : t.lookup ≡ barred d → final_flags t ≡ t.reference.way
    flags_barred r = rw r refl
right_by W now w st n t e ss other unanswered h b i answered rest = rest refl

-- where the header's scope stands in what is left
pub record Parts (c : ℕ) (ss : List OpenScope) : Type 0 where
  pub seg : List OpenScope
  pub own : OpenScope
  pub tail : List OpenScope
  pub is : ss ≡ seg ++ own ∷ tail
  pub number : own.number ≡ c
  pub apart : contains (numbers seg) c ≡ false

pub parted : (c : ℕ) (ss : List OpenScope) → contains (numbers ss) c ≡ true → Parts c ss
parted c [] h = absurd cc
parted c (s ∷ ss) h = elim (eqb_tells s.number c) [
  | inl q ↦ record { seg = []; own = s; tail = ss; is = refl; number = q.1; apart = refl }
  | inr q ↦ (let p : Parts c ss = parted c ss (rw q.0 at h) in record { seg = s ∷ p.seg; own = p.own; tail = p.tail; is = ap (λ l. s ∷ l) p.is; number = p.number; apart = rw q.0 p.apart })
]

-- parts of what is known of scopes
pub match_right : (aw : List ℕ) (xs ys : List OpenScope) → AllMatch aw (xs ++ ys) → AllMatch aw ys
match_right aw [] ys h = h
match_right aw (x ∷ xs) ys h = match_right aw xs ys h.1

pub linked_right : (seen : List (List ℕ)) (xs ys : List OpenScope) → AreLinked seen (xs ++ ys) → AreLinked seen ys
linked_right seen [] ys h = h
linked_right seen (x ∷ xs) ys h = linked_right seen xs ys h.1

pub flagged_right : (fs : List ℕ) (xs ys : List OpenScope) → AreFlagged fs (xs ++ ys) → AreFlagged fs ys
flagged_right fs [] ys h = h
flagged_right fs (x ∷ xs) ys h = flagged_right fs xs ys h.1

pub flagged_prefix : (fs : List ℕ) (seg : List OpenScope) (h : OpenScope) (tail : List OpenScope) → AreFlagged fs (seg ++ h ∷ tail) → AreFlagged fs (seg ++ h ∷ [])
flagged_prefix fs [] h tail f = (f.0, tt)
flagged_prefix fs (s ∷ ss) h tail f = (f.0, flagged_prefix fs ss h tail f.1)

-- past the header nothing is of its number
pub match_past : (c : ℕ) (aw : List ℕ) (ss : List OpenScope) → contains (numbers ss) c ≡ false → AllMatch (c ∷ aw) ss → AllMatch aw ss
match_past c aw [] n h = tt
match_past c aw (s ∷ ss) n h = elim (eqb_tells s.number c) [
  | inl q ↦ (let w : true ≡ false = rw q.0 at n in absurd cc)
  | inr q ↦ (h.0 ∙ other q.1, match_past c aw ss (rw q.0 at n) h.1)
]
  where
    other : (s.number ≡ c → ⊥) → contains (c ∷ aw) s.number ≡ contains aw s.number
    other n = elim (eqb_tells c s.number) [ inl q ↦ absurd (n (sym q.1)) | inr q ↦ rw q.0 refl ]

-- the scopes inside the header's own are closed, and stay as they are
pub seg_none : (c m : ℕ) (aw : List ℕ) (seg : List OpenScope) (own : OpenScope) (tail : List OpenScope) → own.number ≡ c → AllLess aw c → Descends m (seg ++ own ∷ tail) → AllMatch (c ∷ aw) (seg ++ own ∷ tail) → NoneInHeader seg
seg_none c m aw [] own tail e l d h = tt
seg_none c m aw (s ∷ ss) own tail e l d h =
    let less : own.number < s.number = among_less s.number (ss ++ own ∷ tail) own.number d.1 (there ss) in
    (h.0 ∙ (elim (eqb_tells c s.number) [ inl q ↦ absurd (omega (arith, q.1, e, less)) | inr q ↦ rw q.0 (not_among aw c s.number (omega (arith, e, less)) l) ]), seg_none c s.number aw ss own tail e l d.1 h.1)
  where
    there : (xs : List OpenScope) → contains (numbers (xs ++ own ∷ tail)) own.number ≡ true
    there [] = contains_first own.number (numbers tail)
    there (x ∷ xs) = elim (eqb_tells x.number own.number) [ inl q ↦ rw q.0 refl | inr q ↦ rw q.0 (there xs) ]

pub seg_viewed : (c m n : ℕ) (st final : State) (es : List Event) (x : Name) (seg : List OpenScope) (own : OpenScope) (tail : List OpenScope) → own.number ≡ c → m ≤ n → Descends m (seg ++ own ∷ tail) → NoneInHeader seg → Frozen c n st final → AllViewed st final es x seg
seg_viewed c m n st final es x [] own tail e k d h f = tt
seg_viewed c m n st final es x (s ∷ ss) own tail e k d h f =
    let less : own.number < s.number = among_less s.number (ss ++ own ∷ tail) own.number d.1 (there ss) in
    (viewed_frozen c n st final es x s f (omega (arith, e, less)) (omega (arith, d.0, k)) h.0, seg_viewed c s.number n st final es x ss own tail e (omega (arith, d.0, k)) d.1 h.1 f)
  where
    there : (xs : List OpenScope) → contains (numbers (xs ++ own ∷ tail)) own.number ≡ true
    there [] = contains_first own.number (numbers tail)
    there (y ∷ xs) = elim (eqb_tells y.number own.number) [ inl q ↦ rw q.0 refl | inr q ↦ rw q.0 (there xs) ]

pub tail_apart : (n : ℕ) (seg : List OpenScope) (own : OpenScope) (tail : List OpenScope) → Descends n (seg ++ own ∷ tail) → contains (numbers tail) own.number ≡ false
tail_apart n seg own tail d = by (contains (numbers tail) own.number) refl
  where
    inner : Descends own.number tail
    inner = (descends_right n seg (own ∷ tail) d).1

    by : (b : Bool) → contains (numbers tail) own.number ≡ b → b ≡ false
    by true q = let l : own.number < own.number = among_less own.number tail own.number inner q in absurd (omega arith)
    by false q = refl
