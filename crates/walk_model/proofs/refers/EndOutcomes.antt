-- At the end of a header, and in the end, each reference that waits gets the outcome that its tie tells.
use Rattle.std.proofs.Common.{◌≡◌, ℕ, List, [], ◌∷◌, ◌++◌, Some, None, Bool, true, false, cond, inl, inr, refl, sym, ap, subst, ◌∙◌, map, length}
use Rattle.std.specs.Prelude.{slice_get}
use Rattle.std.specs.Option.{option_map_or}
use Rattle.std.proofs.lemmas.Bool.Decides.{eqb_tells}
use Rattle.semantic_syntax.specs.Tables.{Name, Scope}
use Rattle.semantic_syntax.specs.Reading.{way_of}
use Rattle.semantic_syntax.specs.Told.{source_of}
use Rattle.semantic_syntax.specs.Source.{chain}
use Rattle.semantic_model.specs.Place.{OpenScope}
use Rattle.semantic_syntax.specs.Members.{contains}
use Rattle.semantic_model.specs.Event.{Event}
use Rattle.semantic_model.specs.Fold.{State, start}
use Rattle.semantic_model.specs.Hoist.{run}
use Rattle.semantic_syntax.specs.Lookup.{Lookup, tied, barred, unanswered, lookup}
use Rattle.semantic_model.specs.Tie.{Tie, until_end_of, symbol_by, final_flags, header_from, moment, is_at, is_last}
use Rattle.semantic_syntax.specs.Outcome.{Pending, is_free, waits, up_to, answer as source_answer, outcome_or, waits_outside, header_outcome, last_outcome}
use Rattle.walk_model.specs.WalkState.{WalkState}
use Rattle.semantic_model.specs.TablesOf.{numbers}
use Rattle.walk_model.proofs.places.Nested.{Descends}
use Rattle.walk_model.proofs.headers.Headed.{AllMatch, AreFlagged, AllLess}
use Rattle.walk_model.proofs.refers.Lookups.{answered_in, answered_among, lookup_alike, header_skip, header_none, moment_answered, moment_unanswered}
use Rattle.walk_model.proofs.refers.Settling.{IsRight, frees, goes_on}
use Rattle.walk_model.proofs.headers.Frozen.{Frozen}
use Rattle.walk_model.proofs.refers.HeaderEnds.{At, Waits, waits_still, looked_up, answers_of, descends_right, past_asked, not_now, answered_now, through_more, right_by, Parts, parted, match_right, flagged_right, match_past, tail_apart, apart, scopes_of}
use Rattle.walk_model.proofs.refers.EndScopes.{told_answers, none_left, left_chain, outcome_left, past_own, up_to_own, last_alike}

module _ (w : WalkState) (st final : State) (es : List Event) (stack : List ℕ) (seen calls : List (List ℕ)) (bare : List Scope) (fs : List ℕ) (now_at : At w st stack seen calls bare fs) where
  module _ (c : ℕ) (aw : List ℕ) (first : ℕ) (others : List ℕ) (frozen : Frozen c (length seen) st final) (viewed : run start (until_end_of c es) ≡ st) (older : AllLess aw c) (inner : slice_get seen c ≡ Some (first ∷ others)) where
    abbrev WaitsThen : Tie → Pending → Type 0
    WaitsThen t e = Waits aw seen fs final es t e

    abbrev now : Tie → Bool
    now t = is_at c (moment t)

    at_own : (t : Tie) (n : ℕ) → moment t ≡ Some n → n ≡ c → now t ≡ true
    at_own t n e f = ap (is_at c) e ∙ (elim (eqb_tells c n) [ inl q ↦ q.0 | inr q ↦ absurd (q.1 (sym f)) ])

    -- nothing so far: it waits outside the header's scope
    waits_on : (t : Tie) (e : Pending) (h : Waits (c ∷ aw) seen fs final es t e) (seg : List OpenScope) (own : OpenScope) (tail : List OpenScope) → h.next ∷ h.rest ≡ seg ++ own ∷ tail → own.number ≡ c → answered_in (looked_up final es t (seg ++ own ∷ [])) ≡ None
        → IsRight WaitsThen st.symbols now t e (waits_outside (source_of w.tables) c)
    waits_on t e h seg own [] p q a =
        let past = past_own w st final es stack seen calls bare fs now_at c (c ∷ aw) t e h seg own [] p q in
        let k : slice_get seen c ≡ Some [] = subst (λ m. slice_get seen m ≡ Some []) q past.linked.0 in
        let r : Some (first ∷ others) ≡ Some [] = sym inner ∙ k in absurd cc
    waits_on t e h seg own (t2 ∷ ts) p q a =
        let past = past_own w st final es stack seen calls bare fs now_at c (c ∷ aw) t e h seg own (t2 ∷ ts) p q in
        let m : AllMatch (c ∷ aw) (own ∷ t2 ∷ ts) = match_right (c ∷ aw) seg (own ∷ t2 ∷ ts) (subst (AllMatch (c ∷ aw)) p h.matches) in
        let f : AreFlagged fs (own ∷ t2 ∷ ts) = flagged_right fs seg (own ∷ t2 ∷ ts) (subst (AreFlagged fs) p h.flagged) in
        let left : Descends (length seen) (seg ++ own ∷ t2 ∷ ts) = subst (Descends (length seen)) p (descends_right (length seen) h.asked (h.next ∷ h.rest) (subst (Descends (length seen)) h.chain_is h.descends)) in
        let outer : contains (numbers (t2 ∷ ts)) c ≡ false = subst (λ n. contains (numbers (t2 ∷ ts)) n ≡ false) q (tail_apart (length seen) seg own (t2 ∷ ts) left) in
        let none : answered_in (looked_up final es t (h.asked ++ (seg ++ own ∷ []))) ≡ None = through_more final es t h.asked (seg ++ own ∷ []) h.through a in
        subst (λ o. IsRight WaitsThen st.symbols now t e (option_map_or waits o is_free)) (sym past.parent)
        (goes_on t2.number (not_now final es t (length seen) c (h.asked ++ (seg ++ own ∷ [])) (t2 ∷ ts) past.chain_is none h.is_tie h.descends outer) (record {
          asked = h.asked ++ (seg ++ own ∷ []);
          next = t2;
          rest = ts;
          chain_is = past.chain_is;
          through = none;
          is_tie = h.is_tie;
          name = h.name;
          number = h.number;
          scope = refl;
          matches = match_past c aw (t2 ∷ ts) outer m.1;
          linked = past.linked.1;
          flagged = f.1;
          descends = h.descends;
        }))

    -- the header's scope is among those left
    right_inside : (t : Tie) (e : Pending) (h : Waits (c ∷ aw) seen fs final es t e) → Parts c (h.next ∷ h.rest)
        → IsRight WaitsThen st.symbols now t e (outcome_or (waits_outside (source_of w.tables) c) (lookup t.reference.name t.reference.way (told_answers w t (up_to c (numbers (h.next ∷ h.rest))))))
    right_inside t e h p =
        let x : Name = t.reference.name in
        let way : ℕ = t.reference.way in
        let u = up_to_own w st final es stack seen calls bare fs now_at c aw frozen viewed older t e h p in
        let same : lookup x way (told_answers w t (numbers (p.seg ++ p.own ∷ []))) ≡ looked_up final es t (p.seg ++ p.own ∷ []) =
        lookup_alike x way (told_answers w t (numbers (p.seg ++ p.own ∷ []))) (answers_of final es t (p.seg ++ p.own ∷ [])) u.alike in
        subst (λ l. IsRight WaitsThen st.symbols now t e (outcome_or (waits_outside (source_of w.tables) c) l)) (sym (ap (λ l. lookup x way (told_answers w t l)) u.asks ∙ same))
        (right_by WaitsThen now w st (length seen) t e (p.seg ++ p.own ∷ []) (waits_outside (source_of w.tables) c) (looked_up final es t (p.seg ++ p.own ∷ [])) now_at.shows now_at.sound same
        (λ d a. let r : (t.lookup ≡ looked_up final es t (p.seg ++ p.own ∷ [])) × (moment t ≡ Some p.own.number) = answered_now final es t (length seen) d h.asked p.seg p.own p.tail u.whole h.through h.is_tie h.descends u.none u.inside a in (r.0, at_own t p.own.number r.1 p.number))
        (λ a. waits_on t e h p.seg p.own p.tail p.is p.number a))

    pub right_end : (t : Tie) (e : Pending) → Waits (c ∷ aw) seen fs final es t e → way_of w.tables e.reference ≡ t.reference.way → IsRight WaitsThen st.symbols now t e (header_outcome (source_of w.tables) c e)
    right_end t e h way =
        subst (λ o. IsRight WaitsThen st.symbols now t e o) (sym (outcome_left w st final es stack seen calls bare fs now_at c (c ∷ aw) t e h way)) (by (contains (numbers (h.next ∷ h.rest)) c) refl)
      where
        by : (b : Bool) → contains (numbers (h.next ∷ h.rest)) c ≡ b
            → IsRight WaitsThen st.symbols now t e (cond b (outcome_or (waits_outside (source_of w.tables) c) (lookup t.reference.name t.reference.way (told_answers w t (up_to c (numbers (h.next ∷ h.rest)))))) (waits e.lookup_scope))
        by true q = right_inside t e h (parted c (h.next ∷ h.rest) q)
        by false q = goes_on e.lookup_scope (not_now final es t (length seen) c h.asked (h.next ∷ h.rest) h.chain_is h.through h.is_tie h.descends q)
            (waits_still (c ∷ aw) aw seen seen fs fs final es t e h (match_past c aw (h.next ∷ h.rest) q h.matches) h.linked h.flagged h.descends)

  none_by : (l : Lookup) → answered_in l ≡ None → symbol_by l ≡ None
  none_by (tied c s f) h = absurd cc
  none_by (barred c) h = refl
  none_by unanswered h = refl

  way_kept : (t : Tie) (l : Lookup) → t.lookup ≡ l → answered_in l ≡ None → final_flags t ≡ t.reference.way
  way_kept t (tied c s f) e h = absurd cc
  way_kept t (barred c) e h = absurd cc
  way_kept t unanswered e h = rw e refl

  pub right_last : (t : Tie) (e : Pending) → final ≡ st → (WaitsLast : Tie → Pending → Type 0) → Waits [] seen fs final es t e → way_of w.tables e.reference ≡ t.reference.way → IsRight WaitsLast st.symbols (λ u. is_last (moment u)) t e (last_outcome (source_of w.tables) e)
  right_last t e fin WaitsLast h way =
      let x : Name = t.reference.name in
      let left : List OpenScope = h.next ∷ h.rest in
      let ch : chain (source_of w.tables) e.lookup_scope ≡ numbers left = left_chain w st final es stack seen calls bare fs now_at [] t e h in
      let same : lookup x t.reference.way (told_answers w t (numbers left)) ≡ looked_up final es t left =
      lookup_alike x t.reference.way (told_answers w t (numbers left)) (answers_of final es t left) (last_alike w st final es stack seen calls bare fs now_at t e h fin) in
      let outcome : last_outcome (source_of w.tables) e ≡ outcome_or is_free (lookup x t.reference.way (told_answers w t (numbers left))) =
      λ i. outcome_or is_free (lookup (h.name i) (way i) (map (source_answer (source_of w.tables) (h.name i)) (ch i))) in
      let whole : t.lookup ≡ looked_up final es t left = past_asked final es t h.asked left h.chain_is h.through h.is_tie in
      subst (λ o. IsRight WaitsLast st.symbols (λ u. is_last (moment u)) t e o) (sym (outcome ∙ ap (outcome_or is_free) same))
      (right_by WaitsLast (λ u. is_last (moment u)) w st (length seen) t e left is_free (looked_up final es t left) now_at.shows now_at.sound same
      (λ d a.
      let there : contains (numbers left) d ≡ true = subst (λ l. contains l d ≡ true) (scopes_of final es t left) (answered_among x t.reference.way (answers_of final es t left) d a) in
      let out : contains (numbers h.asked) d ≡ false = apart (length seen) h.asked left d (subst (Descends (length seen)) h.chain_is h.descends) there in
      let mo : moment t ≡ None = moment_answered t.lookup t.reference.chain d (ap answered_in whole ∙ a) ∙ ap (header_from d) h.chain_is ∙ header_skip d h.asked left out ∙ header_none d left (none_left left h.matches) in
      (whole, ap is_last mo))
      (λ a. frees (ap is_last (moment_unanswered t.lookup t.reference.chain (ap answered_in whole ∙ a))) (ap symbol_by whole ∙ none_by (looked_up final es t left) a) (way_kept t (looked_up final es t left) whole a)))
