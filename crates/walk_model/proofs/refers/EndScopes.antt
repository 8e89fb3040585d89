-- At the end of a header, and in the end, what the scopes that a reference has left to ask tell as its tie asks them.
use Rattle.std.proofs.Common.{◌≡◌, ℕ, List, [], ◌∷◌, ◌++◌, Some, true, cond, sym, ap, subst, ◌∙◌, map, length, arith}
use Rattle.std.specs.Prelude.{slice_get}
use Rattle.std.proofs.lemmas.List.{append_assoc}
use Rattle.semantic_syntax.specs.Tables.{Name, Scope}
use Rattle.semantic_syntax.specs.Reading.{way_of, parent_of}
use Rattle.semantic_syntax.specs.Told.{source_of}
use Rattle.semantic_syntax.specs.Source.{chain}
use Rattle.semantic_syntax.specs.Members.{contains}
use Rattle.semantic_syntax.specs.Lookup.{Asked, lookup}
use Rattle.semantic_syntax.specs.Outcome.{Pending, waits, up_to, answer as source_answer, outcome_or, waits_outside, header_outcome}
use Rattle.semantic_model.specs.Place.{OpenScope}
use Rattle.semantic_model.specs.Binding.{get}
use Rattle.semantic_model.specs.Event.{Event}
use Rattle.semantic_model.specs.Fold.{State, start}
use Rattle.semantic_model.specs.Hoist.{run}
use Rattle.semantic_model.specs.Tie.{Tie, until_end_of, seen_as}
use Rattle.semantic_model.proofs.lists.Members.{contains_first}
use Rattle.walk_model.specs.WalkState.{WalkState}
use Rattle.semantic_model.specs.TablesOf.{numbers}
use Rattle.walk_model.proofs.places.Nested.{AreLinked, Descends}
use Rattle.walk_model.proofs.opens.EvalReach.{head_of}
use Rattle.walk_model.proofs.headers.Frozen.{Frozen}
use Rattle.walk_model.proofs.headers.Headed.{AllMatch, AreFlagged, AllLess}
use Rattle.walk_model.proofs.refers.Lookups.{AreAlike, NoneInHeader}
use Rattle.walk_model.proofs.refers.Sources.{chain_is, parent_is, up_to_is, AllViewed, viewed-append, all_alike, viewed_ending}
use Rattle.walk_model.proofs.refers.HeaderEnds.{At, Waits, answers_of, descends_right, Parts, match_right, linked_right, flagged_prefix, seg_none, seg_viewed}

-- what the walk's tables answer for a reference
abbrev pub told_answers : WalkState → Tie → List ℕ → List Asked
told_answers w t scopes = map (source_answer (source_of w.tables) t.reference.name) scopes

-- what is left to ask past the scope whose header ends
pub record PastOwn (w : WalkState) (seen : List (List ℕ)) (c : ℕ) (t : Tie) (asked seg : List OpenScope) (own : OpenScope) (tail : List OpenScope) : Type 0 where
  pub chain_is : t.reference.chain ≡ (asked ++ (seg ++ own ∷ [])) ++ tail
  pub linked : AreLinked seen (own ∷ tail)
  pub parent : parent_of w.tables.scopes c ≡ head_of (numbers tail)

-- what is left to ask up to that scope
pub record UpToOwn (w : WalkState) (final : State) (es : List Event) (c : ℕ) (t : Tie) (asked left : List OpenScope) (p : Parts c left) : Type 0 where
  pub whole : t.reference.chain ≡ asked ++ (p.seg ++ p.own ∷ p.tail)
  pub none : NoneInHeader p.seg
  pub inside : p.own.in_header ≡ true
  pub asks : up_to c (numbers left) ≡ numbers (p.seg ++ p.own ∷ [])
  pub alike : AreAlike t.reference.name t.reference.way (told_answers w t (numbers (p.seg ++ p.own ∷ []))) (answers_of final es t (p.seg ++ p.own ∷ []))

-- in the end no header is awaited
pub none_left : (ss : List OpenScope) → AllMatch [] ss → NoneInHeader ss
none_left [] m = tt
none_left (s ∷ ss) m = (m.0, none_left ss m.1)

end_viewed : (st final : State) (es : List Event) (x : Name) (ss : List OpenScope) → final ≡ st → NoneInHeader ss → AllViewed st final es x ss
end_viewed st final es x [] e n = tt
end_viewed st final es x (s ∷ ss) e n = (rw n.0 (ap (λ (v : State). seen_as v (get v.bindings s.number x)) (sym e)), end_viewed st final es x ss e n.1)

module _ (w : WalkState) (st final : State) (es : List Event) (stack : List ℕ) (seen calls : List (List ℕ)) (bare : List Scope) (fs : List ℕ) (now_at : At w st stack seen calls bare fs) where
  -- what is left to ask stands in the tables
  pub left_chain : (awaiting : List ℕ) (t : Tie) (e : Pending) (h : Waits awaiting seen fs final es t e) → chain (source_of w.tables) e.lookup_scope ≡ numbers (h.next ∷ h.rest)
  left_chain awaiting t e h =
      ap (chain (source_of w.tables)) h.scope
      ∙ chain_is stack seen calls bare w h.next h.rest now_at.scopes h.linked (descends_right (length seen) h.asked (h.next ∷ h.rest) (subst (Descends (length seen)) h.chain_is h.descends))

  -- the outcome at the end of a header, by what is left
  pub outcome_left : (c : ℕ) (awaiting : List ℕ) (t : Tie) (e : Pending) (h : Waits awaiting seen fs final es t e) → way_of w.tables e.reference ≡ t.reference.way
      → header_outcome (source_of w.tables) c e ≡ cond (contains (numbers (h.next ∷ h.rest)) c) (outcome_or (waits_outside (source_of w.tables) c) (lookup t.reference.name t.reference.way (told_answers w t (up_to c (numbers (h.next ∷ h.rest)))))) (waits e.lookup_scope)
  outcome_left c awaiting t e h way =
      let ch : chain (source_of w.tables) e.lookup_scope ≡ numbers (h.next ∷ h.rest) = left_chain awaiting t e h in
      λ i. cond (contains (ch i) c) (outcome_or (waits_outside (source_of w.tables) c) (lookup (h.name i) (way i) (map (source_answer (source_of w.tables) (h.name i)) (up_to c (ch i))))) (waits e.lookup_scope)

  pub past_own : (c : ℕ) (awaiting : List ℕ) (t : Tie) (e : Pending) (h : Waits awaiting seen fs final es t e) (seg : List OpenScope) (own : OpenScope) (tail : List OpenScope) → h.next ∷ h.rest ≡ seg ++ own ∷ tail → own.number ≡ c → PastOwn w seen c t h.asked seg own tail
  past_own c awaiting t e h seg own tail p q =
      let l : AreLinked seen (own ∷ tail) = linked_right seen seg (own ∷ tail) (subst (AreLinked seen) p h.linked) in record {
        chain_is = h.chain_is ∙ ap (λ l. h.asked ++ l) (p ∙ sym (append_assoc seg (own ∷ []) tail)) ∙ sym (append_assoc h.asked (seg ++ own ∷ []) tail);
        linked = l;
        parent = parent_is stack seen calls bare w c (numbers tail) now_at.scopes (subst (λ n. slice_get seen n ≡ Some (numbers tail)) q l.0);
      }

  pub up_to_own : (c : ℕ) (aw : List ℕ) → Frozen c (length seen) st final → run start (until_end_of c es) ≡ st → AllLess aw c → (t : Tie) (e : Pending) (h : Waits (c ∷ aw) seen fs final es t e) (p : Parts c (h.next ∷ h.rest)) → UpToOwn w final es c t h.asked (h.next ∷ h.rest) p
  up_to_own c aw frozen viewed older t e h p =
      let x : Name = t.reference.name in
      let whole : t.reference.chain ≡ h.asked ++ (p.seg ++ p.own ∷ p.tail) = h.chain_is ∙ ap (λ l. h.asked ++ l) p.is in
      let down : Descends (length seen) (p.seg ++ p.own ∷ p.tail) = descends_right (length seen) h.asked (p.seg ++ p.own ∷ p.tail) (subst (Descends (length seen)) whole h.descends) in
      let m : AllMatch (c ∷ aw) (p.seg ++ p.own ∷ p.tail) = subst (AllMatch (c ∷ aw)) p.is h.matches in
      let f : AreFlagged fs (p.seg ++ p.own ∷ p.tail) = subst (AreFlagged fs) p.is h.flagged in
      let none : NoneInHeader p.seg = seg_none c (length seen) aw p.seg p.own p.tail p.number older down m in
      let inside : p.own.in_header ≡ true = (match_right (c ∷ aw) p.seg (p.own ∷ p.tail) m).0 ∙ subst (λ n. contains (c ∷ aw) n ≡ true) (sym p.number) (contains_first c aw) in
      let views : AllViewed st final es x (p.seg ++ p.own ∷ []) =
      viewed-append st final es x p.seg (p.own ∷ []) (seg_viewed c (length seen) (length seen) st final es x p.seg p.own p.tail p.number (omega arith) down none frozen) (viewed_ending c st final es x p.own p.number inside viewed, tt) in
      record {
        whole = whole;
        none = none;
        inside = inside;
        asks = ap (λ l. up_to c (numbers l)) p.is ∙ up_to_is c p.seg p.own p.tail p.number p.apart;
        alike = all_alike (length seen) w st final es x t.reference.way stack seen calls bare fs (p.seg ++ p.own ∷ []) now_at.shows now_at.scopes now_at.flags (flagged_prefix fs p.seg p.own p.tail f) views;
      }

  -- in the end all that is left is told as it stays
  pub last_alike : (t : Tie) (e : Pending) (h : Waits [] seen fs final es t e) → final ≡ st → AreAlike t.reference.name t.reference.way (told_answers w t (numbers (h.next ∷ h.rest))) (answers_of final es t (h.next ∷ h.rest))
  last_alike t e h fin =
      all_alike (length seen) w st final es t.reference.name t.reference.way stack seen calls bare fs (h.next ∷ h.rest) now_at.shows now_at.scopes now_at.flags h.flagged
      (end_viewed st final es t.reference.name (h.next ∷ h.rest) fin (none_left (h.next ∷ h.rest) h.matches))
