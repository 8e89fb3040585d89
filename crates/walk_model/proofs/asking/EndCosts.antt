-- At the end of a header, and in the end, each reference that waits pays what its outcome spares.
use Rattle.std.proofs.Common.{◌≡◌, ℕ, ◌+◌, List, [], ◌∷◌, ◌++◌, Option, Some, None, Bool, true, false, cond, refl, sym, ap, subst, ◌∙◌, map, length, arith}
use Rattle.std.specs.Prelude.{slice_get}
use Rattle.std.specs.Option.{option_map_or}
use Rattle.semantic_syntax.specs.Tables.{Name, Scope}
use Rattle.semantic_syntax.specs.Reading.{way_of}
use Rattle.semantic_syntax.specs.Told.{source_of}
use Rattle.semantic_syntax.specs.Source.{chain}
use Rattle.semantic_model.specs.Place.{OpenScope}
use Rattle.semantic_syntax.specs.Members.{contains}
use Rattle.semantic_model.specs.Reference.{Occurrence}
use Rattle.semantic_model.specs.Event.{Event}
use Rattle.semantic_model.specs.Fold.{State, start}
use Rattle.semantic_model.specs.Hoist.{run}
use Rattle.semantic_syntax.specs.Lookup.{Lookup, tied, barred, unanswered, lookup, probes_in}
use Rattle.semantic_model.specs.Tie.{Tie, until_end_of}
use Rattle.semantic_syntax.specs.Outcome.{Pending, Outcome, is_free, waits, up_to, answer as source_answer, outcome_or, waits_outside, header_outcome, header_probes, last_probes}
use Rattle.walk_model.specs.WalkState.{WalkState}
use Rattle.semantic_model.specs.TablesOf.{numbers}
use Rattle.walk_model.proofs.places.Nested.{Descends}
use Rattle.walk_model.proofs.headers.Headed.{AllLess}
use Rattle.walk_model.proofs.refers.Lookups.{answered_in, lookup_alike}
use Rattle.walk_model.proofs.headers.Frozen.{Frozen}
use Rattle.walk_model.proofs.refers.HeaderEnds.{At, Waits, looked_up, answers_of, split_answers, Parts, parted}
use Rattle.walk_model.proofs.refers.EndScopes.{told_answers, left_chain, outcome_left, past_own, up_to_own, last_alike}
use Rattle.walk_model.proofs.asking.LookupCosts.{probes_first, probes_through, probes_alike}
use Rattle.walk_model.proofs.asking.LeftToAsk.{scopes_from, cost, left_for, left_of, left_then, from_there}

-- an answer leaves nothing to ask
answered_spares : (left : Pending → ℕ) (e : Pending) (other : Outcome) (l : Lookup) (d : ℕ) → answered_in l ≡ Some d → left_then left e (outcome_or other l) ≡ 0
answered_spares left e other (tied c s f) d h = refl
answered_spares left e other (barred c) d h = refl
answered_spares left e other unanswered d h = absurd cc

unanswered_other : (other : Outcome) (l : Lookup) → answered_in l ≡ None → outcome_or other l ≡ other
unanswered_other other (tied c s f) h = absurd cc
unanswered_other other (barred c) h = absurd cc
unanswered_other other unanswered h = refl

module _ (w : WalkState) (st final : State) (es : List Event) (rs : List Occurrence) (stack : List ℕ) (seen calls : List (List ℕ)) (bare : List Scope) (fs : List ℕ) (now_at : At w st stack seen calls bare fs) where
  -- what is left for a reference whose chain goes on at a scope
  left_at : (t : Tie) (e : Pending) (xs : List OpenScope) (s : OpenScope) (ss : List OpenScope) → t.reference.chain ≡ xs ++ s ∷ ss → Descends (length seen) t.reference.chain → e.lookup_scope ≡ s.number → slice_get rs e.reference ≡ Some t.reference
      → left_for final es rs e ≡ cost final es t.reference (s ∷ ss)
  left_at t e xs s ss q d l there =
      ap (λ o. left_of final es o e.lookup_scope) there
      ∙ ap (λ c. cost final es t.reference (scopes_from c t.reference.chain)) l
      ∙ ap (λ ys. cost final es t.reference (scopes_from s.number ys)) q
      ∙ ap (cost final es t.reference) (from_there (length seen) xs s ss (subst (Descends (length seen)) q d))

  module _ (c : ℕ) (aw : List ℕ) (frozen : Frozen c (length seen) st final) (viewed : run start (until_end_of c es) ≡ st) (older : AllLess aw c) where
    abbrev left : Pending → ℕ
    left e = left_for final es rs e

    -- nothing so far: what is left is left outside the header's scope
    left_outside : (t : Tie) (e : Pending) (h : Waits (c ∷ aw) seen fs final es t e) (seg : List OpenScope) (own : OpenScope) (tail : List OpenScope) → h.next ∷ h.rest ≡ seg ++ own ∷ tail → own.number ≡ c → slice_get rs e.reference ≡ Some t.reference
        → left_then left e (waits_outside (source_of w.tables) c) ≡ cost final es t.reference tail
    left_outside t e h seg own [] p q there =
        ap (λ o. left_then left e (option_map_or waits o is_free)) (past_own w st final es stack seen calls bare fs now_at c (c ∷ aw) t e h seg own [] p q).parent
    left_outside t e h seg own (t2 ∷ ts) p q there =
        let past = past_own w st final es stack seen calls bare fs now_at c (c ∷ aw) t e h seg own (t2 ∷ ts) p q in
        ap (λ o. left_then left e (option_map_or waits o is_free)) past.parent
        ∙ left_at t (record e { lookup_scope = t2.number }) (h.asked ++ (seg ++ own ∷ [])) t2 ts past.chain_is h.descends refl there

    -- the header's scope is among those left
    pays_inside : (t : Tie) (e : Pending) (h : Waits (c ∷ aw) seen fs final es t e) → Parts c (h.next ∷ h.rest) → slice_get rs e.reference ≡ Some t.reference
        → cost final es t.reference (h.next ∷ h.rest)
        ≡ probes_in t.reference.name t.reference.way (told_answers w t (up_to c (numbers (h.next ∷ h.rest))))
        + left_then left e (outcome_or (waits_outside (source_of w.tables) c) (lookup t.reference.name t.reference.way (told_answers w t (up_to c (numbers (h.next ∷ h.rest))))))
    pays_inside t e h p there =
        let x : Name = t.reference.name in
        let way : ℕ = t.reference.way in
        let u = up_to_own w st final es stack seen calls bare fs now_at c aw frozen viewed older t e h p in
        let paid : probes_in x way (told_answers w t (up_to c (numbers (h.next ∷ h.rest)))) ≡ cost final es t.reference (p.seg ++ p.own ∷ []) =
        ap (λ l. probes_in x way (told_answers w t l)) u.asks
        ∙ probes_alike x way (told_answers w t (numbers (p.seg ++ p.own ∷ []))) (answers_of final es t (p.seg ++ p.own ∷ [])) u.alike in
        let told : lookup x way (told_answers w t (up_to c (numbers (h.next ∷ h.rest)))) ≡ looked_up final es t (p.seg ++ p.own ∷ []) =
        ap (λ l. lookup x way (told_answers w t l)) u.asks
        ∙ lookup_alike x way (told_answers w t (numbers (p.seg ++ p.own ∷ []))) (answers_of final es t (p.seg ++ p.own ∷ [])) u.alike in
        let split : cost final es t.reference (h.next ∷ h.rest) ≡ probes_in x way (answers_of final es t (p.seg ++ p.own ∷ []) ++ answers_of final es t p.tail) =
        ap (cost final es t.reference) p.is ∙ ap (probes_in x way) (split_answers final es t p.seg p.own p.tail) in
        split ∙ by (answered_in (looked_up final es t (p.seg ++ p.own ∷ []))) refl
        ∙ (λ i. sym paid i + left_then left e (outcome_or (waits_outside (source_of w.tables) c) (sym told i)))
      where
        by : (o : Option ℕ) → answered_in (looked_up final es t (p.seg ++ p.own ∷ [])) ≡ o
            → probes_in t.reference.name t.reference.way (answers_of final es t (p.seg ++ p.own ∷ []) ++ answers_of final es t p.tail)
            ≡ cost final es t.reference (p.seg ++ p.own ∷ []) + left_then left e (outcome_or (waits_outside (source_of w.tables) c) (looked_up final es t (p.seg ++ p.own ∷ [])))
        by None a = omega (
          arith,
          probes_through t.reference.name t.reference.way (answers_of final es t (p.seg ++ p.own ∷ [])) (answers_of final es t p.tail) a,
          ap (left_then left e) (unanswered_other (waits_outside (source_of w.tables) c) (looked_up final es t (p.seg ++ p.own ∷ [])) a),
          left_outside t e h p.seg p.own p.tail p.is p.number there,
        )
        by (Some d) a = omega (
          arith,
          probes_first t.reference.name t.reference.way (answers_of final es t (p.seg ++ p.own ∷ [])) (answers_of final es t p.tail) d a,
          answered_spares left e (waits_outside (source_of w.tables) c) (looked_up final es t (p.seg ++ p.own ∷ [])) d a,
        )

    pub pays_at_end : (t : Tie) (e : Pending) → Waits (c ∷ aw) seen fs final es t e → way_of w.tables e.reference ≡ t.reference.way → slice_get rs e.reference ≡ Some t.reference
        → left e ≡ header_probes (source_of w.tables) c e + left_then left e (header_outcome (source_of w.tables) c e)
    pays_at_end t e h way there =
        let x : Name = t.reference.name in
        let source = source_of w.tables in
        let ch : chain source e.lookup_scope ≡ numbers (h.next ∷ h.rest) = left_chain w st final es stack seen calls bare fs now_at (c ∷ aw) t e h in
        let first : left e ≡ cost final es t.reference (h.next ∷ h.rest) = left_at t e h.asked h.next h.rest h.chain_is h.descends h.scope there in
        let asks : header_probes source c e ≡ cond (contains (numbers (h.next ∷ h.rest)) c) (probes_in x t.reference.way (told_answers w t (up_to c (numbers (h.next ∷ h.rest))))) 0 =
        λ i. cond (contains (ch i) c) (probes_in (h.name i) (way i) (map (source_answer source (h.name i)) (up_to c (ch i)))) 0 in
        first ∙ by (contains (numbers (h.next ∷ h.rest)) c) refl first ∙ (λ i. sym asks i + left_then left e (sym (outcome_left w st final es stack seen calls bare fs now_at c (c ∷ aw) t e h way) i))
      where
        by : (b : Bool) → contains (numbers (h.next ∷ h.rest)) c ≡ b → left e ≡ cost final es t.reference (h.next ∷ h.rest)
            → cost final es t.reference (h.next ∷ h.rest)
            ≡ cond b (probes_in t.reference.name t.reference.way (told_answers w t (up_to c (numbers (h.next ∷ h.rest))))) 0
            + left_then left e (cond b (outcome_or (waits_outside (source_of w.tables) c) (lookup t.reference.name t.reference.way (told_answers w t (up_to c (numbers (h.next ∷ h.rest)))))) (waits e.lookup_scope))
        by true q first = pays_inside t e h (parted c (h.next ∷ h.rest) q) there
        by false q first = sym first ∙ omega arith

  -- in the end
  pub pays_last : (t : Tie) (e : Pending) → final ≡ st → Waits [] seen fs final es t e → way_of w.tables e.reference ≡ t.reference.way → slice_get rs e.reference ≡ Some t.reference
      → left_for final es rs e ≡ last_probes (source_of w.tables) e
  pays_last t e fin h way there =
      let x : Name = t.reference.name in
      let left : List OpenScope = h.next ∷ h.rest in
      let source = source_of w.tables in
      let ch : chain source e.lookup_scope ≡ numbers left = left_chain w st final es stack seen calls bare fs now_at [] t e h in
      let asks : last_probes source e ≡ probes_in x t.reference.way (told_answers w t (numbers left)) = λ i. probes_in (h.name i) (way i) (map (source_answer source (h.name i)) (ch i)) in
      left_at t e h.asked h.next h.rest h.chain_is h.descends h.scope there
      ∙ sym (asks ∙ probes_alike x t.reference.way (told_answers w t (numbers left)) (answers_of final es t left) (last_alike w st final es stack seen calls bare fs now_at t e h fin))
