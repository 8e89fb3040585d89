-- A renamed program is told the same diagnostics, early errors too, with the new name for the old one.
use Rattle.std.proofs.Common.{◌≡◌, ℕ, suc, ◌+◌, List, [], ◌∷◌, Bool, true, false, not, ◌&&◌, refl, sym, ap, subst, ◌∙◌, map, bytes_eq}
use Rattle.semantic_syntax.proofs.Truth.{and_first, and_second}
use Rattle.semantic_syntax.specs.Tables.{Name, Symbol}
use Rattle.semantic_kinds.specs.declared.kind.AstType.TheVariants as kind
use Rattle.semantic_tree.specs.Views.{is}
use Rattle.semantic_tree.specs.declared.node.Node.{Node}
use Rattle.semantic_model.specs.Binding.{bound_by}
use Rattle.semantic_model.specs.Fold.{State}
use Rattle.semantic_model.specs.Place.{Place}
use Rattle.semantic_model.specs.Step.{Step, entering, opening, header_ending, closing, leaving}
use Rattle.semantic_model.specs.Swap.{renamed_symbol}
use Rattle.semantic_model.proofs.swapped.AlikeSteps.{AlikeStep}
use Rattle.check_model.specs.DiagnosticsOf.{rows_at}
use Rattle.check_model.specs.Rows.{rows_of}
use Rattle.check_model.specs.Sight.{Sight}
use Rattle.check_model.specs.SightOf.{symbol_pair, list_if, sight_of}
use Rattle.semantic_syntax.specs.SourceTypes as source_type
use Rattle.program_laws.proofs.StepMarks.{remarked_step}
use Rattle.swapped_checks.specs.RuleWords.{is_rule_word, KeepsRuleWords}
use Rattle.swapped_checks.specs.SwappedRows.{AreToldAgain}
use Rattle.swapped_checks.specs.SwappedSight.{has_plain_labels}
use Rattle.swapped_checks.proofs.Changed.{Change}
use Rattle.swapped_checks.proofs.PlainForm.{has_own_pieces, is_formed}
use Rattle.swapped_checks.proofs.SeenPlaces.{Tells, plain_parts, seen_place}
use Rattle.swapped_checks.proofs.Spots.{SpotStep}
use Rattle.swapped_checks.proofs.SwappedTold.{none, change_by}
use Rattle.swapped_checks.proofs.Told.{sights_told}
use Rattle.renaming_laws.specs.NewNames.{instead}
use Rattle.renaming_laws.proofs.FreshNames.{instead_keeps, left}
use Rattle.renaming_laws.proofs.MarkedSymbols.{marked, Bears, old_marked, Follow, new_marked}
use Rattle.renaming_laws.proofs.MarkedTests.{is_no_string, parts, is_marked, keeps_parameters}
use Rattle.renaming_laws.proofs.SeenSymbols.{BoundAlike, rows_same}
use Rattle.renaming_laws.proofs.ToldThrough.{AreShort, renaming, told_through}

-- what rules ask of bound symbols is not their names
alike_marked : (s : ℕ) (z old new : Name) (f : Name → Name) (ns ms : List ℕ) (n k : ℕ) (ys : List Symbol) → BoundAlike ns ms n ys → BoundAlike ns ms n (map (renamed_symbol f) (marked s z old new k ys))
alike_marked s z old new f ns ms n k [] h = tt
alike_marked s z old new f ns ms n k (y ∷ ys) h = (h.0, alike_marked s z old new f ns ms (n + 1) (suc k) ys h.1)

-- lists that are empty
none_alike : (n : ℕ) (ys : List Symbol) → BoundAlike [] [] n ys
none_alike n [] = tt
none_alike n (y ∷ ys) = (λ e. refl, none_alike (n + 1) ys)

-- the symbols that the root binds
abbrev pub roots : State → List ℕ
roots st = map (λ b. b.1) (bound_by st.bindings 0)

module _ (s : ℕ) (chosen : ℕ → Bool) (z old new : Name) where
  abbrev pub test : Node → Bool
  test n = is_formed n && is_marked chosen z old new n

  abbrev pub to_old : Change
  to_old = change_by (instead z old) none

  abbrev pub to_new : Change
  to_new = change_by (instead z new) none

  -- what the test tells, whatever name comes
  tells : (w : Name) → Tells (instead z w) test
  tells w = record {
    labels = λ n h. and_first (has_plain_labels n) (has_own_pieces n) (and_first (is_formed n) (is_marked chosen z old new n) h);
    pieces = λ n h. and_second (has_plain_labels n) (has_own_pieces n) (and_first (is_formed n) (is_marked chosen z old new n) h);
    strings = λ n h k. left z w n.text (string (is kind.StringLiteral n) (bytes_eq n.text z) k (and_first (is_no_string z n) (parts z old n && parts z new n) (and_second (is_formed n) (is_marked chosen z old new n) h)));
  }
    where
      string : (c b : Bool) → c ≡ true → not (c && b) ≡ true → b ≡ false
      string true true k h = absurd cc
      string true false k h = refl
      string false b k h = absurd cc

  both_parts : (n : Node) → test n ≡ true → (parts z old n && parts z new n) ≡ true
  both_parts n h = and_second (is_no_string z n) (parts z old n && parts z new n) (and_second (is_formed n) (is_marked chosen z old new n) h)

  -- what is the same in two states so far
  pub record SoFar (st sw : State) : Type 0 where
    pub declared : map symbol_pair st.made ≡ map symbol_pair sw.made
    pub bears : Bears s z old new 0 st.symbols
    pub follow : Follow s z old new 0 st.symbols sw.symbols

  -- the root binds imports alike, where that is asked
  abbrev pub RootsAlike : Place → State → State → Type 0
  RootsAlike k st sw = is kind.Program k.node ≡ true → (not (source_type.is_typescript k.source_type) && source_type.is_module k.source_type) ≡ true → BoundAlike (roots st) (roots sw) 0 st.symbols

  module _ (no_word : is_rule_word z ≡ false) (plain_old : is_rule_word old ≡ false) (plain_new : is_rule_word new ≡ false) (source free : List ℕ) where
    old_words : KeepsRuleWords (instead z old)
    old_words = instead_keeps z old no_word plain_old

    new_words : KeepsRuleWords (instead z new)
    new_words = instead_keeps z new no_word plain_new

    -- one node
    module _ (st sw : State) (far : SoFar st sw) (c u k : Place) (alike_u : AlikeStep (instead z old) (remarked_step to_old.marks (leaving c)) (leaving u)) (spot_u : SpotStep to_old test (leaving c) (leaving u)) (alike_k : AlikeStep (instead z new) (remarked_step to_new.marks (leaving c)) (leaving k)) (spot_k : SpotStep to_new test (leaving c) (leaving k)) (bound : RootsAlike k st sw) where
      -- the state with the name that nothing else has, and what comes of it
      abbrev third : State
      third = record st { symbols = marked s z old new 0 st.symbols }

      abbrev fourth : State
      fourth = record st { symbols = map (renamed_symbol (instead z new)) (marked s z old new 0 st.symbols) }

      sight_c : Sight
      sight_c = sight_of source free third c

      sight_k : Sight
      sight_k = sight_of source free fourth k

      here : (test c.node ≡ true)
      here = and_first (test c.node) _ spot_u.0.1

      old_told : AreToldAgain (instead z old) (rows_of sight_c) (rows_of (sight_of source free st u))
      unfolding sight_c
      old_told =
          sights_told to_old old_words (sight_of source free third c) (sight_of source free st u)
          (plain_parts to_old old_words test (tells old) source free third c u spot_u)
          (seen_place to_old old_words test (tells old) source free third st c u (record { symbols = sym (old_marked s z old new 0 st.symbols far.bears); declared = refl; bound = refl }) alike_u spot_u)
          (keeps_parameters z old c.node (and_first (parts z old c.node) (parts z new c.node) (both_parts c.node here)))

      new_told : AreToldAgain (instead z new) (rows_of sight_c) (rows_of sight_k)
      unfolding sight_c sight_k
      new_told =
          sights_told to_new new_words (sight_of source free third c) (sight_of source free fourth k)
          (plain_parts to_new new_words test (tells new) source free third c k spot_k)
          (seen_place to_new new_words test (tells new) source free third fourth c k (record { symbols = refl; declared = refl; bound = refl }) alike_k spot_k)
          (keeps_parameters z new c.node (and_second (parts z old c.node) (parts z new c.node) (both_parts c.node here)))

      -- what the rules ask of the other state
      alike : (not (source_type.is_typescript k.source_type) && source_type.is_module k.source_type) ≡ true → BoundAlike (list_if (is kind.Program k.node) (roots st)) (list_if (is kind.Program k.node) (roots sw)) 0 fourth.symbols
      alike e = go (is kind.Program k.node) refl
        where
          go : (b : Bool) → is kind.Program k.node ≡ b → BoundAlike (list_if b (roots st)) (list_if b (roots sw)) 0 fourth.symbols
          go true p = alike_marked s z old new (instead z new) (roots st) (roots sw) 0 0 st.symbols (bound p e)
          go false p = none_alike 0 fourth.symbols

      same_sight : rows_of (sight_of source free sw k) ≡ rows_of sight_k
      unfolding sight_k
      same_sight =
          ap rows_of (λ i. record (sight_of source free sw k) { declared = sym far.declared i })
          ∙ rows_same (sight_of source free fourth k) fourth.symbols sw.symbols (list_if (is kind.Program k.node) (roots st)) (list_if (is kind.Program k.node) (roots sw))
          (new_marked s z old new 0 st.symbols sw.symbols far.bears far.follow) alike

      pub node_told : AreShort z (rows_of (sight_of source free st u)) → AreShort z (rows_of (sight_of source free sw k)) → AreToldAgain (renaming z old new) (rows_of (sight_of source free st u)) (rows_of (sight_of source free sw k))
      node_told a b =
          subst (AreToldAgain (renaming z old new) (rows_of (sight_of source free st u))) (sym same_sight)
          (told_through z old new (rows_of sight_c) (rows_of (sight_of source free st u)) (rows_of sight_k) a (subst (AreShort z) same_sight b) old_told new_told)

    -- one step
    pub step_told : (checks : Bool) (st sw : State) (c u k : Step) → SoFar st sw → AlikeStep (instead z old) (remarked_step to_old.marks c) u → SpotStep to_old test c u → AlikeStep (instead z new) (remarked_step to_new.marks c) k → SpotStep to_new test c k
        → ((x : Place) → k ≡ leaving x → RootsAlike x st sw) → AreShort z (rows_at checks source free st u) → AreShort z (rows_at checks source free sw k) → AreToldAgain (renaming z old new) (rows_at checks source free st u) (rows_at checks source free sw k)
    step_told false st sw c u k far a v b w bound m n = tt
    step_told true st sw (leaving c) (leaving u) (leaving k) far a v b w bound m n = node_told st sw far c u k a v b w (bound k refl) m n
    step_told true st sw (entering c) (entering u) (entering k) far a v b w bound m n = tt
    step_told true st sw (opening c x) (opening u y) (opening k t) far a v b w bound m n = tt
    step_told true st sw (header_ending c x) (header_ending u y) (header_ending k t) far a v b w bound m n = tt
    step_told true st sw (closing c x) (closing u y) (closing k t) far a v b w bound m n = tt
    step_told true st sw (leaving c) (leaving u) _ far a v b w bound m n = absurd b
    step_told true st sw (entering c) (entering u) _ far a v b w bound m n = absurd b
    step_told true st sw (opening c x) (opening u y) _ far a v b w bound m n = absurd b
    step_told true st sw (header_ending c x) (header_ending u y) _ far a v b w bound m n = absurd b
    step_told true st sw (closing c x) (closing u y) _ far a v b w bound m n = absurd b
    step_told true st sw _ _ _ far a v b w bound m n = absurd a
