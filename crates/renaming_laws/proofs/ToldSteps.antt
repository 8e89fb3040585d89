-- What is told along the steps of a renamed program.
use Rattle.std.proofs.Common.{◌≡◌, ℕ, zero, suc, ◌<◌, ◌==◌, List, [], ◌∷◌, ◌++◌, Bool, true, false, not, ◌&&◌, cond, Some, None, Ok, inl, inr, ◌⊎◌, refl, sym, ap, subst, subst₂, ◌∙◌, map, flat_map, length, drop, take, bytes_eq, arith}
use Rattle.std.specs.Prelude.{slice_get}
use Rattle.std.proofs.lemmas.Bool.{eqb-true}
use Rattle.std.proofs.lemmas.Bool.Decides.{eqb_tells}
use Rattle.std.proofs.lemmas.List.{append_assoc, append-nil}
use Rattle.semantic_syntax.specs.SourceTypes as source_type
use Rattle.semantic_syntax.specs.Tables.{Name, Symbol}
use Rattle.semantic_tree.specs.Faults.{first_fault}
use Rattle.semantic_tree.specs.Tree.{Tree, IsNumbered}
use Rattle.semantic_diagnostics.specs.declared.diagnostic.Diagnostic.{Diagnostic}
use Rattle.semantic_diagnostics.specs.Names.{redeclaration}
use Rattle.semantic_model.specs.Analysis.{analysis_of}
use Rattle.semantic_model.specs.Declaration.{Declaration}
use Rattle.semantic_model.specs.Entries.{Among}
use Rattle.semantic_model.specs.Event.{Event, events_of, events, written_declarations}
use Rattle.semantic_model.specs.Exported.{exported_names}
use Rattle.semantic_model.specs.Fold.{Conflict, Made, State, start}
use Rattle.semantic_model.specs.Hoist.{run}
use Rattle.semantic_model.specs.NamespaceStates.{namespace_states}
use Rattle.semantic_model.specs.Place.{Place}
use Rattle.semantic_model.specs.Step.{Step, leaving, steps}
use Rattle.semantic_model.specs.TablesOf.{tables_of, made_of}
use Rattle.semantic_model.proofs.fold.Orders.{table_of}
use Rattle.semantic_model.proofs.form.Shape.{has_form}
use Rattle.semantic_model.proofs.steps.Compose.{run-append}
use Rattle.semantic_model.proofs.swapped.AlikeSteps.{AlikeSteps}
use Rattle.check_model.specs.DiagnosticsOf.{conflict_diagnostic, conflicts_since, rows_at, told_along}
use Rattle.program_laws.specs.SameAnalysis.{HaveSameAnalysis}
use Rattle.program_laws.specs.SymbolNames.{IsNamed}
use Rattle.program_laws.proofs.StepMarks.{remarked_steps}
use Rattle.program_laws.proofs.TableMarks.{same_unmarked}
use Rattle.program_laws.proofs.TiedNames.{declarations_have_names}
use Rattle.rename_model.specs.Refusal.{first_fixed, rename}
use Rattle.rename_model.specs.Renamed.{bears_name}
use Rattle.rename_model.specs.Same.{Same}
use Rattle.semantic_kinds.specs.declared.mark.Mark.TheVariants as mark
use Rattle.rename_model.specs.WithName.{sheds}
use Rattle.rename_model.proofs.Completeness.{no_fault_renamed}
use Rattle.rename_model.proofs.Refusals.{ends_renamed, none_means_free}
use Rattle.swapped_checks.specs.RuleWords.{is_rule_word}
use Rattle.swapped_checks.specs.SwappedRows.{IsToldAgain, told_the_same, redeclared_by_name, AreToldAgain}
use Rattle.swapped_checks.proofs.Pairwise.{told_append}
use Rattle.swapped_checks.proofs.Spots.{Spots}
use Rattle.renaming_laws.specs.InBlocks.{ShareFlags}
use Rattle.renaming_laws.specs.KeptConflicts.{IsRenamedConflict, AreRenamedConflicts}
use Rattle.renaming_laws.specs.KeptSoFar.{KeepsSoFar}
use Rattle.renaming_laws.specs.NewNames.{instead}
use Rattle.renaming_laws.proofs.FreshNames.{taken, shorter_differs}
use Rattle.renaming_laws.proofs.KeptConflicts.{q, unmarked, walked, same_made, now_named, own_name, chosen_is, are_twins, told}
use Rattle.renaming_laws.proofs.KeptErrors.{to_old, to_new, test, roots, SoFar, RootsAlike, step_told}
use Rattle.renaming_laws.proofs.KeptSymbols.{named_once}
use Rattle.renaming_laws.proofs.LastStep.{program_is_last}
use Rattle.renaming_laws.proofs.MarkedSymbols.{bears_from, follow_from}
use Rattle.renaming_laws.proofs.SameConflicts.{AllTwinned, AreTwins, same_conflicts, same_looks}
use Rattle.renaming_laws.proofs.SeenSymbols.{BoundAlike}
use Rattle.renaming_laws.proofs.ToldThrough.{AreShort, short_first, short_rest}
use Rattle.renaming_laws.proofs.TwinStates.{stopped, same_declared, Declares, declares_it, among_later}
use Rattle.renaming_laws.proofs.Twins.{nameless, TwinSteps, TwinEvents, twins_append, step_twins, first_states}

-- ---- conflicts

module _ (p : Tree) (s : ℕ) (new : Name) where
  length_renamed : (cs es : List Conflict) → AreRenamedConflicts p s new cs es → length cs ≡ length es
  length_renamed [] [] h = refl
  length_renamed [] (e ∷ es) h = absurd h
  length_renamed (c ∷ cs) [] h = absurd h
  length_renamed (c ∷ cs) (e ∷ es) h = ap suc (length_renamed cs es h.1)

  drop_renamed : (n : ℕ) (cs es : List Conflict) → AreRenamedConflicts p s new cs es → AreRenamedConflicts p s new (drop n cs) (drop n es)
  drop_renamed zero cs es h = h
  drop_renamed (suc n) [] [] h = tt
  drop_renamed (suc n) [] (e ∷ es) h = absurd h
  drop_renamed (suc n) (c ∷ cs) [] h = absurd h
  drop_renamed (suc n) (c ∷ cs) (e ∷ es) h = drop_renamed n cs es h.1

  since_renamed : (st st' sw sw' : State) → AreRenamedConflicts p s new st.conflicts sw.conflicts → AreRenamedConflicts p s new st'.conflicts sw'.conflicts → AreRenamedConflicts p s new (conflicts_since st st') (conflicts_since sw sw')
  since_renamed st st' sw sw' h k =
      subst (λ n. AreRenamedConflicts p s new (conflicts_since st st') (drop n sw'.conflicts)) (length_renamed st.conflicts sw.conflicts h)
      (drop_renamed (length st.conflicts) st'.conflicts sw'.conflicts k)

module _ (p : Tree) (faultless : first_fault p ≡ None) (numbered : IsNumbered p.root) (s : ℕ) (y : Symbol) (there : slice_get (tables_of p).symbols s ≡ Some y) (new : Name) where
  abbrev U : Tree
  U = unmarked p faultless numbered s y there new

  abbrev Q : Tree
  Q = q p faultless numbered s y there new

  -- a declaration of the symbol has its name
  symbol_name : (m : Made) → Among m (made_of p) → m.symbol ≡ s → m.declaration.naming.name ≡ y.name
  symbol_name m a i = sym (named_once p s y m.declaration.naming.name there (subst (λ t. IsNamed (tables_of p) t m.declaration.naming.name) i (declarations_have_names p (has_form p faultless) m a)))

  conflict_told : (c e : Conflict) → IsRenamedConflict p s new c e → IsToldAgain (instead y.name new) (conflict_diagnostic c) (conflict_diagnostic e)
  conflict_told c e w = subst (λ (x : Conflict). IsToldAgain (instead y.name new) (conflict_diagnostic c) (conflict_diagnostic x)) (sym w.is) (go (eqb_tells w.made.symbol s))
    where
      go : (((w.made.symbol == s) ≡ true) × (w.made.symbol ≡ s)) ⊎ (((w.made.symbol == s) ≡ false) × (w.made.symbol ≡ s → ⊥)) → IsToldAgain (instead y.name new) (conflict_diagnostic c) (redeclaration (cond (w.made.symbol == s) new c.name) c.earlier c.later)
      go (inr k) = subst (λ b. IsToldAgain (instead y.name new) (conflict_diagnostic c) (redeclaration (cond b new c.name) c.earlier c.later)) (sym k.0) (told_the_same (conflict_diagnostic c))
      go (inl k) =
          let its : c.name ≡ y.name = w.named ∙ symbol_name w.made w.among k.1 in
          subst (λ b. IsToldAgain (instead y.name new) (conflict_diagnostic c) (redeclaration (cond b new c.name) c.earlier c.later)) (sym k.0)
          (subst₂ (λ a b. IsToldAgain (instead y.name new) (redeclaration a c.earlier c.later) (redeclaration b c.earlier c.later)) (sym its) (taken y.name new) (redeclared_by_name y.name c.earlier c.later))

  conflicts_told : (cs es : List Conflict) → AreRenamedConflicts p s new cs es → AreToldAgain (instead y.name new) (map conflict_diagnostic cs) (map conflict_diagnostic es)
  conflicts_told [] [] h = tt
  conflicts_told [] (e ∷ es) h = absurd h
  conflicts_told (c ∷ cs) [] h = absurd h
  conflicts_told (c ∷ cs) (e ∷ es) h = (conflict_told c e h.0, conflicts_told cs es h.1)

  module _ (free : first_fixed (exported_names (steps p)) (bears_name (analysis_of p) s) (steps p) ≡ None) (faultless' : first_fault Q ≡ None) (same : Same p Q) (states : namespace_states (steps Q) ≡ namespace_states (steps p)) (share : ShareFlags (made_of p)) (others : ShareFlags (made_of Q)) where
    abbrev now : Made → Name
    now = now_named p faultless numbered s y there new free

    abbrev own : Made → Name
    own = own_name p faultless numbered s y there new free

    made_same : events (steps U) ≡ events (steps p)
    made_same = same_made p faultless numbered s y there new free

    whole : AreTwins (events (steps U)) (events (steps Q)) now own (table_of p) (table_of Q)
    whole = subst (λ es. AreTwins es (events (steps Q)) now own (table_of p) (table_of Q)) (sym made_same) (are_twins p faultless numbered s y there new free faultless' same states share others)

    -- events that stop
    module _ (es more fs rest : List Event) (e : es ++ more ≡ events (steps U)) (f : fs ++ rest ≡ events (steps Q)) (t : TwinEvents es fs) where
      so_twinned : AreTwins es fs now own (table_of p) (table_of Q)
      so_twinned = stopped now own (table_of p) (table_of Q) es more fs rest t (subst₂ (λ a b. AreTwins a b now own (table_of p) (table_of Q)) (sym e) (sym f) whole)

      -- what is made by then is made in the end
      in_the_program : (m : Made) → Among m (run start es).made → Among m (made_of p)
      in_the_program m a = subst (λ xs. Among m (run start xs).made) (e ∙ made_same) (among_later es more m a)

      widened : (cs ds : List Conflict) → AllTwinned (run start es).made (run start fs).made now own cs ds → AreRenamedConflicts p s new cs ds
      widened [] [] h = tt
      widened [] (d ∷ ds) h = absurd h
      widened (c ∷ cs) [] h = absurd h
      widened (c ∷ cs) (d ∷ ds) h = (
        told p faultless numbered s y there new free c d (record { made = h.0.made; other = h.0.other; among = in_the_program h.0.made h.0.among; symbol = h.0.symbol; told = h.0.told; name = h.0.name; other_name = h.0.other_name; earlier = h.0.earlier; later = h.0.later; placed = h.0.placed }),
        widened cs ds h.1,
      )

      conflicts_so_far : AreRenamedConflicts p s new (run start es).conflicts (run start fs).conflicts
      conflicts_so_far = widened (run start es).conflicts (run start fs).conflicts (same_conflicts es fs now own (table_of p) (table_of Q) so_twinned)

      declaration_of : (r : ℕ) (a : Symbol) → slice_get (run start es).symbols r ≡ Some a → Declares now own (table_of p) (table_of Q) es fs so_twinned r a
      declaration_of r a g = declares_it now own (table_of p) (table_of Q) es fs so_twinned (λ m c. refl) r a g

      name_so_far : (r : ℕ) (a b : Symbol) → slice_get (run start es).symbols r ≡ Some a → slice_get (run start fs).symbols r ≡ Some b → b.name ≡ cond (r == s) new a.name
      name_so_far r a b g h =
          let w : Declares now own (table_of p) (table_of Q) es fs so_twinned r a = declaration_of r a g in
          w.told b h ∙ ap (λ c. cond c new w.made.declaration.naming.name) (chosen_is p faultless numbered s y there new free w.made (in_the_program w.made w.among) ∙ ap (λ n. n == s) w.symbol) ∙ ap (cond (r == s) new) (sym w.named)

      so_far : (z : Name) → ((m : Made) → Among m (made_of p) → length m.declaration.naming.name < length z) → SoFar s (bears_name (analysis_of p) s) z y.name new (run start es) (run start fs)
      so_far z short = record {
        declared = same_declared now own (table_of p) (table_of Q) es fs so_twinned;
        bears = bears_from s z y.name new 0 (run start es).symbols (λ r k a i g.
            let w : Declares now own (table_of p) (table_of Q) es fs so_twinned k a = declaration_of k a g in (
              λ h. w.named ∙ symbol_name w.made (in_the_program w.made w.among) (w.symbol ∙ omega (arith, i, eqb-true r s h)),
              ap (λ x. bytes_eq x z) w.named ∙ shorter_differs w.made.declaration.naming.name z (short w.made (in_the_program w.made w.among)),
            ));
        follow = follow_from s z y.name new 0 (run start es).symbols (run start fs).symbols (same_looks es fs now own (table_of p) (table_of Q) so_twinned) (λ r k a b i g h.
            let at : k ≡ r = omega (arith, i) in
            name_so_far r a b (ap (slice_get (run start es).symbols) (sym at) ∙ g) (ap (slice_get (run start fs).symbols) (sym at) ∙ h));
      }

    -- wherever the events stop
    split : (n : ℕ) (es : List Event) → take n es ++ drop n es ≡ es
    split zero es = refl
    split (suc n) [] = refl
    split (suc n) (e ∷ es) = ap (λ l. e ∷ l) (split n es)

    taken_twins : (n : ℕ) (es fs : List Event) → TwinEvents es fs → TwinEvents (take n es) (take n fs)
    taken_twins zero es fs t = tt
    taken_twins (suc n) [] [] t = tt
    taken_twins (suc n) [] (f ∷ fs) t = absurd t
    taken_twins (suc n) (e ∷ es) [] t = absurd t
    taken_twins (suc n) (e ∷ es) (f ∷ fs) t = (t.0, taken_twins n es fs t.1)

    pub kept_so_far : (n : ℕ) → KeepsSoFar p Q s new n
    kept_so_far n =
        let old : List Event = take n (events (steps p)) in
        let fresh : List Event = take n (events (steps Q)) in
        let t : TwinEvents old fresh = taken_twins n (events (steps p)) (events (steps Q)) (subst (λ es. TwinEvents es (events (steps Q))) made_same whole.twins) in
        let e : old ++ drop n (events (steps p)) ≡ events (steps U) = split n (events (steps p)) ∙ sym made_same in
        let f : fresh ++ drop n (events (steps Q)) ≡ events (steps Q) = split n (events (steps Q)) in
        let w : AreTwins old fresh now own (table_of p) (table_of Q) = so_twinned old (drop n (events (steps p))) fresh (drop n (events (steps Q))) e f t in
        record {
          symbols = sym (same_looks old fresh now own (table_of p) (table_of Q) w);
          names = name_so_far old (drop n (events (steps p))) fresh (drop n (events (steps Q))) e f t;
          declared = sym (same_declared now own (table_of p) (table_of Q) old fresh w);
          conflicts = conflicts_so_far old (drop n (events (steps p))) fresh (drop n (events (steps Q))) e f t;
        }

    -- ---- along the steps

    module _ (z : Name) (no_word : is_rule_word z ≡ false) (plain_old : is_rule_word y.name ≡ false) (plain_new : is_rule_word new ≡ false) (short : (m : Made) → Among m (made_of p) → length m.declaration.naming.name < length z)
        (imports : (not (source_type.is_typescript p.source_type) && source_type.is_module p.source_type) ≡ true → BoundAlike (roots (run start (events (steps p)))) (roots (run start (events (steps Q)))) 0 (run start (events (steps p))).symbols)
        (checks : Bool) (source nodes : List ℕ) where
      abbrev chosen : ℕ → Bool
      chosen = bears_name (analysis_of p) s

      abbrev old_declared : List Declaration
      old_declared = written_declarations (steps U)

      abbrev new_declared : List Declaration
      new_declared = written_declarations (steps Q)

      none_left : (us : List Step) → TwinSteps nameless us [] → us ≡ []
      none_left [] h = refl
      none_left (u ∷ us) h = absurd h

      -- on leaving the program all is made
      roots_alike : (es fs : List Event) (us ks before : List Step) (x : Place) → es ++ flat_map (events_of old_declared) us ≡ events (steps U) → fs ++ flat_map (events_of new_declared) ks ≡ events (steps Q) → TwinSteps nameless us ks → before ++ leaving x ∷ ks ≡ steps Q → RootsAlike s chosen z y.name new x (run start es) (run start fs)
      roots_alike es fs us ks before x e f w b program asked =
          let (last, root) = program_is_last Q faultless' before ks x b program in
          let first : us ≡ [] = none_left us (subst (TwinSteps nameless us) last w) in
          let all : es ≡ events (steps p) = sym (append-nil es) ∙ ap (λ vs. es ++ flat_map (events_of old_declared) vs) (sym first) ∙ e ∙ made_same in
          let all_too : fs ≡ events (steps Q) = sym (append-nil fs) ∙ ap (λ vs. fs ++ flat_map (events_of new_declared) vs) (sym last) ∙ f in
          subst₂ (λ a c. BoundAlike (roots (run start a)) (roots (run start c)) 0 (run start a).symbols) (sym all) (sym all_too)
          (imports (subst (λ (o : Place). (not (source_type.is_typescript o.source_type) && source_type.is_module o.source_type) ≡ true) root asked))

      along : (es fs : List Event) (st sw : State) → st ≡ run start es → sw ≡ run start fs → TwinEvents es fs → (before cs us ks : List Step) → before ++ ks ≡ steps Q
          → es ++ flat_map (events_of old_declared) us ≡ events (steps U) → fs ++ flat_map (events_of new_declared) ks ≡ events (steps Q)
          → TwinSteps nameless us ks → namespace_states us ≡ namespace_states ks
          → AlikeSteps (instead z y.name) (remarked_steps (to_old s chosen z y.name new).marks cs) us → Spots (to_old s chosen z y.name new) (test s chosen z y.name new) cs us
          → AlikeSteps (instead z new) (remarked_steps (to_new s chosen z y.name new).marks cs) ks → Spots (to_new s chosen z y.name new) (test s chosen z y.name new) cs ks
          → AreShort z (told_along checks source nodes old_declared st us) → AreShort z (told_along checks source nodes new_declared sw ks)
          → AreToldAgain (instead y.name new) (told_along checks source nodes old_declared st us) (told_along checks source nodes new_declared sw ks)
      along es fs st sw i j t before cs [] [] b e f w n a v c x g h = tt
      along es fs st sw i j t before cs [] (k ∷ ks) b e f w n a v c x g h = absurd w
      along es fs st sw i j t before cs (u ∷ us) [] b e f w n a v c x g h = absurd w
      along es fs st sw i j t before [] (u ∷ us) (k ∷ ks) b e f w n a v c x g h = absurd a
      along es fs st sw i j t before (o ∷ cs) (u ∷ us) (k ∷ ks) b e f w n a v c x g h =
          let (here, later) = first_states u k us ks w.0 n in
          let made : List Event = events_of old_declared u in
          let made_too : List Event = events_of new_declared k in
          let more : List Event = flat_map (events_of old_declared) us in
          let more_too : List Event = flat_map (events_of new_declared) ks in
          let t' : TwinEvents (es ++ made) (fs ++ made_too) = twins_append es fs made made_too t (step_twins old_declared new_declared u k w.0 here) in
          let e' : (es ++ made) ++ more ≡ events (steps U) = append_assoc es made more ∙ e in
          let f' : (fs ++ made_too) ++ more_too ≡ events (steps Q) = append_assoc fs made_too more_too ∙ f in
          let b' : (before ++ k ∷ []) ++ ks ≡ steps Q = append_assoc before (k ∷ []) ks ∙ b in
          let i' : run st made ≡ run start (es ++ made) = ap (λ r. run r made) i ∙ sym (run-append es made start) in
          let j' : run sw made_too ≡ run start (fs ++ made_too) = ap (λ r. run r made_too) j ∙ sym (run-append fs made_too start) in
          let before_told : AreRenamedConflicts p s new st.conflicts sw.conflicts =
          subst₂ (λ l r. AreRenamedConflicts p s new l.conflicts r.conflicts) (sym i) (sym j) (conflicts_so_far es (made ++ more) fs (made_too ++ more_too) e f t) in
          let after_told : AreRenamedConflicts p s new (run st made).conflicts (run sw made_too).conflicts =
          subst₂ (λ l r. AreRenamedConflicts p s new l.conflicts r.conflicts) (sym i') (sym j') (conflicts_so_far (es ++ made) more (fs ++ made_too) more_too e' f' t') in
          let far : SoFar s chosen z y.name new (run st made) (run sw made_too) =
          subst₂ (SoFar s chosen z y.name new) (sym i') (sym j') (so_far (es ++ made) more (fs ++ made_too) more_too e' f' t' z short) in
          let old_conflicts : List Diagnostic = map conflict_diagnostic (conflicts_since st (run st made)) in
          let new_conflicts : List Diagnostic = map conflict_diagnostic (conflicts_since sw (run sw made_too)) in
          let old_rows : List Diagnostic = rows_at checks source nodes (run st made) u in
          let new_rows : List Diagnostic = rows_at checks source nodes (run sw made_too) k in
          let old_later : List Diagnostic = told_along checks source nodes old_declared (run st made) us in
          let new_later : List Diagnostic = told_along checks source nodes new_declared (run sw made_too) ks in
          told_append (instead y.name new) (old_conflicts ++ old_rows) (new_conflicts ++ new_rows) old_later new_later
          (told_append (instead y.name new) old_conflicts new_conflicts old_rows new_rows
          (conflicts_told (conflicts_since st (run st made)) (conflicts_since sw (run sw made_too)) (since_renamed p s new st (run st made) sw (run sw made_too) before_told after_told))
          (step_told s chosen z y.name new no_word plain_old plain_new source nodes checks (run st made) (run sw made_too) o u k far a.0 v.0 c.0 x.0
          (λ place is. subst₂ (RootsAlike s chosen z y.name new place) (sym i') (sym j') (roots_alike (es ++ made) (fs ++ made_too) us ks before place e' f' w.1 (ap (λ l. before ++ l ∷ ks) (sym is) ∙ b)))
          (short_rest z old_conflicts old_rows (short_first z (old_conflicts ++ old_rows) old_later g)) (short_rest z new_conflicts new_rows (short_first z (new_conflicts ++ new_rows) new_later h))))
          (along (es ++ made) (fs ++ made_too) (run st made) (run sw made_too) i' j' t' (before ++ k ∷ []) cs us ks b' e' f' w.1 later a.1 v.1 c.1 x.1
          (short_rest z (old_conflicts ++ old_rows) old_later g) (short_rest z (new_conflicts ++ new_rows) new_later h))

      -- from the beginning
      pub all_along : (cs : List Step) → AlikeSteps (instead z y.name) (remarked_steps (to_old s chosen z y.name new).marks cs) (steps U) → Spots (to_old s chosen z y.name new) (test s chosen z y.name new) cs (steps U)
          → AlikeSteps (instead z new) (remarked_steps (to_new s chosen z y.name new).marks cs) (steps Q) → Spots (to_new s chosen z y.name new) (test s chosen z y.name new) cs (steps Q)
          → AreShort z (told_along checks source nodes old_declared start (steps U)) → AreShort z (told_along checks source nodes new_declared start (steps Q))
          → AreToldAgain (instead y.name new) (told_along checks source nodes old_declared start (steps U)) (told_along checks source nodes new_declared start (steps Q))
      all_along cs a v c x g h =
          let marks : HaveSameAnalysis U p = same_unmarked (sheds chosen) mark.Shorthand p refl in
          along [] [] start start refl refl tt [] cs (steps U) (steps Q) refl refl refl (walked p faultless numbered s y there new free) (marks.states ∙ sym states) a v c x g h

module _ (p : Tree) (faultless : first_fault p ≡ None) (numbered : IsNumbered p.root) (s : ℕ) (y : Symbol) (there : slice_get (tables_of p).symbols s ≡ Some y) (new : Name) where
  pub so_far_kept : (r : Tree) (n : ℕ) → rename p s new ≡ Ok r → namespace_states (steps r) ≡ namespace_states (steps p) → ShareFlags (made_of p) → ShareFlags (made_of r) → KeepsSoFar p r s new n
  so_far_kept r n h e share others =
      let (bad, none, same, is) = ends_renamed p s new r h in
      let free : first_fixed (exported_names (steps p)) (bears_name (analysis_of p) s) (steps p) ≡ None = none_means_free p s none in
      let formed : first_fault (Q p faultless numbered s y there new) ≡ None = (no_fault_renamed p faultless numbered s y there new bad free).0 in
      subst (λ t. KeepsSoFar p t s new n) (sym is)
      (kept_so_far p faultless numbered s y there new free formed (subst (Same p) is same) (subst (λ t. namespace_states (steps t) ≡ namespace_states (steps p)) is e) share (subst (λ t. ShareFlags (made_of t)) is others) n)
