-- The diagnostics of a program with other names are those of the program, told again.
use Rattle.std.proofs.Common.{◌≡◌, ℕ, List, [], ◌∷◌, ◌++◌, cond, if◌then◌else◌, Bool, true, false, ◌&&◌, refl, sym, ap, subst, ◌∙◌, map, length, drop}
use Rattle.std.specs.Prelude.{filter_map}
use Rattle.std.specs.List.{cons_option}
use Rattle.std.specs.Str.{encode_utf8_all}
use Rattle.std.proofs.lemmas.List.{length-map, drop-map}
use Rattle.semantic_syntax.specs.Tables.{Tables}
use Rattle.semantic_kinds.specs.Marks.{same_mark}
use Rattle.semantic_kinds.specs.Roles.{same_role}
use Rattle.semantic_kinds.specs.declared.kind.AstType.TheVariants as kind
use Rattle.semantic_kinds.specs.declared.role.Role.TheVariants as role
use Rattle.semantic_kinds.specs.declared.mark.Mark.{Mark}
use Rattle.semantic_kinds.specs.declared.mark.Mark.TheVariants as mark
use Rattle.semantic_tree.specs.Tree.{Tree}
use Rattle.semantic_tree.specs.Views.{is}
use Rattle.semantic_tree.specs.declared.node.Node.{Node}
use Rattle.semantic_model.specs.Declaration.{Declaration}
use Rattle.semantic_model.specs.Event.{takes_over, written_declarations, declared_at, taken_over, declares_all, events_of, events}
use Rattle.semantic_model.specs.Fold.{Conflict, State, start}
use Rattle.semantic_model.specs.Hoist.{run}
use Rattle.semantic_model.specs.Place.{Place, OpenScope, innermost}
use Rattle.semantic_model.specs.Reference.{references}
use Rattle.semantic_model.specs.Step.{Step, entering, opening, header_ending, closing, leaving, steps}
use Rattle.semantic_model.specs.TablesOf.{entry_of}
use Rattle.semantic_model.specs.Tie.{Tie, tied_symbol, ties}
use Rattle.semantic_model.proofs.swapped.AlikeBinder.{ren}
use Rattle.semantic_model.proofs.swapped.AlikeEvents.{renamed_event, written_same, of_step}
use Rattle.semantic_model.proofs.swapped.AlikeFold.{renamed_state, run_same}
use Rattle.semantic_model.proofs.swapped.AlikeProgram.{Keeps, program_steps}
use Rattle.semantic_model.proofs.swapped.AlikeSteps.{AlikeStep, AlikeSteps}
use Rattle.semantic_model.proofs.swapped.AlikeTies.{tables_renamed}
use Rattle.check_model.specs.DiagnosticsOf.{conflict_diagnostic, conflicts_since, rows_at, told_along, free_reference_nodes, diagnostics_of}
use Rattle.check_model.specs.SightOf.{free_by, free_nodes, sight_of}
use Rattle.program_laws.specs.ReadMarks.{is_read, KeepsRead}
use Rattle.program_laws.specs.Remarked.{remarked_tree}
use Rattle.program_laws.proofs.DeclarationMarks as marks
use Rattle.program_laws.proofs.ScopeMarks.{remarked_place}
use Rattle.program_laws.proofs.StepMarks.{remarked_step, remarked_steps, steps_same}
use Rattle.program_laws.proofs.TableMarks.{same_analysis}
use Rattle.swapped_checks.specs.RuleWords.{KeepsRuleWords}
use Rattle.swapped_checks.specs.SwappedPrograms.{holds_within}
use Rattle.swapped_checks.specs.SwappedRows.{AreToldAgain, redeclared_by_name}
use Rattle.swapped_checks.proofs.Pairwise.{told_append}
use Rattle.swapped_checks.proofs.Changed.{Change, changed_tree}
use Rattle.swapped_checks.proofs.SeenPlaces.{Tells, seen_state, plain_parts, seen_place}
use Rattle.swapped_checks.proofs.Spots.{SpotStep, Spots, program_spots}
use Rattle.swapped_checks.proofs.Told.{sights_told}

module _ (f : Change) (words : KeepsRuleWords f.names) (keeps : Keeps f.names) where
  -- the analysis of a program reads no mark `shorthand`
  reads : KeepsRead f.marks
  reads node m h = f.kept node m (other m h)
    where
      other : (taken : Mark) → is_read taken ≡ true → same_mark taken mark.Shorthand ≡ false
      other mark.Shorthand k = absurd cc
      other _ k = refl

  -- ---- events of a step

  -- other marks change none
  taken_marked : (p : Place) (s : OpenScope) → taken_over (remarked_place f.marks p) s ≡ taken_over p s
  taken_marked p s = ap (λ b. cond (is kind.BlockStatement p.node && same_role p.role role.Body && b) (takes_over (innermost p.chain).number s.number ∷ []) []) (marks.parent_kind f.marks kind.CatchClause p.path)

  step_marked : (ds : List Declaration) (s : Step) → events_of ds (remarked_step f.marks s) ≡ events_of ds s
  step_marked ds (entering p) = ap (declares_all ds) (marks.declared_same f.marks reads p.node.kind p)
  step_marked ds (opening p s) = λ i. taken_marked p s i ++ declares_all ds (marks.inside_same f.marks reads p.node.kind p s i)
  step_marked ds (header_ending p s) = refl
  step_marked ds (closing p s) = refl
  step_marked ds (leaving p) = refl

  declared_marked : (s : Step) → declared_at (remarked_step f.marks s) ≡ declared_at s
  declared_marked (entering p) = marks.declared_same f.marks reads p.node.kind p
  declared_marked (opening p s) = marks.inside_same f.marks reads p.node.kind p s
  declared_marked (header_ending p s) = refl
  declared_marked (closing p s) = refl
  declared_marked (leaving p) = refl

  written_marked : (ss : List Step) → written_declarations (remarked_steps f.marks ss) ≡ written_declarations ss
  written_marked [] = refl
  written_marked (s ∷ ss) = λ i. declared_marked s i ++ written_marked ss i

  -- ---- conflicts

  abbrev renamed_conflict : Conflict → Conflict
  renamed_conflict c = record c { name = f.names c.name }

  since_same : (before now : State) → conflicts_since (renamed_state f.names before) (renamed_state f.names now) ≡ map renamed_conflict (conflicts_since before now)
  since_same before now = ap (λ n. drop n (map renamed_conflict now.conflicts)) (length-map before.conflicts renamed_conflict) ∙ drop-map renamed_conflict (length before.conflicts) now.conflicts

  conflicts_told : (cs : List Conflict) → AreToldAgain f.names (map conflict_diagnostic cs) (map conflict_diagnostic (map renamed_conflict cs))
  conflicts_told [] = tt
  conflicts_told (c ∷ cs) = (redeclared_by_name c.name c.earlier c.later, conflicts_told cs)

  -- ---- free references

  free_entries : (ts : List Tie) → free_nodes ts ≡ filter_map (λ r. free_by r.symbol_id r.node_id) (map entry_of ts)
  free_entries [] = refl
  free_entries (t ∷ ts) = ap (cons_option (free_by (tied_symbol t) t.reference.node)) (free_entries ts)

  free_same : (p : Tree) → free_reference_nodes (steps (changed_tree f p)) ≡ free_reference_nodes (steps p)
  free_same p =
      free_entries (ties (run start (events (steps (changed_tree f p)))) (events (steps (changed_tree f p))) 0 (references (steps (changed_tree f p))))
      ∙ ap (λ (t : Tables). filter_map (λ r. free_by r.symbol_id r.node_id) t.references) (tables_renamed f.names keeps (remarked_tree f.marks p))
      ∙ ap (λ (t : Tables). filter_map (λ r. free_by r.symbol_id r.node_id) t.references) (same_analysis f.marks reads p).tables
      ∙ sym (free_entries (ties (run start (events (steps p))) (events (steps p)) 0 (references (steps p))))

  -- ---- along the steps

  module _ (test : Node → Bool) (tells : Tells f.names test) (source free : List ℕ) where
    step_told : (checks : Bool) (st : State) (x y : Step) → AlikeStep f.names (remarked_step f.marks x) y → SpotStep f test x y → AreToldAgain f.names (rows_at checks source free st x) (rows_at checks source free (renamed_state f.names st) y)
    step_told true st (leaving p) (leaving q) h w = sights_told f words (sight_of source free st p) (sight_of source free (renamed_state f.names st) q) (plain_parts f words test tells source free st p q w) (seen_place f words test tells source free st (renamed_state f.names st) p q (seen_state f words test tells st) h w) (λ e a b i j. keeps.equal a b)
    step_told true st (entering p) (entering q) h w = tt
    step_told true st (opening p s) (opening q t) h w = tt
    step_told true st (header_ending p s) (header_ending q t) h w = tt
    step_told true st (closing p s) (closing q t) h w = tt
    step_told true st _ _ h w = absurd h
    step_told false st x y h w = tt

    along : (checks : Bool) (ds : List Declaration) (st : State) (xs ys : List Step) → AlikeSteps f.names (remarked_steps f.marks xs) ys → Spots f test xs ys → AreToldAgain f.names (told_along checks source free ds st xs) (told_along checks source free (ren f.names ds) (renamed_state f.names st) ys)
    along checks ds st [] [] h w = tt
    along checks ds st [] (y ∷ ys) h w = absurd h
    along checks ds st (x ∷ xs) [] h w = absurd h
    along checks ds st (x ∷ xs) (y ∷ ys) h w =
        let now : State = run st (events_of ds x) in
        let then_now : State = run (renamed_state f.names st) (events_of (ren f.names ds) y) in
        let is : then_now ≡ renamed_state f.names now = ap (run (renamed_state f.names st)) (of_step f.names keeps ds (remarked_step f.marks x) y h.0 ∙ ap (map (renamed_event f.names)) (step_marked ds x)) ∙ run_same f.names keeps st (events_of ds x) in
        subst (λ z. AreToldAgain f.names (told_along checks source free ds st (x ∷ xs)) (map conflict_diagnostic (conflicts_since (renamed_state f.names st) z) ++ rows_at checks source free z y ++ told_along checks source free (ren f.names ds) z ys)) (sym is)
        (told_append f.names (map conflict_diagnostic (conflicts_since st now) ++ rows_at checks source free now x) (map conflict_diagnostic (conflicts_since (renamed_state f.names st) (renamed_state f.names now)) ++ rows_at checks source free (renamed_state f.names now) y) (told_along checks source free ds now xs) (told_along checks source free (ren f.names ds) (renamed_state f.names now) ys)
        (told_append f.names (map conflict_diagnostic (conflicts_since st now)) (map conflict_diagnostic (conflicts_since (renamed_state f.names st) (renamed_state f.names now))) (rows_at checks source free now x) (rows_at checks source free (renamed_state f.names now) y)
        (subst (λ cs. AreToldAgain f.names (map conflict_diagnostic (conflicts_since st now)) (map conflict_diagnostic cs)) (sym (since_same st now)) (conflicts_told (conflicts_since st now)))
        (step_told checks now x y h.0 w.0))
        (along checks ds now xs ys h.1 w.1))

  pub program_told : (test : Node → Bool) → Tells f.names test → (checks : Bool) (p : Tree) → holds_within test p.root ≡ true → AreToldAgain f.names (diagnostics_of checks p) (diagnostics_of checks (changed_tree f p))
  program_told test tells checks p plain_tree =
      let walk : List Step = steps p in
      let walk' : List Step = steps (changed_tree f p) in
      let source : List ℕ = encode_utf8_all p.source in
      let alike : AlikeSteps f.names (steps (remarked_tree f.marks p)) walk' = program_steps f.names (remarked_tree f.marks p) in
      let unmarked : AlikeSteps f.names (remarked_steps f.marks walk) walk' = subst (λ ss. AlikeSteps f.names ss walk') (steps_same f.marks reads p) alike in
      let written : written_declarations walk' ≡ ren f.names (written_declarations walk) =
      written_same f.names keeps (steps (remarked_tree f.marks p)) walk' alike ∙ ap (ren f.names) (ap written_declarations (steps_same f.marks reads p) ∙ written_marked walk) in
      subst (λ free. AreToldAgain f.names (diagnostics_of checks p) (told_along checks source free (written_declarations walk') start walk')) (sym (free_same p))
      (subst (λ ds. AreToldAgain f.names (diagnostics_of checks p) (told_along checks source (free_reference_nodes walk) ds start walk')) (sym written)
      (along test tells source (free_reference_nodes walk) checks (written_declarations walk) start walk walk' unmarked (program_spots f test p plain_tree)))
