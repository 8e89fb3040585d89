-- A renamed program has the diagnostics of the program, with the new name for the old one.
use Rattle.std.proofs.Common.{◌≡◌, ℕ, ◌<◌, List, [], ◌∷◌, ◌++◌, Bool, true, false, not, ◌&&◌, ◌||◌, Some, None, Ok, inl, inr, refl, sym, ap, subst, ◌∙◌, map, length, bytes_eq, codes, arith}
use Rattle.std.specs.Prelude.{slice_get}
use Rattle.std.specs.Str.{encode_utf8_all}
use Rattle.std.proofs.lemmas.Bool.{and_from}
use Rattle.semantic_syntax.proofs.Truth.{and_second}
use Rattle.semantic_syntax.specs.SourceTypes as source_type
use Rattle.semantic_syntax.specs.Tables.{Name, Symbol}
use Rattle.semantic_kinds.specs.declared.kind.AstType.TheVariants as kind
use Rattle.semantic_kinds.specs.declared.mark.Mark.TheVariants as mark
use Rattle.semantic_kinds.specs.declared.marks.Marks.{Marks}
use Rattle.semantic_tree.specs.Faults.{first_fault}
use Rattle.semantic_tree.specs.Renamed.{renamed_tree}
use Rattle.semantic_tree.specs.Tree.{Tree, IsNumbered}
use Rattle.semantic_tree.specs.declared.node.Node.{Node}
use Rattle.semantic_diagnostics.specs.declared.diagnostic.Diagnostic.{Diagnostic}
use Rattle.semantic_model.specs.Analysis.{analysis_of}
use Rattle.semantic_model.specs.Entries.{Among}
use Rattle.semantic_model.specs.Event.{events, written_declarations}
use Rattle.semantic_model.specs.Exported.{exported_names}
use Rattle.semantic_model.specs.Fold.{Made, start}
use Rattle.semantic_model.specs.Hoist.{run}
use Rattle.semantic_model.specs.NamespaceStates.{namespace_states}
use Rattle.semantic_model.specs.Reference.{Occurrence, references}
use Rattle.semantic_model.specs.Step.{steps}
use Rattle.semantic_model.specs.Swap.{renamed_occurrence}
use Rattle.semantic_model.specs.TablesOf.{tables_of, made_of}
use Rattle.semantic_model.proofs.fold.Orders.{HasForm}
use Rattle.semantic_model.proofs.form.Shape.{has_form}
use Rattle.semantic_model.proofs.lists.Members.{among_left, among_right}
use Rattle.semantic_model.proofs.swapped.AlikeProgram.{program_steps, references_renamed}
use Rattle.semantic_model.proofs.swapped.AlikeSteps.{AlikeSteps}
use Rattle.check_model.specs.DiagnosticsOf.{told_along, free_reference_nodes, diagnostics_of}
use Rattle.program_laws.specs.SameAnalysis.{HaveSameAnalysis}
use Rattle.program_laws.proofs.EventMarks.{references_same}
use Rattle.program_laws.proofs.StepMarks.{remarked_steps, steps_same}
use Rattle.program_laws.proofs.TableMarks.{same_unmarked}
use Rattle.program_laws.proofs.TreeNodes.{nodes_below}
use Rattle.rename_model.specs.Refusal.{is_bad_name, first_fixed, rename}
use Rattle.rename_model.specs.Renamed.{bears_name, program_renamed}
use Rattle.rename_model.specs.Same.{Same}
use Rattle.rename_model.specs.WithName.{sheds}
use Rattle.rename_model.proofs.AloneNames.{are_identifiers}
use Rattle.rename_model.proofs.Completeness.{no_fault_renamed}
use Rattle.rename_model.proofs.Refusals.{ends_renamed, none_means_free}
use Rattle.swapped_checks.specs.RuleWords.{rule_words, is_rule_word}
use Rattle.swapped_checks.specs.SwappedPrograms.{holds_below, holds_within}
use Rattle.swapped_checks.specs.SwappedRows.{AreToldAgain}
use Rattle.swapped_checks.proofs.PlainForm.{formed_and}
use Rattle.swapped_checks.proofs.Spots.{Spots, program_spots}
use Rattle.swapped_checks.proofs.SwappedTold.{writes_out, written_marks, none, none_written, change_by, written_same}
use Rattle.swapped_checks.proofs.Told.{other_way}
use Rattle.renaming_laws.specs.InBlocks.{ShareFlags}
use Rattle.renaming_laws.specs.KeptSignatures.{keeps_signature}
use Rattle.renaming_laws.specs.LeavesRules.{LeavesRules}
use Rattle.renaming_laws.specs.NewNames.{instead}
use Rattle.renaming_laws.proofs.BoundImports.{imports_kept}
use Rattle.renaming_laws.proofs.FreeReferences.{free_in, free_by_tables, free_alike}
use Rattle.renaming_laws.proofs.FreshNames.{fresh, longer, shorter_differs, longer_is_no_word}
use Rattle.renaming_laws.proofs.KeptConflicts.{q, shed, unmarked, in_common, keeps_read}
use Rattle.renaming_laws.proofs.KeptErrors.{roots, test}
use Rattle.renaming_laws.proofs.MarkedSymbol.{AreApart, apart_below, becomes, old_comes_back}
use Rattle.renaming_laws.proofs.MarkedTests.{is_marked, marked_below}
use Rattle.renaming_laws.proofs.RootImports.{KeepsImports, roots_alike}
use Rattle.renaming_laws.proofs.SeenSymbols.{BoundAlike}
use Rattle.renaming_laws.proofs.ToldSteps.{all_along}
use Rattle.renaming_laws.proofs.ToldThrough.{AreShort}
use Rattle.renaming_laws.proofs.Twins.{nameless}

told_among : {A : Type 0} → (g : A → Name) (xs : List A) (x : A) → Among x xs → Among (g x) (map g xs)
told_among g [] x a = absurd a
told_among g (y ∷ ys) x (inl e) = inl (ap g e)
told_among g (y ∷ ys) x (inr a) = inr (told_among g ys x a)

short_rows : (z : Name) (rows : List Diagnostic) → ((m : Name) → Among m (map (λ r. r.message) rows) → length m < length z) → AreShort z rows
short_rows z [] h = tt
short_rows z (r ∷ rows) h = (h r.message (inl refl), short_rows z rows (λ m a. h m (inr a)))

-- a program is marked
root_marked : (chosen : ℕ → Bool) (z old new : Name) (n : Node) → n.kind ≡ kind.Program → is_marked chosen z old new n ≡ true
root_marked chosen z old new n e = ap (is_marked chosen z old new) (λ i. record n { kind = e i })

same_referrers : (rs : List Occurrence) → map (λ (r : Occurrence). r.node) (map (renamed_occurrence nameless) rs) ≡ map (λ (r : Occurrence). r.node) rs
same_referrers [] = refl
same_referrers (r ∷ rs) = ap (λ l. r.node ∷ l) (same_referrers rs)

-- a program with a name in the place of another is walked alike
module _ (p t : Tree) (z w : Name) (becomes_it : renamed_tree (instead z w) p ≡ t) where
  same_walk : steps p ≡ remarked_steps (written_marks none) (steps p)
  same_walk = ap steps (sym (none_written p)) ∙ steps_same (written_marks none) (keeps_read (writes_out none)) p

  walked_alike : AlikeSteps (instead z w) (remarked_steps (change_by (instead z w) none).marks (steps p)) (steps t)
  walked_alike =
      subst (λ x. AlikeSteps (instead z w) (remarked_steps (written_marks none) (steps p)) (steps x)) becomes_it
      (subst (λ ss. AlikeSteps (instead z w) ss (steps (renamed_tree (instead z w) p))) same_walk (program_steps (instead z w) p))

  walked_spots : (passes : Node → Bool) → holds_within passes p.root ≡ true → Spots (change_by (instead z w) none) passes (steps p) (steps t)
  walked_spots passes h =
      subst (λ x. Spots (change_by (instead z w) none) passes (steps p) (steps x)) (ap (renamed_tree (instead z w)) (none_written p) ∙ becomes_it)
      (program_spots (change_by (instead z w) none) passes p h)

module _ (p : Tree) (faultless : first_fault p ≡ None) (numbered : IsNumbered p.root) (s : ℕ) (y : Symbol) (there : slice_get (tables_of p).symbols s ≡ Some y) (new : Name) where
  abbrev chosen : ℕ → Bool
  chosen = bears_name (analysis_of p) s

  abbrev U : Tree
  U = unmarked p faultless numbered s y there new

  abbrev Q : Tree
  Q = q p faultless numbered s y there new

  -- imports are bound alike by both roots, where that is asked
  abbrev pub ImportsAlike : Tree → Type 0
  ImportsAlike r = (not (source_type.is_typescript p.source_type) && source_type.is_module p.source_type) ≡ true → BoundAlike (roots (run start (events (steps p)))) (roots (run start (events (steps r)))) 0 (run start (events (steps p))).symbols

  module _ (checks : Bool) (plain_old : is_rule_word y.name ≡ false) (plain_new : is_rule_word new ≡ false) (signatures : holds_within (keeps_signature chosen y.name new) p.root ≡ true) (bad : is_bad_name new ≡ false) (free : first_fixed (exported_names (steps p)) chosen (steps p) ≡ None) (same : Same p Q) (states : namespace_states (steps Q) ≡ namespace_states (steps p)) (share : ShareFlags (made_of p)) (others : ShareFlags (made_of Q)) (imports : ImportsAlike Q) where
    faultless_too : first_fault Q ≡ None
    faultless_too = (no_fault_renamed p faultless numbered s y there new bad free).0

    numbered_too : IsNumbered Q.root
    numbered_too = (no_fault_renamed p faultless numbered s y there new bad free).1

    -- ---- a name that nothing has

    abbrev texts : List Name
    texts = map (λ x. x.text) (nodes_below p.root.children)

    abbrev declared : List Name
    declared = map (λ m. m.declaration.naming.name) (made_of p)

    abbrev messages : List Diagnostic → List Name
    messages rows = map (λ r. r.message) rows

    abbrev both : List Name
    both = messages (diagnostics_of checks U) ++ (messages (diagnostics_of checks Q) ++ y.name ∷ new ∷ [])

    abbrev all : List Name
    all = rule_words ++ (texts ++ (declared ++ both))

    z : Name
    z = fresh all

    shorter : (x : Name) → Among x all → length x < length z
    unfolding z
    shorter x a = longer all x a

    in_rest : (x : Name) → Among x (texts ++ (declared ++ both)) → length x < length z
    in_rest x a = shorter x (among_right x rule_words (texts ++ (declared ++ both)) a)

    in_both : (x : Name) → Among x both → length x < length z
    in_both x a = in_rest x (among_right x texts (declared ++ both) (among_right x declared both a))

    no_word : is_rule_word z ≡ false
    no_word = longer_is_no_word z (λ x a. shorter x (among_left x rule_words (texts ++ (declared ++ both)) a))

    tree_apart : AreApart z p.root.children
    tree_apart = apart_below z p.root.children (λ x a. shorter_differs x.text z (in_rest x.text (among_left x.text texts (declared ++ both) (told_among (λ n. n.text) (nodes_below p.root.children) x a))))

    made_short : (m : Made) → Among m (made_of p) → length m.declaration.naming.name < length z
    made_short m a = in_rest m.declaration.naming.name (among_right m.declaration.naming.name texts (declared ++ both) (among_left m.declaration.naming.name declared both (told_among (λ k. k.declaration.naming.name) (made_of p) m a)))

    old_short : length y.name < length z
    old_short = in_both y.name (among_right y.name (messages (diagnostics_of checks U)) _ (among_right y.name (messages (diagnostics_of checks Q)) (y.name ∷ new ∷ []) (inl refl)))

    new_short : length new < length z
    new_short = in_both new (among_right new (messages (diagnostics_of checks U)) _ (among_right new (messages (diagnostics_of checks Q)) (y.name ∷ new ∷ []) (inr (inl refl))))

    old_rows : AreShort z (diagnostics_of checks U)
    old_rows = short_rows z (diagnostics_of checks U) (λ m a. in_both m (among_left m (messages (diagnostics_of checks U)) _ a))

    new_rows : AreShort z (diagnostics_of checks Q)
    new_rows = short_rows z (diagnostics_of checks Q) (λ m a. in_both m (among_right m (messages (diagnostics_of checks U)) _ (among_left m (messages (diagnostics_of checks Q)) (y.name ∷ new ∷ []) a)))

    apart_from : (x : Name) → length x < length z → bytes_eq z x ≡ false
    apart_from x h = other_way x z (shorter_differs x z h)

    may_be_given : is_bad_name z ≡ false
    may_be_given =
        let word : length (codes "arguments") < length z = shorter (codes "arguments") (inl refl) in
        λ i. apart_from [] (omega (arith, word)) i || apart_from (codes "arguments") word i || apart_from (codes "eval") (omega (arith, word)) i

    -- ---- the program with that name

    C : Tree
    C = program_renamed p (analysis_of p) s z

    faultless_third : first_fault C ≡ None
    unfolding C
    faultless_third = (no_fault_renamed p faultless numbered s y there z may_be_given free).0

    is_old : renamed_tree (instead z y.name) C ≡ U
    unfolding C
    is_old = old_comes_back p faultless numbered s y there free z tree_apart new same

    is_new : renamed_tree (instead z new) C ≡ Q
    unfolding C
    is_new = becomes p faultless numbered s y there free z tree_apart new

    marked_root : holds_within (is_marked chosen z y.name new) C.root ≡ true
    unfolding C
    marked_root =
        and_from (is_marked chosen z y.name new C.root) (holds_below (is_marked chosen z y.name new) C.root.children)
        (root_marked chosen z y.name new C.root (has_form p faultless).root)
        (marked_below chosen z y.name new (apart_from y.name old_short) (apart_from new new_short) p.root.children (are_identifiers p faultless numbered s y there free) tree_apart
        (and_second (keeps_signature chosen y.name new p.root) (holds_below (keeps_signature chosen y.name new) p.root.children) signatures))

    passed : holds_within (test s chosen z y.name new) C.root ≡ true
    passed = formed_and C (is_marked chosen z y.name new) faultless_third marked_root

    -- ---- references without a symbol

    marks : HaveSameAnalysis U p
    marks = same_unmarked (sheds chosen) mark.Shorthand p refl

    unmarked_references : references (steps U) ≡ references (steps p)
    unmarked_references =
        let own : Node → Marks = shed p faultless numbered s y there new in
        ap references (steps_same own (keeps_read (sheds chosen)) p) ∙ references_same own (steps p)

    nodes_of : Tree → List ℕ
    nodes_of t = map (λ (r : Occurrence). r.node) (references (steps t))

    without_names : (t : Tree) → nodes_of (renamed_tree nameless t) ≡ nodes_of t
    unfolding nodes_of
    without_names t = ap (map (λ (r : Occurrence). r.node)) (references_renamed nameless t) ∙ same_referrers (references (steps t))

    referrers : nodes_of p ≡ nodes_of Q
    unfolding nodes_of
    referrers =
        ap (map (λ (r : Occurrence). r.node)) (sym unmarked_references)
        ∙ sym (without_names U) ∙ ap nodes_of (sym (in_common p faultless numbered s y there new free)) ∙ without_names Q

    same_free : free_reference_nodes (steps Q) ≡ free_reference_nodes (steps U)
    unfolding nodes_of
    same_free =
        sym (free_alike p Q numbered numbered_too same referrers)
        ∙ free_by_tables p ∙ ap (λ t. free_in t.references) (sym marks.tables) ∙ sym (free_by_tables U)

    -- ---- all that is told

    pub unmarked_told : AreToldAgain (instead y.name new) (diagnostics_of checks U) (diagnostics_of checks Q)
    unmarked_told =
        let source : List ℕ = encode_utf8_all p.source in
        let told_new : List ℕ → List Diagnostic = λ nodes. told_along checks source nodes (written_declarations (steps Q)) start (steps Q) in
        subst (AreToldAgain (instead y.name new) (diagnostics_of checks U)) (ap told_new (sym same_free))
        (all_along p faultless numbered s y there new free faultless_too same states share others z no_word plain_old plain_new made_short imports checks source (free_reference_nodes (steps U)) (steps C)
        (walked_alike C U z y.name is_old) (walked_spots C U z y.name is_old (test s chosen z y.name new) passed)
        (walked_alike C Q z new is_new) (walked_spots C Q z new is_new (test s chosen z y.name new) passed)
        old_rows (subst (AreShort z) (ap told_new same_free) new_rows))

  pub errors_kept : (r : Tree) (checks : Bool) → LeavesRules p s y.name new → rename p s new ≡ Ok r → namespace_states (steps r) ≡ namespace_states (steps p) → ShareFlags (made_of p) → ShareFlags (made_of r) → AreToldAgain (instead y.name new) (diagnostics_of checks p) (diagnostics_of checks r)
  errors_kept r checks rules h e share others =
      let (bad, none_fix, same, is) = ends_renamed p s new r h in
      let free : first_fixed (exported_names (steps p)) chosen (steps p) ≡ None = none_means_free p s none_fix in
      let kept : KeepsImports p r = imports_kept p faultless numbered s y there new r h e share others rules.imports in
      let formed : HasForm r = subst HasForm (sym is) (has_form Q (no_fault_renamed p faultless numbered s y there new bad free).0) in
      let imports : ImportsAlike r = roots_alike p r (has_form p faultless) formed kept in
      subst (λ t. AreToldAgain (instead y.name new) (diagnostics_of checks p) (diagnostics_of checks t)) (sym is)
      (subst (λ rows. AreToldAgain (instead y.name new) rows (diagnostics_of checks Q)) (written_same (sheds chosen) checks p faultless rules.prototypes)
      (unmarked_told checks rules.plain_old rules.plain_new rules.signatures bad free (subst (Same p) is same) (subst (λ t. namespace_states (steps t) ≡ namespace_states (steps p)) is e) share (subst (λ t. ShareFlags (made_of t)) is others) (subst ImportsAlike is imports)))
