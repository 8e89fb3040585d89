-- The old name is never refused for a symbol that has got another.
use Rattle.std.proofs.Common.{◌≡◌, ◌<◌, ℕ, ◌+◌, List, [], ◌∷◌, ◌++◌, Bool, false, ◌&&◌, ◌||◌, cond, Some, None, Ok, inl, inr, refl, sym, ap, subst, ◌∙◌, map}
use Rattle.std.specs.Prelude.{slice_get}
use Rattle.semantic_kinds.specs.Roles.{same_role}
use Rattle.semantic_kinds.specs.declared.kind.AstType.TheVariants as kind
use Rattle.semantic_kinds.specs.declared.mark.Mark.TheVariants as mark
use Rattle.semantic_kinds.specs.declared.marks.Marks.{Marks}
use Rattle.semantic_kinds.specs.declared.role.Role.TheVariants as role
use Rattle.semantic_syntax.specs.Members.{contains}
use Rattle.semantic_syntax.specs.Tables.{Name, Symbol, Tables}
use Rattle.semantic_tree.specs.Children.{node_count}
use Rattle.semantic_tree.specs.Faults.{first_fault}
use Rattle.semantic_tree.specs.Forest.{Forest, nothing, tree, count}
use Rattle.semantic_tree.specs.Renamed.{renamed_tree}
use Rattle.semantic_tree.specs.Tree.{Tree, IsNumbered}
use Rattle.semantic_tree.specs.Views.{is}
use Rattle.semantic_tree.specs.declared.node.Node.{Node}
use Rattle.semantic_model.specs.Analysis.{analysis_of, symbol_at, tied_at}
use Rattle.semantic_model.specs.Entries.{Among}
use Rattle.semantic_model.specs.Exported.{exported_names}
use Rattle.semantic_model.specs.Names.{names_at}
use Rattle.semantic_model.specs.NodeTable.{NodeTables, node_tables}
use Rattle.semantic_model.specs.Place.{Place, parent_holds}
use Rattle.semantic_model.specs.Step.{Step, entering, opening, header_ending, closing, leaving, steps}
use Rattle.semantic_model.specs.TablesOf.{tables_of}
use Rattle.semantic_model.proofs.swapped.AlikeNames.{Changed, names_changed}
use Rattle.semantic_model.proofs.swapped.AlikeProgram.{program_steps}
use Rattle.semantic_model.proofs.swapped.AlikeSteps.{SamePlace, AlikeSteps}
use Rattle.program_laws.specs.ReadMarks.{without_where}
use Rattle.program_laws.specs.Remarked.{remarked_node}
use Rattle.program_laws.specs.SameAnalysis.{HaveSameAnalysis}
use Rattle.program_laws.proofs.DeclarationMarks as marked
use Rattle.program_laws.proofs.NameMarks.{names_same}
use Rattle.program_laws.proofs.StepMarks.{remarked_steps, steps_same}
use Rattle.program_laws.proofs.TableMarks.{same_unmarked}
use Rattle.program_laws.proofs.Walked.{steps_within}
use Rattle.rename_model.specs.Refusal.{is_bad_name, fixes_name, first_fixed, rename}
use Rattle.rename_model.specs.Renamed.{bears_name, program_renamed}
use Rattle.rename_model.specs.Same.{Same}
use Rattle.rename_model.specs.WithName.{sheds, with_name}
use Rattle.rename_model.proofs.Refusals.{ends_renamed, free_means_none, none_means_free, renames}
use Rattle.renaming_laws.specs.WrittenOut.{written_out}
use Rattle.semantic_model.proofs.swapped.AlikeBinder.{parent_kind}
use Rattle.renaming_laws.proofs.GoingBack.{same_bearers, renamed_back}
use Rattle.renaming_laws.proofs.KeptConflicts.{keeps_read, in_common}
use Rattle.renaming_laws.proofs.SameSymbols.{id_within}
use Rattle.renaming_laws.proofs.Twins.{nameless}

abbrev node_ids : List Node → List ℕ
node_ids xs = map (λ x. x.node_id) xs

-- ---- names are not asked where a name is fixed

module _ (f : Name → Name) where
  ids_changed : (xs ys : List Node) → Changed f xs ys → node_ids ys ≡ node_ids xs
  ids_changed [] [] h = refl
  ids_changed [] (y ∷ ys) h = absurd h
  ids_changed (x ∷ xs) [] h = absurd h
  ids_changed (x ∷ xs) (y ∷ ys) h = λ i. (h.0.1 i).node_id ∷ ids_changed xs ys h.1 i

  exports_alike : (x z : Place) → SamePlace f x z → cond (is kind.ExportDeclaration z.node) (node_ids (names_at role.Declaration z.node)) [] ≡ cond (is kind.ExportDeclaration x.node) (node_ids (names_at role.Declaration x.node)) []
  exports_alike x z w =
      ap (λ (p : Place). cond (is kind.ExportDeclaration p.node) (node_ids (names_at role.Declaration p.node)) []) w.is
      ∙ ap (λ ns. cond (is kind.ExportDeclaration x.node) ns []) (ids_changed (names_at role.Declaration x.node) (names_at role.Declaration (record x.node { text = w.u; children = w.g })) (names_changed f role.Declaration x.node (record x.node { text = w.u; children = w.g }) w.node.children))

  exported_alike : (xs zs : List Step) → AlikeSteps f xs zs → exported_names zs ≡ exported_names xs
  exported_alike [] [] h = refl
  exported_alike [] (z ∷ zs) h = absurd h
  exported_alike (x ∷ xs) [] h = absurd h
  exported_alike (entering x ∷ xs) (entering z ∷ zs) h = λ i. exports_alike x z h.0 i ++ exported_alike xs zs h.1 i
  exported_alike (opening x s ∷ xs) (opening z t ∷ zs) h = exported_alike xs zs h.1
  exported_alike (header_ending x s ∷ xs) (header_ending z t ∷ zs) h = exported_alike xs zs h.1
  exported_alike (closing x s ∷ xs) (closing z t ∷ zs) h = exported_alike xs zs h.1
  exported_alike (leaving x ∷ xs) (leaving z ∷ zs) h = exported_alike xs zs h.1
  exported_alike _ _ h = absurd h.0

  module _ (exported : List ℕ) (chosen : ℕ → Bool) where
    fixes_alike : (x z : Place) → SamePlace f x z → fixes_name exported chosen (entering z) ≡ fixes_name exported chosen (entering x)
    fixes_alike x z w =
        ap (λ (p : Place). fixes_name exported chosen (entering p)) w.is
        ∙ ap (λ b. chosen x.node.node_id && ((is kind.TSEnumMember x.node || (same_role x.role role.Binding && b)) || contains exported x.node.node_id)) (parent_kind f kind.AssignmentTargetPropertyIdentifier x.path w.path w.above)

    fixed_alike : (xs zs : List Step) → AlikeSteps f xs zs → first_fixed exported chosen zs ≡ first_fixed exported chosen xs
    fixed_alike [] [] h = refl
    fixed_alike [] (z ∷ zs) h = absurd h
    fixed_alike (x ∷ xs) [] h = absurd h
    fixed_alike (entering x ∷ xs) (entering z ∷ zs) h = λ i. cond (fixes_alike x z h.0 i) (Some (node_at x z h.0 i)) (fixed_alike xs zs h.1 i)
      where
        node_at : (x z : Place) → SamePlace f x z → z.node.node_id ≡ x.node.node_id
        node_at x z w = ap (λ (p : Place). p.node.node_id) w.is
    fixed_alike (opening x s ∷ xs) (opening z t ∷ zs) h = fixed_alike xs zs h.1
    fixed_alike (header_ending x s ∷ xs) (header_ending z t ∷ zs) h = fixed_alike xs zs h.1
    fixed_alike (closing x s ∷ xs) (closing z t ∷ zs) h = fixed_alike xs zs h.1
    fixed_alike (leaving x ∷ xs) (leaving z ∷ zs) h = fixed_alike xs zs h.1
    fixed_alike _ _ h = absurd h.0

-- ---- nor are marks

module _ (g : Node → Marks) where
  ids_marked : (xs : List Node) → node_ids (map (remarked_node g) xs) ≡ node_ids xs
  ids_marked [] = refl
  ids_marked (x ∷ xs) = ap (λ ns. x.node_id ∷ ns) (ids_marked xs)

  exported_marked : (ss : List Step) → exported_names (remarked_steps g ss) ≡ exported_names ss
  exported_marked [] = refl
  exported_marked (entering x ∷ ss) =
      λ i. cond (is kind.ExportDeclaration x.node) ((ap node_ids (names_same g role.Declaration x.node) ∙ ids_marked (names_at role.Declaration x.node)) i) [] ++ exported_marked ss i
  exported_marked (opening x s ∷ ss) = exported_marked ss
  exported_marked (header_ending x s ∷ ss) = exported_marked ss
  exported_marked (closing x s ∷ ss) = exported_marked ss
  exported_marked (leaving x ∷ ss) = exported_marked ss

  module _ (exported : List ℕ) (chosen : ℕ → Bool) where
    fixed_marked : (ss : List Step) → first_fixed exported chosen (remarked_steps g ss) ≡ first_fixed exported chosen ss
    fixed_marked [] = refl
    fixed_marked (entering x ∷ ss) =
        λ i. cond (chosen x.node.node_id && ((is kind.TSEnumMember x.node || (same_role x.role role.Binding && marked.parent_kind g kind.AssignmentTargetPropertyIdentifier x.path i)) || contains exported x.node.node_id)) (Some x.node.node_id) (fixed_marked ss i)
    fixed_marked (opening x s ∷ ss) = fixed_marked ss
    fixed_marked (header_ending x s ∷ ss) = fixed_marked ss
    fixed_marked (closing x s ∷ ss) = fixed_marked ss
    fixed_marked (leaving x ∷ ss) = fixed_marked ss

-- ---- other nodes are chosen

fixed_by : (exported : List ℕ) (a b : ℕ → Bool) (ss : List Step) → ((x : Place) → Among (entering x) ss → a x.node.node_id ≡ b x.node.node_id) → first_fixed exported a ss ≡ first_fixed exported b ss
fixed_by exported a b [] h = refl
fixed_by exported a b (entering x ∷ ss) h =
    λ i. cond (h x (inl refl) i && ((is kind.TSEnumMember x.node || (same_role x.role role.Binding && parent_holds (is kind.AssignmentTargetPropertyIdentifier) x.path)) || contains exported x.node.node_id)) (Some x.node.node_id) (fixed_by exported a b ss (λ y c. h y (inr c)) i)
fixed_by exported a b (opening x s ∷ ss) h = fixed_by exported a b ss (λ y c. h y (inr c))
fixed_by exported a b (header_ending x s ∷ ss) h = fixed_by exported a b ss (λ y c. h y (inr c))
fixed_by exported a b (closing x s ∷ ss) h = fixed_by exported a b ss (λ y c. h y (inr c))
fixed_by exported a b (leaving x ∷ ss) h = fixed_by exported a b ss (λ y c. h y (inr c))

count_named : (chosen : ℕ → Bool) (name : Name) (f : Forest) → count (with_name chosen name f) ≡ count f
count_named chosen name nothing = refl
count_named chosen name (tree r k span text marks below id after) = λ i. count_named chosen name below i + count_named chosen name after i + 1

-- ---- the program

module _ (p : Tree) (faultless : first_fault p ≡ None) (numbered : IsNumbered p.root) (s : ℕ) (y : Symbol) (there : slice_get (tables_of p).symbols s ≡ Some y) (new : Name) where
  abbrev chosen : ℕ → Bool
  chosen = bears_name (analysis_of p) s

  abbrev q : Tree
  q = program_renamed p (analysis_of p) s new

  abbrev shed : Node → Marks
  shed = without_where (sheds chosen) mark.Shorthand

  abbrev w : Tree
  w = written_out p s

  module _ (free : first_fixed (exported_names (steps p)) (bears_name (analysis_of p) s) (steps p) ≡ None) (same : Same p q) where
    -- both programs fix the same names
    fixed_same : (test : ℕ → Bool) → first_fixed (exported_names (steps q)) test (steps q) ≡ first_fixed (exported_names (steps p)) test (steps p)
    fixed_same test =
        let common : Tree = renamed_tree nameless w in
        let left : AlikeSteps nameless (steps w) (steps common) = program_steps nameless w in
        let right : AlikeSteps nameless (steps q) (steps common) = subst (λ t. AlikeSteps nameless (steps q) (steps t)) (in_common p faultless numbered s y there new free) (program_steps nameless q) in
        let exports : exported_names (steps q) ≡ exported_names (steps w) = sym (exported_alike nameless (steps q) (steps common) right) ∙ exported_alike nameless (steps w) (steps common) left in
        let walk : steps w ≡ remarked_steps shed (steps p) = steps_same shed (keeps_read (sheds chosen)) p in
        sym (fixed_alike nameless (exported_names (steps q)) test (steps q) (steps common) right)
        ∙ fixed_alike nameless (exported_names (steps q)) test (steps w) (steps common) left
        ∙ ap (λ ns. first_fixed ns test (steps w)) exports
        ∙ ap (λ ss. first_fixed (exported_names ss) test ss) walk
        ∙ fixed_marked shed (exported_names (remarked_steps shed (steps p))) test (steps p)
        ∙ ap (λ ns. first_fixed ns test (steps p)) (exported_marked shed (steps p))

    free_again : first_fixed (exported_names (steps q)) (bears_name (analysis_of q) s) (steps q) ≡ None
    free_again =
        fixed_same (bears_name (analysis_of q) s)
        ∙ fixed_by (exported_names (steps p)) (bears_name (analysis_of q) s) chosen (steps p)
        (λ x a. same_bearers p faultless numbered s y there new free same x.node.node_id (id_within p numbered x.node (steps_within p (entering x) a x.node (inl refl))))
        ∙ free

    same_again : Same q w
    same_again n h =
        let within : n < node_count p.root = subst (λ c. n < c + 1) (count_named chosen new p.root.children) h in
        let marks : HaveSameAnalysis w p = same_unmarked (sheds chosen) mark.Shorthand p refl in
        record {
          symbol = sym (same n within).symbol ∙ sym (ap (λ (owns : NodeTables). symbol_at (record { tables = tables_of w; owns = owns }) n) marks.at_nodes);
          tied = sym (same n within).tied ∙ sym (ap (λ (t : Tables). tied_at (record { tables = t; owns = node_tables (steps w) }) n) marks.tables ∙ ap (λ (owns : NodeTables). tied_at (record { tables = tables_of p; owns = owns }) n) marks.at_nodes);
        }

    allowed : rename p s new ≡ Ok q → is_bad_name y.name ≡ false → rename q s y.name ≡ Ok w
    allowed e good = renames q s y.name w (good, free_means_none q s free_again, same_again, sym (renamed_back p faultless numbered s y there new q e))

  pub back_allowed : (r : Tree) → rename p s new ≡ Ok r → is_bad_name y.name ≡ false → rename r s y.name ≡ Ok (written_out p s)
  back_allowed r e good =
      let (bad, none, same, is) = ends_renamed p s new r e in
      let same' : Same p q = subst (Same p) is same in
      subst (λ t. rename t s y.name ≡ Ok (written_out p s)) (sym is) (allowed (none_means_free p s none) same' (e ∙ ap Ok is) good)
