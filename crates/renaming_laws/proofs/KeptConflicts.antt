-- A renaming keeps the conflicts of a program.
use Rattle.std.proofs.Common.{◌≡◌, ℕ, ◌-◌, ◌==◌, List, [], ◌∷◌, Bool, true, false, not, cond, if◌then◌else◌, Some, None, Ok, inl, inr, ◌⊎◌, refl, sym, ap, subst, ◌∙◌, map, bit_and}
use Rattle.std.specs.Prelude.{slice_get}
use Rattle.std.proofs.lemmas.Bool.Decides.{eqb_tells}
use Rattle.std.proofs.lemmas.Nat.{and_assoc}
use Rattle.semantic_kinds.specs.Kinds.{same_kind}
use Rattle.semantic_kinds.specs.Marks.{mark_bit}
use Rattle.semantic_kinds.specs.MarkSets.{has_mark}
use Rattle.semantic_kinds.specs.declared.kind.AstType.{AstType}
use Rattle.semantic_kinds.specs.declared.kind.AstType.TheVariants as kind
use Rattle.semantic_kinds.specs.declared.mark.Mark.{Mark}
use Rattle.semantic_kinds.specs.declared.mark.Mark.TheVariants as mark
use Rattle.semantic_kinds.specs.declared.marks.Marks.{Marks}
use Rattle.semantic_kinds.specs.declared.role.Role.{Role}
use Rattle.semantic_kinds.specs.declared.role.Role.TheVariants as role
use Rattle.semantic_syntax.specs.Tables.{Name, Symbol}
use Rattle.semantic_syntax.specs.declared.references.Reference.{Reference}
use Rattle.semantic_tree.specs.Faults.{first_fault}
use Rattle.semantic_tree.specs.Forest.{Forest, nothing, tree}
use Rattle.semantic_tree.specs.Renamed.{is_program_name, setting_below, renamed_text, renamed as renamed_forest, renamed_tree}
use Rattle.semantic_tree.specs.Tree.{Tree, IsNumbered}
use Rattle.semantic_tree.specs.Views.{children_of}
use Rattle.semantic_tree.specs.declared.node.Node.{Node}
use Rattle.semantic_tree.specs.declared.swap.Setting.{Setting}
use Rattle.semantic_tree.specs.declared.swap.Setting.TheVariants.{Elsewhere}
use Rattle.semantic_model.specs.Analysis.{analysis_of, symbol_at}
use Rattle.semantic_model.specs.Binder.{member_names}
use Rattle.semantic_model.specs.Declaration.{Declaration}
use Rattle.semantic_model.specs.Entries.{Among}
use Rattle.semantic_model.specs.Event.{declared_at, written_declarations, events}
use Rattle.semantic_model.specs.Exported.{exported_names}
use Rattle.semantic_model.specs.Fold.{Conflict, Made, start}
use Rattle.semantic_model.specs.Hoist.{run}
use Rattle.semantic_model.specs.NamespaceStates.{namespace_states}
use Rattle.semantic_model.specs.NodeTable.{belonging}
use Rattle.semantic_model.specs.Place.{Place}
use Rattle.semantic_model.specs.Step.{Step, entering, opening, header_ending, closing, leaving, steps}
use Rattle.semantic_model.specs.TablesOf.{tables_of, made_of}
use Rattle.semantic_model.proofs.fold.Orders.{table_of, orderly_events}
use Rattle.semantic_model.proofs.form.Shape.{has_form}
use Rattle.semantic_model.proofs.swapped.AlikeProgram.{program_steps}
use Rattle.semantic_model.proofs.swapped.AlikeSteps.{AlikeSteps}
use Rattle.walk_model.proofs.once.SymbolsOnce.{symbols_times}
use Rattle.program_laws.specs.ReadMarks.{is_read, KeepsRead, without_mark, without_where, unmarked_tree}
use Rattle.program_laws.specs.Remarked.{remarked}
use Rattle.program_laws.specs.SameAnalysis.{conflicts_of, HaveSameAnalysis}
use Rattle.program_laws.proofs.DeclaredNodes.{among_flat, IsOf, of_name, of_member}
use Rattle.program_laws.proofs.EventMarks.{events_same}
use Rattle.program_laws.proofs.NodeNames.{tied_nodes_have_names, made_of_node}
use Rattle.program_laws.proofs.StepMarks.{steps_same}
use Rattle.program_laws.proofs.TableMarks.{same_unmarked}
use Rattle.program_laws.proofs.TreeNodes.{nodes_from}
use Rattle.program_laws.proofs.Walked.{node_at, steps_within}
use Rattle.rename_model.specs.Refusal.{first_fixed, rename}
use Rattle.rename_model.specs.Renamed.{bears_name, program_renamed}
use Rattle.rename_model.specs.Same.{Same}
use Rattle.rename_model.specs.WithName.{sheds, with_name_alone, with_name, is_identifier, AreIdentifiers}
use Rattle.rename_model.proofs.AloneNames.{are_identifiers}
use Rattle.rename_model.proofs.Completeness.{no_fault_renamed}
use Rattle.rename_model.proofs.Entered.{place_of}
use Rattle.rename_model.proofs.NameShape.{identifier_cases}
use Rattle.rename_model.proofs.NamedNodes.{some_is, Tells, declares, is_tied, tells, symbol_named}
use Rattle.rename_model.proofs.Refusals.{ends_renamed, none_means_free}
use Rattle.renaming_laws.specs.InBlocks.{ShareFlags}
use Rattle.renaming_laws.specs.KeptConflicts.{IsRenamedConflict, AreRenamedConflicts}
use Rattle.semantic_model.proofs.swapped.AlikeBinder.{ren}
use Rattle.renaming_laws.proofs.DeclaredPairs.{pairs, made_pair, written_pairs, program_pairs}
use Rattle.renaming_laws.proofs.GoingBack.{root_marks}
use Rattle.renaming_laws.proofs.GoodRows.{TellsChosen, KnownPlace, declared_good, inside_good}
use Rattle.renaming_laws.proofs.SameConflicts.{Twinned, AllTwinned, AreTwins, same_conflicts}
use Rattle.renaming_laws.proofs.SameSymbols.{number_there, symbol_there, same_symbols}
use Rattle.renaming_laws.proofs.Signed.{unsigned, given, signed, signs_taken, names_given, Good, each_good, member_inside, member_unchosen, IsKept, labels_kept}
use Rattle.renaming_laws.proofs.Twins.{nameless, TwinSteps, twin_steps, TwinEvents, events_twins, no_states}
use Rattle.renaming_laws.proofs.VarRows.{program_rows}

differ : false ≡ true → ⊥
differ e = cc

-- ---- the mark `shorthand` is not read

bit_stays : (m : Mark) → is_read m ≡ true → bit_and (4294967295 - mark_bit mark.Shorthand) (mark_bit m) ≡ mark_bit m
bit_stays mark.Declare h = refl
bit_stays mark.Pure h = refl
bit_stays mark.Async h = refl
bit_stays mark.Generator h = refl
bit_stays mark.TypeOnly h = refl
bit_stays mark.Const h = refl
bit_stays mark.Computed h = refl
bit_stays mark.Abstract h = refl
bit_stays mark.Optional h = refl
bit_stays _ h = absurd cc

mark_stays : (m : Mark) (marks : Marks) → is_read m ≡ true → has_mark (without_mark marks mark.Shorthand) m ≡ has_mark marks m
mark_stays m marks h = ap (λ b. not (b == 0)) (and_assoc (mark_bit m) marks.bits (4294967295 - mark_bit mark.Shorthand) ∙ ap (bit_and marks.bits) (bit_stays m h))

pub keeps_read : (test : Node → Bool) → KeepsRead (without_where test mark.Shorthand)
keeps_read test node m h = go (test node)
  where
    go : (b : Bool) → has_mark (cond b (without_mark node.marks mark.Shorthand) node.marks) m ≡ has_mark node.marks m
    go true = mark_stays m node.marks h
    go false = refl

-- ---- the trees without names

module _ (chosen : ℕ → Bool) (new : Name) where
  pub shed_first : (f : Forest) → with_name chosen new f ≡ with_name_alone chosen new (remarked (without_where (sheds chosen) mark.Shorthand) f)
  shed_first nothing = refl
  shed_first (tree r k span text marks below id after) =
      let node : Node = record { kind = k; span = span; text = text; marks = marks; children = below; node_id = id } in
      λ i. tree r k span (cond (chosen id) new text) (without_where (sheds chosen) mark.Shorthand node) (shed_first below i) id (shed_first after i)

  pub still_identifiers : (g : Node → Marks) (f : Forest) → AreIdentifiers chosen f → AreIdentifiers chosen (remarked g f)
  still_identifiers g nothing h = tt
  still_identifiers g (tree r k span text marks below id after) h = (h.0, still_identifiers g below h.1, still_identifiers g after h.2)

  text_same : (setting : Setting) (r : Role) (k : AstType) (text : Name) (id : ℕ) → (chosen id ≡ true → is_identifier k ≡ true) → renamed_text nameless setting r k (cond (chosen id) new text) ≡ renamed_text nameless setting r k text
  text_same setting r k text id h = go (chosen id) (is_program_name setting r k) (λ e. identifier_cases (λ j. is_program_name setting r j ≡ true) refl refl k (h e))
    where
      go : (c n : Bool) → (c ≡ true → n ≡ true) → (if n then nameless (cond c new text) else cond c new text) ≡ (if n then nameless text else text)
      go c true i = refl
      go false false i = refl
      go true false i = absurd (differ (i refl))

  nameless_same : (setting : Setting) (f : Forest) → AreIdentifiers chosen f → renamed_forest nameless setting (with_name_alone chosen new f) ≡ renamed_forest nameless setting f
  nameless_same setting nothing h = refl
  nameless_same setting (tree r k span text marks below id after) h =
      λ i. tree r k span (text_same setting r k text id h.0 i) marks (nameless_same (setting_below setting r k) below h.1 i) id (nameless_same setting after h.2 i)

-- ---- the program

module _ (p : Tree) (faultless : first_fault p ≡ None) (numbered : IsNumbered p.root) (s : ℕ) (y : Symbol) (there : slice_get (tables_of p).symbols s ≡ Some y) (new : Name) where
  abbrev chosen_here : ℕ → Bool
  chosen_here = bears_name (analysis_of p) s

  abbrev pub q : Tree
  q = program_renamed p (analysis_of p) s new

  abbrev pub shed : Node → Marks
  shed = without_where (sheds chosen_here) mark.Shorthand

  abbrev pub unmarked : Tree
  unmarked = unmarked_tree (sheds chosen_here) mark.Shorthand p

  pub is_program : kind.Program ≡ p.root.kind
  is_program = sym (has_form p faultless).root

  module _ (free : first_fixed (exported_names (steps p)) (bears_name (analysis_of p) s) (steps p) ≡ None) where
    pub in_common : renamed_tree nameless q ≡ renamed_tree nameless unmarked
    in_common =
        let setting : Setting = setting_below Elsewhere role.Root p.root.kind in
        let below : renamed_forest nameless setting (with_name chosen_here new p.root.children) ≡ renamed_forest nameless setting (remarked shed p.root.children) =
        ap (renamed_forest nameless setting) (shed_first chosen_here new p.root.children)
        ∙ nameless_same chosen_here new setting (remarked shed p.root.children) (still_identifiers chosen_here new shed p.root.children (are_identifiers p faultless numbered s y there free)) in
        λ i. record p { root = record p.root { text = renamed_text nameless Elsewhere role.Root p.root.kind p.root.text; marks = sym (root_marks chosen_here p.root is_program) i; children = below i } }

    pub walked : TwinSteps nameless (steps unmarked) (steps q)
    walked =
        twin_steps nameless (steps unmarked) (steps q) (steps (renamed_tree nameless unmarked)) (program_steps nameless unmarked)
        (subst (λ t. AlikeSteps nameless (steps q) (steps t)) in_common (program_steps nameless q))

    pub same_made : events (steps unmarked) ≡ events (steps p)
    same_made = let keeps : KeepsRead shed = keeps_read (sheds chosen_here) in ap events (steps_same shed keeps p) ∙ events_same shed keeps (steps p)

    -- the events are the same, but for names
    pub twin_events : namespace_states (steps q) ≡ namespace_states (steps p) → TwinEvents (events (steps p)) (events (steps q))
    twin_events e =
        let marks : HaveSameAnalysis unmarked p = same_unmarked (sheds chosen_here) mark.Shorthand p refl in
        subst (λ es. TwinEvents es (events (steps q))) same_made
        (events_twins (steps unmarked) (steps q) walked (marks.states ∙ sym e))

    -- ---- names with signs

    abbrev pub setting : Setting
    setting = setting_below Elsewhere role.Root p.root.kind

    abbrev pub signed_tree : Tree
    signed_tree = record unmarked { root = record unmarked.root { children = signed chosen_here setting unmarked.root.children } }

    abbrev identifiers : AreIdentifiers chosen_here unmarked.root.children
    identifiers = still_identifiers chosen_here new shed p.root.children (are_identifiers p faultless numbered s y there free)

    root_text : (f : Name → Name) → renamed_text f Elsewhere role.Root p.root.kind p.root.text ≡ p.root.text
    root_text f = subst (λ k. renamed_text f Elsewhere role.Root k p.root.text ≡ p.root.text) is_program refl

    pub old_names : renamed_tree unsigned signed_tree ≡ unmarked
    old_names = λ i. record unmarked { root = record unmarked.root { text = root_text unsigned i; children = signs_taken chosen_here setting unmarked.root.children i } }

    pub new_names : renamed_tree (given new) signed_tree ≡ q
    new_names =
        let below : renamed_forest (given new) setting (signed chosen_here setting unmarked.root.children) ≡ with_name chosen_here new p.root.children =
        names_given chosen_here new setting unmarked.root.children identifiers ∙ sym (shed_first chosen_here new p.root.children) in
        λ i. record p { root = record p.root { text = root_text (given new) i; marks = root_marks chosen_here p.root is_program i; children = below i } }

    no_root : (k : AstType) → same_kind kind.Program k ≡ false → (x : Node) → signed_tree.root ≡ x → x.kind ≡ k → ⊥
    no_root k h x e f = differ (sym (subst (λ j. same_kind kind.Program j ≡ false) (sym (is_program ∙ ap (λ (n : Node). n.kind) e ∙ f)) h))

    -- what is known of the places of the signed program
    known : (t : Step) → Among t (steps signed_tree) → (place : Place) → node_at t ≡ place.node → KnownPlace chosen_here new place
    known t a place at = record { names = names; labels = labels; unchosen = unchosen }
      where
        within : (x : Node) → Among x (nodes_from place.node) → Among x (nodes_from signed_tree.root)
        within x b = steps_within signed_tree t a x (subst (λ n. Among x (nodes_from n)) (sym at) b)

        names : (x : Node) → Among x (nodes_from place.node) → x.kind ≡ kind.BindingIdentifier → Good chosen_here new x
        names x b e = elim (within x b) [
          | inl r ↦ absurd (no_root kind.BindingIdentifier refl x r e)
          | inr c ↦ each_good chosen_here new setting unmarked.root.children x c e
        ]

        labels : place.node.kind ≡ kind.TSEnumMember → (id : Node) → Among id (children_of role.Id place.node.children) → (x : Node) → Among x (member_names id) → IsKept chosen_here new x
        labels e id b x c = elim (within place.node (inl refl)) [
          | inl r ↦ absurd (no_root kind.TSEnumMember refl place.node r e)
          | inr d ↦ (let (g, f) = member_inside chosen_here new setting unmarked.root.children place.node d e in labels_kept chosen_here new g id (subst (λ h. Among id (children_of role.Id h)) f b) x c)
        ]

        unchosen : place.node.kind ≡ kind.TSEnumMember → chosen_here place.node.node_id ≡ false
        unchosen e = elim (within place.node (inl refl)) [
          | inl r ↦ absurd (no_root kind.TSEnumMember refl place.node r e)
          | inr d ↦ member_unchosen chosen_here new setting unmarked.root.children place.node identifiers d e
        ]

    step_good : (t : Step) → Among t (steps signed_tree) → (d : Declaration) → Among d (declared_at t) → TellsChosen chosen_here new d
    step_good (entering x) a d b = declared_good chosen_here new x (known (entering x) a x refl) x.node.kind refl d b
    step_good (opening x o) a d b = inside_good chosen_here new x (known (opening x o) a x refl) x.node.kind o d b
    step_good (header_ending x o) a d b = absurd b
    step_good (closing x o) a d b = absurd b
    step_good (leaving x) a d b = absurd b

    all_good : (d : Declaration) → Among d (written_declarations (steps signed_tree)) → TellsChosen chosen_here new d
    all_good d a = let (t, b, c) = among_flat declared_at (steps signed_tree) d a in step_good t b d c

    -- ---- the names of what is made

    abbrev pub now_named : Made → Name
    now_named m = cond (chosen_here m.declaration.naming.identifier) new m.declaration.naming.name

    abbrev pub own_name : Made → Name
    own_name m = m.declaration.naming.name

    now_by_pairs : (ms : List Made) → map now_named ms ≡ map (λ (x : ℕ × Name). cond (chosen_here x.0) new x.1) (map made_pair ms)
    now_by_pairs [] = refl
    now_by_pairs (m ∷ ms) = ap (λ xs. now_named m ∷ xs) (now_by_pairs ms)

    own_by_pairs : (ms : List Made) → map own_name ms ≡ map (λ (x : ℕ × Name). x.1) (map made_pair ms)
    own_by_pairs [] = refl
    own_by_pairs (m ∷ ms) = ap (λ xs. own_name m ∷ xs) (own_by_pairs ms)

    told_by_signs : (ds : List Declaration) → ((d : Declaration) → Among d ds → TellsChosen chosen_here new d) → map (λ (x : ℕ × Name). cond (chosen_here x.0) new x.1) (pairs (ren unsigned ds)) ≡ map (λ (x : ℕ × Name). x.1) (pairs (ren (given new) ds))
    told_by_signs [] h = refl
    told_by_signs (d ∷ ds) h = λ i. sym (h d (inl refl)) i ∷ told_by_signs ds (λ e a. h e (inr a)) i

    pub names_now : map now_named (made_of p) ≡ map own_name (made_of q)
    names_now =
        let signed_steps : List Step = steps signed_tree in
        let old : pairs (written_declarations (steps unmarked)) ≡ pairs (ren unsigned (written_declarations signed_steps)) = written_pairs unsigned signed_steps (steps unmarked) (subst (λ t. AlikeSteps unsigned signed_steps (steps t)) old_names (program_steps unsigned signed_tree)) in
        let fresh : pairs (written_declarations (steps q)) ≡ pairs (ren (given new) (written_declarations signed_steps)) = written_pairs (given new) signed_steps (steps q) (subst (λ t. AlikeSteps (given new) signed_steps (steps t)) new_names (program_steps (given new) signed_tree)) in
        let of_old : map made_pair (made_of p) ≡ pairs (ren unsigned (written_declarations signed_steps)) = ap (λ es. map made_pair (run start es).made) (sym same_made) ∙ program_pairs unmarked ∙ old in
        now_by_pairs (made_of p) ∙ ap (map (λ (x : ℕ × Name). cond (chosen_here x.0) new x.1)) of_old
        ∙ told_by_signs (written_declarations signed_steps) all_good
        ∙ ap (map (λ (x : ℕ × Name). x.1)) (sym (program_pairs q ∙ fresh)) ∙ sym (own_by_pairs (made_of q))

    -- a declaration of another symbol has no chosen node
    pub chosen_is : (m : Made) → Among m (made_of p) → chosen_here m.declaration.naming.identifier ≡ (m.symbol == s)
    chosen_is m a = go (chosen_here id) refl (eqb_tells m.symbol s)
      where
        id : ℕ
        id = m.declaration.naming.identifier

        there_too : symbol_at (analysis_of p) id ≡ Some m.symbol
        there_too = symbol_there p faultless numbered m a

        node_there : IsOf (nodes_from p.root) m.declaration → (x : Node) × Among x (nodes_from p.root) × (id ≡ x.node_id) × (x.kind ≡ kind.IdentifierReference → ⊥)
        node_there (of_name x w e f) = (x, w.among, e, λ k. differ (ap (λ j. same_kind j kind.IdentifierReference) (sym w.binds ∙ k)))
        node_there (of_member x w k e) = (x, w, e, λ j. differ (ap (λ i. same_kind i kind.IdentifierReference) (sym k ∙ j)))

        no_tie : (r : Reference) → Among r (tables_of p).references → r.node_id ≡ id → r.symbol_id ≡ Some s → ⊥
        no_tie r b i j =
            let (x, c, e, other) = node_there (made_of_node p m a) in
            let (place, d) = place_of p.root x c in
            other (tied_nodes_have_names p (has_form p faultless) numbered place x s r d b (i ∙ e) j).0

        same_symbol : Tells (analysis_of p) s id → m.symbol ≡ s
        same_symbol (declares b) = some_is m.symbol s (sym there_too ∙ number_there (map belonging (made_of p)) id s (symbols_times id p faultless numbered) b)
        same_symbol (is_tied r b i j) = absurd (no_tie r b i j)

        go : (c : Bool) → chosen_here id ≡ c → (((m.symbol == s) ≡ true) × (m.symbol ≡ s)) ⊎ (((m.symbol == s) ≡ false) × (m.symbol ≡ s → ⊥)) → chosen_here id ≡ (m.symbol == s)
        go true e (inl k) = e ∙ sym k.0
        go true e (inr k) = absurd (k.1 (same_symbol (tells p s id e)))
        go false e (inl k) = absurd (differ (sym e ∙ symbol_named (analysis_of p) s id (there_too ∙ ap Some k.1)))
        go false e (inr k) = e ∙ sym k.0

    pub are_twins : first_fault q ≡ None → Same p q → namespace_states (steps q) ≡ namespace_states (steps p) → ShareFlags (made_of p) → ShareFlags (made_of q) → AreTwins (events (steps p)) (events (steps q)) now_named own_name (table_of p) (table_of q)
    are_twins faultless' same e share others =
        let t : TwinEvents (events (steps p)) (events (steps q)) = twin_events e in
        record {
          twins = t;
          rows = program_rows p;
          other_rows = program_rows q;
          orderly = orderly_events p (has_form p faultless);
          others_orderly = orderly_events q (has_form q faultless');
          share = share;
          others_share = others;
          symbols = same_symbols p q faultless numbered same t;
          names = names_now;
        }

    -- each with the name of its symbol
    pub told : (c e : Conflict) → Twinned (made_of p) (made_of q) now_named own_name c e → IsRenamedConflict p s new c e
    told c e w = record {
      made = w.made;
      among = w.among;
      named = w.name;
      placed = w.placed;
      is = λ i. record {
        name = (w.other_name ∙ sym w.told ∙ ap (λ b. cond b new w.made.declaration.naming.name) (chosen_is w.made w.among) ∙ ap (cond (w.made.symbol == s) new) (sym w.name)) i;
        earlier = w.earlier i;
        later = w.later i;
      };
    }

    all_told : (cs es : List Conflict) → AllTwinned (made_of p) (made_of q) now_named own_name cs es → AreRenamedConflicts p s new cs es
    all_told [] [] h = tt
    all_told [] (e ∷ es) h = absurd h
    all_told (c ∷ cs) [] h = absurd h
    all_told (c ∷ cs) (e ∷ es) h = (told c e h.0, all_told cs es h.1)

  pub conflicts_kept : (r : Tree) → rename p s new ≡ Ok r → namespace_states (steps r) ≡ namespace_states (steps p) → ShareFlags (made_of p) → ShareFlags (made_of r) → AreRenamedConflicts p s new (conflicts_of p) (conflicts_of r)
  conflicts_kept r h e share others =
      let (bad, none, same, is) = ends_renamed p s new r h in
      let free : first_fixed (exported_names (steps p)) (bears_name (analysis_of p) s) (steps p) ≡ None = none_means_free p s none in
      let same' : Same p q = subst (Same p) is same in
      let e' : namespace_states (steps q) ≡ namespace_states (steps p) = subst (λ t. namespace_states (steps t) ≡ namespace_states (steps p)) is e in
      let others' : ShareFlags (made_of q) = subst (λ t. ShareFlags (made_of t)) is others in
      let faultless' : first_fault q ≡ None = (no_fault_renamed p faultless numbered s y there new bad free).0 in
      let twins : AreTwins (events (steps p)) (events (steps q)) (now_named free) (own_name free) (table_of p) (table_of q) = are_twins free faultless' same' e' share others' in
      subst (λ t. AreRenamedConflicts p s new (conflicts_of p) (conflicts_of t)) (sym is)
      (all_told free (conflicts_of p) (conflicts_of q) (same_conflicts (events (steps p)) (events (steps q)) (now_named free) (own_name free) (table_of p) (table_of q) twins))

  -- where there are no namespaces, there are none in the renamed program
  pub states_without : (r : Tree) → rename p s new ≡ Ok r → namespace_states (steps p) ≡ [] → namespace_states (steps r) ≡ namespace_states (steps p)
  states_without r h e =
      let (bad, none, same, is) = ends_renamed p s new r h in
      let marks : HaveSameAnalysis unmarked p = same_unmarked (sheds chosen_here) mark.Shorthand p refl in
      let none_there : namespace_states (steps q) ≡ [] = no_states (steps unmarked) (steps q) (walked (none_means_free p s none)) (marks.states ∙ e) in
      ap (λ t. namespace_states (steps t)) is ∙ none_there ∙ sym e

  pub conflicts_kept_without : (r : Tree) → rename p s new ≡ Ok r → namespace_states (steps p) ≡ [] → ShareFlags (made_of p) → ShareFlags (made_of r) → AreRenamedConflicts p s new (conflicts_of p) (conflicts_of r)
  conflicts_kept_without r h e share others = conflicts_kept r h (states_without r h e) share others
