-- A renaming keeps the states of namespaces, where what they look up stays as alike as it was.
use Rattle.std.proofs.Common.{◌≡◌, ℕ, zero, suc, List, [], ◌∷◌, Bool, true, false, ◌&&◌, ◌||◌, not, cond, if◌then◌else◌, Some, None, Ok, inl, inr, refl, sym, ap, subst, ◌∙◌, bytes_eq}
use Rattle.std.specs.Prelude.{slice_get}
use Rattle.std.specs.List.{list_all, cons_option}
use Rattle.std.proofs.lemmas.Bool.{and_from}
use Rattle.semantic_syntax.proofs.Truth.{and_first, and_second}
use Rattle.semantic_kinds.specs.Kinds.{same_kind}
use Rattle.semantic_kinds.specs.Roles.{same_role}
use Rattle.semantic_kinds.specs.declared.kind.AstType.{AstType}
use Rattle.semantic_kinds.specs.declared.kind.AstType.TheVariants as kind
use Rattle.semantic_kinds.specs.declared.mark.Mark.TheVariants as mark
use Rattle.semantic_kinds.specs.declared.marks.Marks.{Marks}
use Rattle.semantic_kinds.specs.declared.role.Role.{Role}
use Rattle.semantic_kinds.specs.declared.role.Role.TheVariants as role
use Rattle.semantic_syntax.specs.Tables.{Name, Symbol}
use Rattle.semantic_tree.specs.Faults.{first_fault}
use Rattle.semantic_tree.specs.Forest.{Forest, nothing, tree}
use Rattle.semantic_tree.specs.Nodes.{first_of}
use Rattle.semantic_tree.specs.Renamed.{is_program_name, setting_below, renamed_tree}
use Rattle.semantic_tree.specs.Tree.{Tree, IsNumbered}
use Rattle.semantic_tree.specs.Views.{is, holds, children_of, child_of}
use Rattle.semantic_tree.specs.declared.node.Node.{Node}
use Rattle.semantic_tree.specs.declared.swap.Setting.{Setting}
use Rattle.semantic_model.specs.Analysis.{analysis_of}
use Rattle.semantic_model.specs.Entries.{Among}
use Rattle.semantic_model.specs.Exported.{exported_names}
use Rattle.semantic_model.specs.NamespaceStates.{state_at, namespace_states}
use Rattle.semantic_model.specs.Step.{Step, entering, opening, header_ending, closing, leaving, steps}
use Rattle.semantic_model.specs.TablesOf.{tables_of}
use Rattle.semantic_model.proofs.lists.Members.{among_left, among_right}
use Rattle.semantic_model.proofs.form.Clauses.{kind_is}
use Rattle.semantic_model.proofs.once.ListedUnder.{name_tells}
use Rattle.semantic_model.proofs.swapped.AlikeProgram.{program_steps}
use Rattle.semantic_model.proofs.swapped.AlikeSteps.{AlikeStep, AlikeSteps}
use Rattle.program_laws.specs.Remarked.{remarked}
use Rattle.program_laws.specs.SameAnalysis.{HaveSameAnalysis}
use Rattle.program_laws.proofs.TableMarks.{same_unmarked}
use Rattle.program_laws.proofs.TreeNodes.{nodes_below}
use Rattle.rename_model.specs.Refusal.{first_fixed, rename}
use Rattle.rename_model.specs.Renamed.{bears_name}
use Rattle.rename_model.specs.WithName.{sheds, is_identifier}
use Rattle.rename_model.proofs.AloneNames.{is_of_symbol}
use Rattle.rename_model.proofs.Entered.{place_of}
use Rattle.rename_model.proofs.Refusals.{ends_renamed, none_means_free}
use Rattle.swapped_checks.specs.SwappedPrograms.{holds_below, holds_within}
use Rattle.swapped_checks.proofs.Changed.{Change, changed_tree}
use Rattle.swapped_checks.proofs.Pairwise.{Each}
use Rattle.swapped_checks.proofs.Spots.{Within, SpotStep, Spots, program_spots}
use Rattle.swapped_checks.proofs.SwappedTold.{change_by, none, none_written}
use Rattle.renaming_laws.specs.LookedUp.{is_neither, exports_only, exports_neither, names_chosen}
use Rattle.renaming_laws.proofs.KeptConflicts.{q, shed, unmarked, is_program, setting, signed_tree, old_names, new_names}
use Rattle.renaming_laws.proofs.NamespaceLooks.{Reads, reads_node, state_same}
use Rattle.renaming_laws.proofs.Signed.{unsigned, given, signed}

-- ---- states along steps

module _ (f : Name → Name) (looked declared : Name → Bool) (reads : Reads f looked declared) where
  abbrev test : Node → Bool
  test = reads_node looked declared

  abbrev by_names : Change
  by_names = change_by f none

  each_within : (xs ys : List Node) → Each (Within by_names test) xs ys → list_all (holds_within test) xs ≡ true
  each_within [] [] e = refl
  each_within [] (y ∷ ys) e = absurd e
  each_within (x ∷ xs) [] e = absurd e
  each_within (x ∷ xs) (y ∷ ys) e = and_from (holds_within test x) (list_all (holds_within test) xs) e.0.1 (each_within xs ys e.1)

  state_kept : (x y : Step) → AlikeStep f x y → SpotStep by_names test x y → state_at y ≡ state_at x
  state_kept (entering p) (entering z) s w =
      ap (λ x. state_at (entering x)) s.is
      ∙ ap (λ v. cond (is kind.TSNamespaceDeclaration p.node) (Some v) None) (state_same f looked declared reads p.node s.u s.g p.path s.path s.node s.above w.0.1 (each_within p.path z.path w.1))
  state_kept (opening p s) (opening z t) h w = refl
  state_kept (header_ending p s) (header_ending z t) h w = refl
  state_kept (closing p s) (closing z t) h w = refl
  state_kept (leaving p) (leaving z) h w = refl
  state_kept _ _ h w = absurd h

  states_along : (xs ys : List Step) → AlikeSteps f xs ys → Spots by_names test xs ys → namespace_states ys ≡ namespace_states xs
  states_along [] [] h w = refl
  states_along [] (y ∷ ys) h w = absurd h
  states_along (x ∷ xs) [] h w = absurd h
  states_along (x ∷ xs) (y ∷ ys) h w = λ i. cons_option (state_kept x y h.0 w.0 i) (states_along xs ys h.1 w.1 i)

  states_by : (p : Tree) → holds_within test p.root ≡ true → namespace_states (steps (renamed_tree f p)) ≡ namespace_states (steps p)
  states_by p h =
      let same : changed_tree by_names p ≡ renamed_tree f p = ap (renamed_tree f) (none_written p) in
      states_along (steps p) (steps (renamed_tree f p)) (program_steps f p) (subst (λ t. Spots by_names test (steps p) (steps t)) same (program_spots by_names test p h))

-- ---- signed names that are looked up and declared

reads_as : (t u : Name) → bytes_eq t u ≡ true → t ≡ u
reads_as t u h = elim (name_tells t u) [ inl k ↦ k.1 | inr k ↦ (let e : true ≡ false = sym h ∙ k.0 in absurd cc) ]

reads_same : (t u : Name) → t ≡ u → bytes_eq t u ≡ true
reads_same t u h = elim (name_tells t u) [ inl k ↦ k.0 | inr k ↦ absurd (k.1 h) ]

other_way : (t u : Name) → bytes_eq t u ≡ false → bytes_eq u t ≡ false
other_way t u h = elim (name_tells u t) [ inr k ↦ k.0 | inl k ↦ (let e : true ≡ false = sym (reads_same t u (sym k.1)) ∙ h in absurd cc) ]

module _ (a b : Name) (loose : Bool) where
  abbrev neither : Name → Bool
  neither t = not (bytes_eq t a || bytes_eq t b)

  -- where no chosen name is looked up, anything may be declared
  abbrev looked : Name → Bool
  looked [] = false
  looked (zero ∷ t) = neither t
  looked (suc zero ∷ t) = not loose && bytes_eq t a
  looked (suc (suc c) ∷ t) = false

  abbrev declared : Name → Bool
  declared [] = false
  declared (zero ∷ t) = loose || neither t
  declared (suc zero ∷ t) = bytes_eq t a
  declared (suc (suc c) ∷ t) = false

  neither_old : (t : Name) → neither t ≡ true → bytes_eq t a ≡ false
  neither_old t h = go (bytes_eq t a) (bytes_eq t b) h
    where
      go : (x y : Bool) → not (x || y) ≡ true → x ≡ false
      go true y i = absurd cc
      go false y i = refl

  neither_new : (t : Name) → neither t ≡ true → bytes_eq t b ≡ false
  neither_new t h = go (bytes_eq t a) (bytes_eq t b) h
    where
      go : (x y : Bool) → not (x || y) ≡ true → y ≡ false
      go true y i = absurd cc
      go false true i = absurd cc
      go false false i = refl

  -- a declared name that isn't chosen, where a chosen one is looked up
  closed : (x y z : Bool) → (x || y) ≡ true → (not x && z) ≡ true → (y ≡ true) × (z ≡ true)
  closed true y z h i = absurd cc
  closed false y z h i = (h, i)

  old_same : (x name : Name) → declared x ≡ true → looked name ≡ true → bytes_eq (unsigned x) (unsigned name) ≡ bytes_eq x name
  old_same [] name d l = absurd cc
  old_same (x ∷ u) [] d l = absurd cc
  old_same (zero ∷ u) (zero ∷ t) d l = refl
  old_same (suc zero ∷ u) (zero ∷ t) d l = ap (λ v. bytes_eq v t) (reads_as u a d) ∙ other_way t a (neither_old t l)
  old_same (zero ∷ u) (suc zero ∷ t) d l = let (n, e) = closed loose (neither u) (bytes_eq t a) d l in ap (bytes_eq u) (reads_as t a e) ∙ neither_old u n
  old_same (suc zero ∷ u) (suc zero ∷ t) d l = refl
  old_same (suc (suc c) ∷ u) name d l = absurd cc
  old_same (x ∷ u) (suc (suc c) ∷ t) d l = absurd cc

  second : (x z : Bool) → (not x && z) ≡ true → z ≡ true
  second true z i = absurd cc
  second false z i = i

  new_same : (x name : Name) → declared x ≡ true → looked name ≡ true → bytes_eq (given b x) (given b name) ≡ bytes_eq x name
  new_same [] name d l = absurd cc
  new_same (x ∷ u) [] d l = absurd cc
  new_same (zero ∷ u) (zero ∷ t) d l = refl
  new_same (suc zero ∷ u) (zero ∷ t) d l = other_way t b (neither_new t l)
  new_same (zero ∷ u) (suc zero ∷ t) d l = let (n, e) = closed loose (neither u) (bytes_eq t a) d l in neither_new u n
  new_same (suc zero ∷ u) (suc zero ∷ t) d l = reads_same b b refl ∙ sym (reads_same u t (reads_as u a d ∙ sym (reads_as t a (second loose (bytes_eq t a) l))))
  new_same (suc (suc c) ∷ u) name d l = absurd cc
  new_same (x ∷ u) (suc (suc c) ∷ t) d l = absurd cc

  old_reads : Reads unsigned looked declared
  old_reads = record { same = old_same }

  new_reads : Reads (given b) looked declared
  new_reads = record { same = new_same }

  -- ---- the test of the signed program

  module _ (chosen : ℕ → Bool) where
    abbrev is_looked : Node → Bool
    is_looked x = (not loose && chosen x.node_id) || is_neither a b x

    abbrev pub may_stand : Node → Bool
    may_stand x = (not (is kind.BindingIdentifier x) || (loose || (chosen x.node_id || is_neither a b x))) && exports_only is_looked x

    -- chosen nodes have the old name
    abbrev pub OldTexts : Forest → Type 0
    OldTexts nothing = Unit {0}
    OldTexts (tree r k span text marks below id after) = (chosen id ≡ true → bytes_eq text a ≡ true) × OldTexts below × OldTexts after

    abbrev sign_of : Setting → Role → AstType → ℕ → Name → Name
    sign_of st r k id text = if is_program_name st r k then cond (is_identifier k && chosen id) 1 0 ∷ text else text

    chosen_looked : (o m n : Bool) → m ≡ true → ((not o && true) || not (m || n)) ≡ true → (not o && m) ≡ true
    chosen_looked true true n h i = absurd cc
    chosen_looked true false n h i = absurd cc
    chosen_looked false true n h i = refl
    chosen_looked false false n h i = absurd cc

    other_looked : (o n : Bool) → ((not o && false) || n) ≡ true → n ≡ true
    other_looked true n h = h
    other_looked false n h = h

    text_looked : (st : Setting) (r : Role) (k : AstType) (id : ℕ) (text : Name) → (chosen id ≡ true → bytes_eq text a ≡ true) → k ≡ kind.IdentifierReference → ((not loose && chosen id) || neither text) ≡ true → looked (sign_of st r k id text) ≡ true
    text_looked st r k id text old e h = subst (λ j. looked (sign_of st r j id text) ≡ true) (sym e) (go (chosen id) old h)
      where
        go : (c : Bool) → (c ≡ true → bytes_eq text a ≡ true) → ((not loose && c) || neither text) ≡ true → looked (cond c 1 0 ∷ text) ≡ true
        go true i j = chosen_looked loose (bytes_eq text a) (bytes_eq text b) (i refl) j
        go false i j = other_looked loose (neither text) j

    text_declared : (st : Setting) (r : Role) (k : AstType) (id : ℕ) (text : Name) → (chosen id ≡ true → bytes_eq text a ≡ true) → k ≡ kind.BindingIdentifier → (loose || (chosen id || neither text)) ≡ true → declared (sign_of st r k id text) ≡ true
    text_declared st r k id text old e h = subst (λ j. declared (sign_of st r j id text) ≡ true) (sym e) (go (chosen id) old h)
      where
        go : (c : Bool) → (c ≡ true → bytes_eq text a ≡ true) → (loose || (c || neither text)) ≡ true → declared (cond c 1 0 ∷ text) ≡ true
        go true i j = i refl
        go false i j = j

    not_so : (c : Bool) → not c ≡ true → c ≡ false
    not_so true h = absurd cc
    not_so false h = refl

    no_more : (c d : Bool) → (c && not d) ≡ false → c ≡ true → d ≡ true
    no_more true true h i = refl
    no_more true false h i = absurd cc
    no_more false d h i = absurd cc

    -- a test under the test of a kind
    under : (c d e : Bool) → (c ≡ true → e ≡ true) → (not c || e) ≡ true
    under true d e h = h refl
    under false d e h = refl

    module _ (g : Node → Marks) where
      local_passes : (st : Setting) (f : Forest) → OldTexts f → holds (λ l. is kind.IdentifierReference l && not (is_looked l)) (first_of (children_of role.Local f)) ≡ false
          → holds (λ l. is kind.IdentifierReference l && not (looked l.text)) (first_of (children_of role.Local (signed chosen st (remarked g f)))) ≡ false
      local_passes st nothing w h = refl
      local_passes st (tree r k span text marks below id after) w h = go (same_role r role.Local) (local_passes st after w.2) h
        where
          old : Node
          old = record { kind = k; span = span; text = text; marks = marks; children = below; node_id = id }

          new : Node
          new = record { kind = k; span = span; text = sign_of st r k id text; marks = g old; children = signed chosen (setting_below st r k) (remarked g below); node_id = id }

          one : (c : Bool) → same_kind k kind.IdentifierReference ≡ c → (c && not (is_looked old)) ≡ false → (c && not (looked (sign_of st r k id text))) ≡ false
          one true e i = ap not (text_looked st r k id text w.0 (kind_is k kind.IdentifierReference e) (no_more true (is_looked old) i refl))
          one false e i = refl

          go : (c : Bool)
              → (holds (λ l. is kind.IdentifierReference l && not (is_looked l)) (first_of (children_of role.Local after)) ≡ false → holds (λ l. is kind.IdentifierReference l && not (looked l.text)) (first_of (children_of role.Local (signed chosen st (remarked g after)))) ≡ false)
              → holds (λ l. is kind.IdentifierReference l && not (is_looked l)) (first_of (cond c (old ∷ children_of role.Local after) (children_of role.Local after))) ≡ false
              → holds (λ l. is kind.IdentifierReference l && not (looked l.text)) (first_of (cond c (new ∷ children_of role.Local (signed chosen st (remarked g after))) (children_of role.Local (signed chosen st (remarked g after))))) ≡ false
          go true more i = one (same_kind k kind.IdentifierReference) refl i
          go false more i = more i

      exports_pass : (st : Setting) (f : Forest) → OldTexts f → not (holds (λ l. is kind.IdentifierReference l && not (is_looked l)) (first_of (children_of role.Local f))) ≡ true
          → not (holds (λ l. is kind.IdentifierReference l && not (looked l.text)) (first_of (children_of role.Local (signed chosen st (remarked g f))))) ≡ true
      exports_pass st f w h = ap not (local_passes st f w (not_so (holds (λ l. is kind.IdentifierReference l && not (is_looked l)) (first_of (children_of role.Local f))) h))

      binding_passes : (st : Setting) (r : Role) (k : AstType) (id : ℕ) (text : Name) → (chosen id ≡ true → bytes_eq text a ≡ true) → (not (same_kind k kind.BindingIdentifier) || (loose || (chosen id || neither text))) ≡ true → (not (same_kind k kind.BindingIdentifier) || declared (sign_of st r k id text)) ≡ true
      binding_passes st r k id text old h = go (same_kind k kind.BindingIdentifier) refl h
        where
          go : (c : Bool) → same_kind k kind.BindingIdentifier ≡ c → (not c || (loose || (chosen id || neither text))) ≡ true → (not c || declared (sign_of st r k id text)) ≡ true
          go true e i = text_declared st r k id text old (kind_is k kind.BindingIdentifier e) i
          go false e i = refl

      passes_below : (st : Setting) (f : Forest) → OldTexts f → holds_below may_stand f ≡ true → holds_below (reads_node looked declared) (signed chosen st (remarked g f)) ≡ true
      passes_below st nothing w h = refl
      passes_below st (tree r k span text marks below id after) w h =
          let old : Node = record { kind = k; span = span; text = text; marks = marks; children = below; node_id = id } in
          let new : Node = record { kind = k; span = span; text = sign_of st r k id text; marks = g old; children = signed chosen (setting_below st r k) (remarked g below); node_id = id } in
          let here : may_stand old ≡ true = and_first (may_stand old) (holds_below may_stand below && holds_below may_stand after) h in
          let rest : (holds_below may_stand below && holds_below may_stand after) ≡ true = and_second (may_stand old) (holds_below may_stand below && holds_below may_stand after) h in
          let named : Bool = not (is kind.BindingIdentifier old) || (loose || (chosen id || is_neither a b old)) in
          and_from (reads_node looked declared new) (holds_below (reads_node looked declared) (signed chosen (setting_below st r k) (remarked g below)) && holds_below (reads_node looked declared) (signed chosen st (remarked g after)))
          (and_from (not (same_kind k kind.BindingIdentifier) || declared (sign_of st r k id text)) (not (holds (λ l. is kind.IdentifierReference l && not (looked l.text)) (child_of role.Local new)))
          (binding_passes st r k id text w.0 (and_first named (exports_only is_looked old) here))
          (exports_pass (setting_below st r k) below w.1 (and_second named (exports_only is_looked old) here)))
          (and_from (holds_below (reads_node looked declared) (signed chosen (setting_below st r k) (remarked g below))) (holds_below (reads_node looked declared) (signed chosen st (remarked g after)))
          (passes_below (setting_below st r k) below w.1 (and_first (holds_below may_stand below) (holds_below may_stand after) rest))
          (passes_below st after w.2 (and_second (holds_below may_stand below) (holds_below may_stand after) rest)))

-- a test that another one implies
holds_more : (t u : Node → Bool) → ((n : Node) → t n ≡ true → u n ≡ true) → (f : Forest) → holds_below t f ≡ true → holds_below u f ≡ true
holds_more t u more nothing h = refl
holds_more t u more (tree r k span text marks below id after) h =
    let node : Node = record { kind = k; span = span; text = text; marks = marks; children = below; node_id = id } in
    let rest : (holds_below t below && holds_below t after) ≡ true = and_second (t node) (holds_below t below && holds_below t after) h in
    and_from (u node) (holds_below u below && holds_below u after) (more node (and_first (t node) (holds_below t below && holds_below t after) h))
    (and_from (holds_below u below) (holds_below u after) (holds_more t u more below (and_first (holds_below t below) (holds_below t after) rest)) (holds_more t u more after (and_second (holds_below t below) (holds_below t after) rest)))

within_more : (t u : Node → Bool) → ((n : Node) → t n ≡ true → u n ≡ true) → (x : Node) → holds_within t x ≡ true → holds_within u x ≡ true
within_more t u more x h = and_from (u x) (holds_below u x.children) (more x (and_first (t x) (holds_below t x.children) h)) (holds_more t u more x.children (and_second (t x) (holds_below t x.children) h))

-- ---- the program

module _ (p : Tree) (faultless : first_fault p ≡ None) (numbered : IsNumbered p.root) (s : ℕ) (y : Symbol) (there : slice_get (tables_of p).symbols s ≡ Some y) (new : Name) where
  abbrev chosen_here : ℕ → Bool
  chosen_here = bears_name (analysis_of p) s

  module _ (free : first_fixed (exported_names (steps p)) (bears_name (analysis_of p) s) (steps p) ≡ None) (loose : Bool) where
    abbrev t : Tree
    t = signed_tree p faultless numbered s y there new free

    old_below : (f : Forest) → ((x : Node) → Among x (nodes_below f) → chosen_here x.node_id ≡ true → bytes_eq x.text y.name ≡ true) → OldTexts y.name new loose chosen_here f
    old_below nothing h = tt
    old_below (tree r k span text marks below id after) h = (
      h (record { kind = k; span = span; text = text; marks = marks; children = below; node_id = id }) (inl refl),
      old_below below (λ x c. h x (inr (among_left x (nodes_below below) (nodes_below after) c))),
      old_below after (λ x c. h x (inr (among_right x (nodes_below below) (nodes_below after) c))),
    )

    old_texts : OldTexts y.name new loose chosen_here p.root.children
    old_texts = old_below p.root.children (λ x c e. let (place, w) = place_of p.root x (inr c) in reads_same x.text y.name (is_of_symbol p faultless numbered s y there free place x w e).1)

    no_name : is kind.BindingIdentifier p.root ≡ false
    no_name = ap (λ k. same_kind k kind.BindingIdentifier) (sym (is_program p faultless numbered s y there new))

    passes : holds_within (may_stand y.name new loose chosen_here) p.root ≡ true → holds_within (reads_node (looked y.name new loose) (declared y.name new loose)) t.root ≡ true
    passes h =
        let stands : Bool = not (is kind.BindingIdentifier p.root) || (loose || (chosen_here p.root.node_id || is_neither y.name new p.root)) in
        let exports : exports_only (is_looked y.name new loose chosen_here) p.root ≡ true = and_second stands (exports_only (is_looked y.name new loose chosen_here) p.root) (and_first (may_stand y.name new loose chosen_here p.root) (holds_below (may_stand y.name new loose chosen_here) p.root.children) h) in
        and_from (reads_node (looked y.name new loose) (declared y.name new loose) t.root) (holds_below (reads_node (looked y.name new loose) (declared y.name new loose)) t.root.children)
        (and_from (not (is kind.BindingIdentifier p.root) || declared y.name new loose p.root.text) (not (holds (λ l. is kind.IdentifierReference l && not (looked y.name new loose l.text)) (child_of role.Local t.root)))
        (ap (λ c. not c || declared y.name new loose p.root.text) no_name)
        (exports_pass y.name new loose chosen_here (shed p faultless numbered s y there new) (setting p faultless numbered s y there new free) p.root.children old_texts exports))
        (passes_below y.name new loose chosen_here (shed p faultless numbered s y there new) (setting p faultless numbered s y there new free) p.root.children old_texts (and_second (may_stand y.name new loose chosen_here p.root) (holds_below (may_stand y.name new loose chosen_here) p.root.children) h))

    kept : holds_within (may_stand y.name new loose chosen_here) p.root ≡ true → namespace_states (steps (q p faultless numbered s y there new)) ≡ namespace_states (steps p)
    kept h =
        let marks : HaveSameAnalysis (unmarked p faultless numbered s y there new) p = same_unmarked (sheds chosen_here) mark.Shorthand p refl in
        ap (λ x. namespace_states (steps x)) (sym (new_names p faultless numbered s y there new free))
        ∙ states_by (given new) (looked y.name new loose) (declared y.name new loose) (new_reads y.name new loose) t (passes h)
        ∙ sym (states_by unsigned (looked y.name new loose) (declared y.name new loose) (old_reads y.name new loose) t (passes h))
        ∙ ap (λ x. namespace_states (steps x)) (old_names p faultless numbered s y there new free)
        ∙ marks.states

  -- of the renamed program that comes
  result_kept : (loose : Bool) (r : Tree) → rename p s new ≡ Ok r → holds_within (may_stand y.name new loose chosen_here) p.root ≡ true → namespace_states (steps r) ≡ namespace_states (steps p)
  result_kept loose r e h =
      let (bad, none, same, is) = ends_renamed p s new r e in
      ap (λ x. namespace_states (steps x)) is ∙ kept (none_means_free p s none) loose h

  or_true : (c : Bool) → (c || true) ≡ true
  or_true true = refl
  or_true false = refl

  pub states_unexported : (r : Tree) → rename p s new ≡ Ok r → holds_within (exports_neither y.name new) p.root ≡ true → namespace_states (steps r) ≡ namespace_states (steps p)
  states_unexported r e h =
      result_kept true r e
      (within_more (exports_neither y.name new) (may_stand y.name new true chosen_here) (λ n i. and_from (not (is kind.BindingIdentifier n) || true) (exports_neither y.name new n) (or_true (not (is kind.BindingIdentifier n))) i) p.root h)

  pub states_chosen : (r : Tree) → rename p s new ≡ Ok r → holds_within (names_chosen chosen_here y.name new) p.root ≡ true → namespace_states (steps r) ≡ namespace_states (steps p)
  states_chosen r e h = result_kept false r e h
