-- Where imports stand among the statements of a program, its root binds them, and that of a renamed program does too.
use Rattle.std.proofs.Common.{◌≡◌, ℕ, ◌==◌, List, [], ◌∷◌, Bool, true, false, ◌&&◌, if◌then◌else◌, cond, Some, None, Ok, inl, inr, ◌⊎◌, not, refl, sym, ap, subst, ◌∙◌, map, option_map}
use Rattle.std.specs.Prelude.{slice_get}
use Rattle.std.proofs.lemmas.Bool.Decides.{eqb_tells}
use Rattle.std.proofs.lemmas.Option.{slice_get-map}
use Rattle.semantic_syntax.proofs.Truth.{and_first}
use Rattle.semantic_syntax.specs.Sets.{meets, union}
use Rattle.semantic_syntax.specs.Tables.{Name, Symbol}
use Rattle.semantic_syntax.specs.declared.symbol_flags.TheConstants.SymbolFlags as symbol
use Rattle.semantic_kinds.specs.Kinds.{same_kind}
use Rattle.semantic_kinds.specs.declared.kind.AstType.TheVariants as kind
use Rattle.semantic_tree.specs.Faults.{first_fault}
use Rattle.semantic_tree.specs.Forest.{Forest, nothing, tree}
use Rattle.semantic_tree.specs.Tree.{Tree, IsNumbered}
use Rattle.semantic_model.specs.Analysis.{analysis_of}
use Rattle.semantic_model.specs.Binding.{Binding, bound_by}
use Rattle.semantic_model.specs.Entries.{Among}
use Rattle.semantic_model.specs.Event.{events, declarations}
use Rattle.semantic_model.specs.Exported.{exported_names}
use Rattle.semantic_model.specs.Fold.{Made, start}
use Rattle.semantic_model.specs.Hoist.{run}
use Rattle.semantic_model.specs.NamespaceStates.{namespace_states}
use Rattle.semantic_model.specs.Step.{steps}
use Rattle.semantic_model.specs.TablesOf.{tables_of, made_of}
use Rattle.semantic_model.proofs.fits.NothingInvented.{made_declared}
use Rattle.semantic_model.proofs.fold.Orders.{table_of}
use Rattle.semantic_model.proofs.form.Shape.{has_form}
use Rattle.semantic_model.proofs.lists.BindingLaws.{get_among}
use Rattle.binding_laws.proofs.BoundAtTop.{bound_at_top}
use Rattle.rename_model.specs.Refusal.{first_fixed, rename}
use Rattle.rename_model.specs.Renamed.{bears_name}
use Rattle.rename_model.specs.Same.{Same}
use Rattle.rename_model.specs.WithName.{with_name}
use Rattle.rename_model.proofs.Completeness.{no_fault_renamed}
use Rattle.rename_model.proofs.Refusals.{ends_renamed, none_means_free}
use Rattle.renaming_laws.specs.ImportsAtTop.{declares_import, has_no_imports, has_none_below, imports_at_top}
use Rattle.renaming_laws.specs.InBlocks.{ShareFlags}
use Rattle.renaming_laws.specs.KeptDeclarations.{declared_as}
use Rattle.renaming_laws.specs.LeavesRules.{asks_of_imports}
use Rattle.renaming_laws.proofs.FlagsHeld.{Source}
use Rattle.renaming_laws.proofs.KeptConflicts.{q, now_named, own_name, are_twins}
use Rattle.renaming_laws.proofs.Looks.{looks}
use Rattle.renaming_laws.proofs.RootImports.{symbols_at_top, KeepsImports}
use Rattle.renaming_laws.proofs.SameConflicts.{AreTwins, Level, in_the_end}
use Rattle.renaming_laws.proofs.TopImports.{declared_at_top}

-- ---- names are no matter

no_imports_named : (chosen : ℕ → Bool) (new : Name) (f : Forest) → has_no_imports (with_name chosen new f) ≡ has_no_imports f
no_imports_named chosen new nothing = refl
no_imports_named chosen new (tree r k span text marks below id after) = λ i. not (declares_import k) && (no_imports_named chosen new below i && no_imports_named chosen new after i)

none_below_named : (chosen : ℕ → Bool) (new : Name) (f : Forest) → has_none_below (with_name chosen new f) ≡ has_none_below f
none_below_named chosen new nothing = refl
none_below_named chosen new (tree r k span text marks below id after) = λ i. no_imports_named chosen new below i && none_below_named chosen new after i

top_named : (chosen : ℕ → Bool) (new : Name) (f : Forest) → imports_at_top (with_name chosen new f) ≡ imports_at_top f
top_named chosen new nothing = refl
top_named chosen new (tree r k span text marks below id after) =
    λ i. (if same_kind k kind.ImportDeclaration then none_below_named chosen new below i else no_imports_named chosen new below i) && top_named chosen new after i

-- ---- what is bound

among_top : (bs : List Binding) (x : Name) (s : ℕ) → Among {A = Binding} (record { scope = 0; name = x; symbol = s }) bs → Among s (map (λ b. b.1) (bound_by bs 0))
among_top [] x s a = absurd a
among_top (b ∷ bs) x s a = go (eqb_tells b.scope 0) a (among_top bs x s)
  where
    go : (((b.scope == 0) ≡ true) × (b.scope ≡ 0)) ⊎ (((b.scope == 0) ≡ false) × (b.scope ≡ 0 → ⊥)) → Among {A = Binding} (record { scope = 0; name = x; symbol = s }) (b ∷ bs) → (Among {A = Binding} (record { scope = 0; name = x; symbol = s }) bs → Among s (map (λ c. c.1) (bound_by bs 0))) → Among s (map (λ c. c.1) (cond (b.scope == 0) ((b.name, b.symbol) ∷ bound_by bs 0) (bound_by bs 0)))
    go (inl k) (inl e) later = rw k.0 (inl (ap (λ (c : Binding). c.symbol) e))
    go (inl k) (inr c) later = rw k.0 (inr (later c))
    go (inr k) (inl e) later = absurd (k.1 (ap (λ (c : Binding). c.scope) e))
    go (inr k) (inr c) later = rw k.0 (later c)

bound_there : (t : Tree) → first_fault t ≡ None → imports_at_top t.root.children ≡ true → (m : Made) → Among m (made_of t) → meets m.declaration.naming.flags symbol.Import.bits ≡ true → Among m.symbol (symbols_at_top t)
bound_there t h top m a import =
    let declared : Among m.declaration (declarations (events (steps t))) = elim (made_declared m start (events (steps t)) a) [ inl k ↦ absurd k | inr k ↦ k ] in
    let (flat, at, other) = declared_at_top t (has_form t h).root top m.declaration declared import in
    among_top (run start (events (steps t))).bindings m.declaration.naming.name m.symbol
    (get_among (run start (events (steps t))).bindings 0 m.declaration.naming.name m.symbol (bound_at_top t h m a flat at.0 at.1 other))

module _ (p : Tree) (faultless : first_fault p ≡ None) (numbered : IsNumbered p.root) (s : ℕ) (y : Symbol) (there : slice_get (tables_of p).symbols s ≡ Some y) (new : Name) where
  abbrev Q : Tree
  Q = q p faultless numbered s y there new

  module _ (free : first_fixed (exported_names (steps p)) (bears_name (analysis_of p) s) (steps p) ≡ None) (faultless' : first_fault Q ≡ None) (same : Same p Q) (states : namespace_states (steps Q) ≡ namespace_states (steps p)) (share : ShareFlags (made_of p)) (others : ShareFlags (made_of Q)) (asked_top : asks_of_imports p.source_type ≡ true → imports_at_top p.root.children ≡ true) where
    abbrev now : Made → Name
    now = now_named p faultless numbered s y there new free

    abbrev own : Made → Name
    own = own_name p faultless numbered s y there new free

    twins : AreTwins (events (steps p)) (events (steps Q)) now own (table_of p) (table_of Q)
    twins = are_twins p faultless numbered s y there new free faultless' same states share others

    level : Level (made_of p) (made_of Q) now own (table_of p) (table_of Q) twins.share twins.others_share (run start (events (steps p))) (run start (events (steps Q)))
    level = in_the_end (events (steps p)) (events (steps Q)) now own (table_of p) (table_of Q) twins

    kept : KeepsImports p Q
    kept asked r z e f =
        let top : imports_at_top p.root.children ≡ true = asked_top asked in
        let import : meets z.flags.bits symbol.Import.bits ≡ true = and_first (meets z.flags.bits symbol.Import.bits) (meets z.flags.bits (union symbol.Variable.bits (union symbol.Class.bits symbol.Function.bits))) f in
        let look : slice_get (looks (tables_of p).symbols) r ≡ Some (declared_as z) = slice_get-map declared_as (tables_of p).symbols r ∙ ap (option_map declared_as) e in
        let left : Source (made_of p) r symbol.Import.bits = level.left.sourced r (declared_as z) look symbol.Import.bits import in
        let right : Source (made_of Q) r symbol.Import.bits = level.right.sourced r (declared_as z) (ap (λ ls. slice_get ls r) (sym level.same) ∙ look) symbol.Import.bits import in
        let here : Among r (symbols_at_top p) = subst (λ n. Among n (symbols_at_top p)) left.symbol (bound_there p faultless top left.made left.among left.has) in
        let too : Among r (symbols_at_top Q) = subst (λ n. Among n (symbols_at_top Q)) right.symbol (bound_there Q faultless' (top_named (bears_name (analysis_of p) s) new p.root.children ∙ top) right.made right.among right.has) in
        (λ a. too, λ a. here)

  pub imports_kept : (r : Tree) → rename p s new ≡ Ok r → namespace_states (steps r) ≡ namespace_states (steps p) → ShareFlags (made_of p) → ShareFlags (made_of r) → (asks_of_imports p.source_type ≡ true → imports_at_top p.root.children ≡ true) → KeepsImports p r
  imports_kept r h e share others top =
      let (bad, none, same, is) = ends_renamed p s new r h in
      let free : first_fixed (exported_names (steps p)) (bears_name (analysis_of p) s) (steps p) ≡ None = none_means_free p s none in
      let formed : first_fault Q ≡ None = (no_fault_renamed p faultless numbered s y there new bad free).0 in
      subst (KeepsImports p) (sym is) (kept free formed (subst (Same p) is same) (subst (λ t. namespace_states (steps t) ≡ namespace_states (steps p)) is e) share (subst (λ t. ShareFlags (made_of t)) is others) top)
