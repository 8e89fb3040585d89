-- Of a name that isn't tangled, no reference asks for a value in the type parameters of something that has a parameter of the name.
use Rattle.std.proofs.Common.{◌≡◌, ℕ, ◌==◌, List, [], ◌∷◌, ◌++◌, Some, None, Bool, true, false, ◌&&◌, ◌||◌, not, refl, sym, ap, subst, ◌∙◌, inl, inr, bytes_eq, filter}
use Rattle.std.specs.List.{list_any}
use Rattle.std.proofs.lemmas.Bool.{and_from, eq-eqb}
use Rattle.std.proofs.lemmas.Bool.Decides.{eqb_tells}
use denote.Enum.Bare.{same_true}
use Rattle.semantic_syntax.proofs.Truth.{and_first, and_second}
use Rattle.semantic_kinds.specs.Kinds.{same_kind}
use Rattle.semantic_kinds.specs.declared.kind.AstType.TheVariants as kind
use Rattle.semantic_syntax.specs.Reading.{scope_of}
use Rattle.semantic_syntax.specs.Sets.{meets}
use Rattle.semantic_syntax.specs.SourceTypes.{is_typescript}
use Rattle.semantic_syntax.specs.Tables.{Name}
use Rattle.semantic_syntax.specs.declared.symbol_flags.TheConstants.SymbolFlags as symbol
use Rattle.semantic_tree.specs.Faults.{first_fault}
use Rattle.semantic_tree.specs.Tree.{Tree, IsNumbered}
use Rattle.semantic_tree.specs.Views.{is}
use Rattle.semantic_tree.specs.declared.node.Node.{Node}
use Rattle.semantic_model.specs.Binding.{get}
use Rattle.semantic_model.specs.Declaration.{Declaration}
use Rattle.semantic_model.specs.Entries.{Among}
use Rattle.semantic_model.specs.Event.{events}
use Rattle.semantic_model.specs.Fold.{State, Made, start, flags_of, flags_or_none}
use Rattle.semantic_model.specs.Hoist.{run}
use Rattle.semantic_model.specs.Place.{Place}
use Rattle.semantic_model.specs.Step.{entering, steps}
use Rattle.semantic_model.specs.TablesOf.{tables_of, evals, made_of}
use Rattle.semantic_model.specs.Tie.{seen_as}
use Rattle.semantic_model.proofs.bindings.Owned.{kept_program}
use Rattle.semantic_model.proofs.bindings.Owners.{IsSymbolOf}
use Rattle.semantic_model.proofs.form.Clauses.{kind_is}
use Rattle.semantic_model.proofs.form.Shape.{has_form}
use Rattle.semantic_model.proofs.lists.BindingLaws.{get_among}
use Rattle.semantic_model.proofs.lists.Members.{among_at, among_left, among_right}
use Rattle.semantic_model.proofs.once.ListedUnder.{name_tells}
use Rattle.binding_laws.proofs.ListLaws.{filter_among, among_filter, of_flat, each_at}
use Rattle.binding_laws.specs.SeenDeclarations.{bound_by_all}
use Rattle.tangle_model.specs.Mention.{Mention, noted_if, noted_by, noted_at, mentions}
use Rattle.tangle_model.specs.Repeated.{is_mention_of}
use Rattle.tangle_model.specs.Surroundings.{in_type_parameters_under, around_under}
use Rattle.tangle_model.specs.Tangled.{is_inner_variable, any_mention, any_symbol, holds_in}
use Rattle.tangle_model.specs.declared.around.Around.{Around}
use Rattle.tangle_model.specs.declared.reason.Reason.TheVariants as reason
use Rattle.tangle_model.specs.declared.what.What.TheVariants as what
use Rattle.typescript_ties.specs.NamedDeclarations.{NamedDeclaration, same_sort, is_sort, named_in}
use Rattle.typescript_ties.specs.SeenTogether.{is_in_scope}
use Rattle.typescript_ties.specs.SimpleNames.{is_common, IsSimplyDeclared}
use Rattle.typescript_ties.specs.contracts.declaration_sort.DeclarationSort.{the_type as the_sorts}
use Rattle.typescript_ties.specs.declared.declaration_sort.DeclarationSort.TheVariants as sort
use Rattle.typescript_ties.proofs.AgreedPlaces.{any_among, any_there}
use Rattle.typescript_ties.proofs.FitsTogether.{AreBoundAs, bound_as_one}
use Rattle.typescript_ties.proofs.HeadPlaces.{AreDeep, CommonStep, common_places}
use Rattle.typescript_ties.proofs.LikeFlags.{SeenAlike}
use Rattle.typescript_ties.proofs.MergedBlocks.{opened_node}
use Rattle.typescript_ties.proofs.PastParameters.{is_parameter_named, is_past_parameter, AsksPastNoParameter}
use Rattle.binding_laws.proofs.ScopeOpeners.{root_opener}
use Rattle.binding_laws.proofs.SmallLaws.{never, implied}
use Rattle.typescript_ties.proofs.SimpleDeclarations.{of_language, made_so, all_free, clear_state, bound_at_target}

-- ---- where such a reference stands

module _ (ns : List NamedDeclaration) (x : Name) where
  -- in type parameters
  in_types : (child : Node) (path : List Node) → is_past_parameter ns x child path ≡ true → (is kind.TSTypeParameterDeclaration child || in_type_parameters_under path) ≡ true
  in_types child [] h = absurd (never (sym h))
  in_types child (f ∷ path) h = go (is kind.TSTypeParameterDeclaration child) (list_any (is_parameter_named f x) ns) (is_past_parameter ns x f path) h (in_types f path)
    where
      go : (a b c : Bool) → ((a && b) || c) ≡ true → (c ≡ true → (is kind.TSTypeParameterDeclaration f || in_type_parameters_under path) ≡ true) → (a || (is kind.TSTypeParameterDeclaration f || in_type_parameters_under path)) ≡ true
      go true b c i later = refl
      go false b c i later = later i

  -- there is the parameter, and not in the program itself
  record HasParameter : Type 0 where
    named : NamedDeclaration
    among : Among named ns
    parameter : named.sort ≡ sort.Parameter
    is_x : named.name ≡ x
    inner : named.container.node ≡ 0 → ⊥

  has_parameter : (child : Node) (path : List Node) → AreDeep child path → is_past_parameter ns x child path ≡ true → HasParameter
  has_parameter child [] d h = absurd (never (sym h))
  has_parameter child (f ∷ path) d h = go (is kind.TSTypeParameterDeclaration child && list_any (is_parameter_named f x) ns) (is_past_parameter ns x f path) refl h (has_parameter f path d.1)
    where
      first : (is kind.TSTypeParameterDeclaration child && list_any (is_parameter_named f x) ns) ≡ true → HasParameter
      first e =
          let (n, a, i) = any_among (is_parameter_named f x) ns (and_second (is kind.TSTypeParameterDeclaration child) (list_any (is_parameter_named f x) ns) e) in
          let rest : (bytes_eq n.name x && n.container.node == f.node_id) ≡ true = and_second (is_sort sort.Parameter n) (bytes_eq n.name x && n.container.node == f.node_id) i in
          record {
            named = n;
            among = a;
            parameter = same_true the_sorts tt n.sort sort.Parameter (and_first (is_sort sort.Parameter n) (bytes_eq n.name x && n.container.node == f.node_id) i);
            is_x = elim (name_tells n.name x) [ inl j ↦ j.1 | inr j ↦ absurd (never (sym (and_first (bytes_eq n.name x) (n.container.node == f.node_id) rest) ∙ j.0)) ];
            inner = λ z. d.0 (and_first (is kind.TSTypeParameterDeclaration child) (list_any (is_parameter_named f x) ns) e)
                (elim (eqb_tells n.container.node f.node_id) [ inl j ↦ sym j.1 ∙ z | inr j ↦ absurd (never (sym (and_second (bytes_eq n.name x) (n.container.node == f.node_id) rest) ∙ j.0)) ]);
          }

      go : (a b : Bool) → (is kind.TSTypeParameterDeclaration child && list_any (is_parameter_named f x) ns) ≡ a → (a || b) ≡ true → (b ≡ true → HasParameter) → HasParameter
      go true b e i later = first e
      go false b e i later = later i

-- ---- the program

module _ (p : Tree) (h : first_fault p ≡ None) (common : is_common p ≡ true) (typed : is_typescript p.source_type ≡ true) (numbered : IsNumbered p.root) (x : Name) (simply : IsSimplyDeclared p x) where
  abbrev final : State
  final = run start (events (steps p))

  named_x : (y : Name) → y ≡ x → bytes_eq x y ≡ true
  named_x y e = elim (name_tells x y) [ inl j ↦ j.0 | inr j ↦ absurd (j.1 (sym e)) ]

  -- the symbol of a parameter is a variable, and none of the program's scope
  parameter_noted : (n : NamedDeclaration) → Among n (named_in p) → n.sort ≡ sort.Parameter → n.name ≡ x → (n.container.node ≡ 0 → ⊥) → any_symbol is_inner_variable (tables_of p).symbols x ≡ true
  parameter_noted n a is_parameter e inner =
      let (d, both) = of_language p h common typed numbered x simply n a e (ap (λ t. same_sort t sort.IndexParameter) is_parameter) in
      let (y, made) = made_so p h common typed numbered x simply d both.among in
      let c : ℕ = d.route.target.number in
      let named : d.naming.name ≡ x = ap (λ t. t.name) both.told ∙ e in
      let bound : get final.bindings c x ≡ Some y = bound_at_target p h common typed numbered x simply (record { declaration = d; symbol = y }) made named in
      let w : IsSymbolOf final.symbols c x y = (kept_program p (has_form p h)).owned (record { scope = c; name = x; symbol = y }) (get_among final.bindings c x y bound) in
      let flag : meets d.naming.flags symbol.FunctionScopedVariable.bits ≡ true = implied (same_sort n.sort sort.Parameter) (meets d.naming.flags symbol.FunctionScopedVariable.bits) both.pair.flags.parameter (ap (λ t. same_sort t sort.Parameter) is_parameter) in
      let variable : meets w.symbol.flags.bits symbol.FunctionScopedVariable.bits ≡ true = ap (λ o. meets (flags_or_none o) symbol.FunctionScopedVariable.bits) (sym w.is_there) ∙ flag_of d y made named bound flag in
      let node : c ≡ 0 → n.container.node ≡ 0 = λ z. sym both.pair.home.opener ∙ sym (opened_node (evals (steps p)) (steps p) c d.route.target.opener both.opened) ∙ ap (λ k. (scope_of (tables_of p) k).node) z ∙ opened_node (evals (steps p)) (steps p) 0 0 (root_opener p (has_form p h).root numbered) in
      any_there (λ z. is_inner_variable z && bytes_eq x z.name) (tables_of p).symbols w.symbol (among_at (tables_of p).symbols y w.symbol w.is_there)
      (and_from (is_inner_variable w.symbol) (bytes_eq x w.symbol.name) (and_from (meets w.symbol.flags.bits symbol.FunctionScopedVariable.bits) (not (w.symbol.scope == 0)) variable
      (elim (eqb_tells w.symbol.scope 0) [ inl z ↦ absurd (inner (node (sym w.stands ∙ z.1))) | inr z ↦ ap not z.0 ])) (named_x w.symbol.name w.named))
    where
      -- what a declaration of the symbol is, the symbol is
      flag_of : (d : Declaration) (y : ℕ) → Among {A = Made} (record { declaration = d; symbol = y }) (made_of p) → d.naming.name ≡ x → get final.bindings d.route.target.number x ≡ Some y → meets d.naming.flags symbol.FunctionScopedVariable.bits ≡ true → meets (flags_of final y) symbol.FunctionScopedVariable.bits ≡ true
      flag_of d y made named bound flag = by (filter (is_in_scope c x) (made_of p)) refl
        where
          c : ℕ
          c = d.route.target.number

          m : Made
          m = record { declaration = d; symbol = y }

          own : Among m (filter (is_in_scope c x) (made_of p))
          own = among_filter (is_in_scope c x) (made_of p) m made (and_from (c == c) (bytes_eq d.naming.name x) (eq-eqb c c refl) (elim (name_tells d.naming.name x) [ inl j ↦ j.0 | inr j ↦ absurd (j.1 named) ]))

          some_is : (a b : ℕ) → Some a ≡ Some b → a ≡ b
          some_is a b i = cc

          all_one : (z : Made) → Among z (filter (is_in_scope c x) (made_of p)) → z.symbol ≡ y
          all_one z b =
              let (i, j) = filter_among (is_in_scope c x) (made_of p) z b in
              let number : z.declaration.route.target.number ≡ c = elim (eqb_tells z.declaration.route.target.number c) [ inl k ↦ k.1 | inr k ↦ absurd (never (sym (and_first (z.declaration.route.target.number == c) (bytes_eq z.declaration.naming.name x) j) ∙ k.0)) ] in
              let z_named : z.declaration.naming.name ≡ x = elim (name_tells z.declaration.naming.name x) [ inl k ↦ k.1 | inr k ↦ absurd (never (sym (and_second (z.declaration.route.target.number == c) (bytes_eq z.declaration.naming.name x) j) ∙ k.0)) ] in
              some_is z.symbol y (sym (bound_at_target p h common typed numbered x simply z i z_named) ∙ ap (λ k. get final.bindings k x) number ∙ bound)

          by : (l : List Made) → filter (is_in_scope c x) (made_of p) ≡ l → meets (flags_of final y) symbol.FunctionScopedVariable.bits ≡ true
          by [] e = absurd (subst (Among m) e own)
          by (z ∷ zs) e =
              let together : AreBoundAs (z ∷ zs) y = bound_as_one z zs y (λ v b. all_one v (subst (Among v) (sym e) b)) in
              let alike : SeenAlike (Some (record { symbol = y; flags = flags_of final y })) (Some (record { symbol = y; flags = together.flags })) =
              subst (λ o. SeenAlike (seen_as final o) (Some (record { symbol = y; flags = together.flags }))) bound (subst (SeenAlike (seen_as final (get final.bindings c x))) (ap bound_by_all e ∙ together.bound) ((clear_state p h common typed numbered x simply).counted c (all_free p h common typed numbered x simply c))) in
              alike.1 symbol.FunctionScopedVariable.bits refl ∙ together.any symbol.FunctionScopedVariable.bits ∙ any_there (λ v. meets v.declaration.naming.flags symbol.FunctionScopedVariable.bits) (z ∷ zs) m (subst (Among m) e own) flag

  -- a reference in type parameters is noted
  module _ (q : Place) (entered : Among (entering q) (steps p)) (refers : is kind.IdentifierReference q.node ≡ true) (is_x : q.node.text ≡ x) where
    abbrev a : Around
    a = around_under p.source_type q.path

    abbrev m : Mention
    m = record { what = what.InTypeParameters; home = a.home; name = q.node.text }

    abbrev own : List Mention
    own = noted_if a.in_type_parameters what.InTypeParameters a.home q.node.text

    abbrev before : List Mention
    before =
        noted_if a.in_with what.InWith a.home q.node.text
        ++ noted_if (not (a.extends == 0)) what.BesideInfer a.extends q.node.text
        ++ noted_if (not (a.index_signature == 0)) what.InIndexSignature a.index_signature q.node.text

    own_there : in_type_parameters_under q.path ≡ true → Among m own
    own_there types = subst (λ b. Among m (noted_if b what.InTypeParameters a.home q.node.text)) (sym types) (inl refl)

    there : in_type_parameters_under q.path ≡ true → Among m (noted_by kind.IdentifierReference a q.node)
    there types = among_left m (before ++ own) (noted_if a.exports_types what.ExportedType a.home q.node.text) (among_right m before own (own_there types))

    reference_there : in_type_parameters_under q.path ≡ true → any_mention (is_mention_of what.InTypeParameters) (mentions p) x ≡ true
    reference_there types =
        any_there (λ z. is_mention_of what.InTypeParameters z && bytes_eq x z.name) (mentions p) m
        (of_flat (noted_at p.source_type) (steps p) (entering q) m entered (subst (λ k. Among m (noted_by k a q.node)) (sym (kind_is q.node.kind kind.IdentifierReference refers)) (there types))) (named_x q.node.text is_x)

  pub asks_past_none : holds_in p.source_type (mentions p) (tables_of p) reason.HiddenParameter x ≡ false → AsksPastNoParameter p x
  asks_past_none hidden q entered refers is_x past =
      let w : HasParameter (named_in p) x = has_parameter (named_in p) x q.node q.path (each_at (CommonStep p) (steps p) (entering q) (common_places p h common numbered) entered).deep past in
      let types : in_type_parameters_under q.path ≡ true = ap (λ k. same_kind k kind.TSTypeParameterDeclaration || in_type_parameters_under q.path) (sym (kind_is q.node.kind kind.IdentifierReference refers)) ∙ in_types (named_in p) x q.node q.path past in
      let noted : any_mention (is_mention_of what.InTypeParameters) (mentions p) x ≡ true = reference_there q entered refers is_x types in
      let variable : any_symbol is_inner_variable (tables_of p).symbols x ≡ true = parameter_noted w.named w.among w.parameter w.is_x w.inner in
      absurd (never (sym (and_from (is_typescript p.source_type && any_mention (is_mention_of what.InTypeParameters) (mentions p) x) (any_symbol is_inner_variable (tables_of p).symbols x) (and_from (is_typescript p.source_type) (any_mention (is_mention_of what.InTypeParameters) (mentions p) x) typed noted) variable) ∙ hidden))
