-- Place by place, what the scopes answer is what the name means in the containers.
use Rattle.std.proofs.Common.{◌≡◌, ℕ, ◌==◌, List, [], ◌∷◌, ◌++◌, Option, Some, None, Bool, true, false, ◌&&◌, ◌||◌, cond, refl, sym, ap, subst, ◌∙◌, inl, inr, ◌⊎◌, bytes_eq, codes, map, filter}
use denote.Enum.Bare.{same_true}
use Rattle.std.specs.List.{list_any}
use Rattle.std.specs.Prelude.{slice_get}
use Rattle.std.proofs.lemmas.Bool.{cases_Bool, and_from, eq-eqb, eqb-true}
use Rattle.std.proofs.lemmas.Bool.Decides.{eqb_tells}
use Rattle.semantic_syntax.proofs.Truth.{and_first, and_second}
use Rattle.semantic_kinds.specs.declared.kind.AstType.TheVariants as kind
use Rattle.semantic_kinds.specs.declared.role.Role.{Role}
use Rattle.semantic_syntax.specs.Lookup.{Seen, Asked, is_arguments, lookup}
use Rattle.semantic_syntax.specs.Sets.{meets}
use Rattle.semantic_syntax.specs.SourceTypes.{is_typescript}
use Rattle.semantic_syntax.specs.Tables.{Name}
use Rattle.semantic_syntax.specs.Usable.{is_usable}
use Rattle.semantic_syntax.specs.declared.symbol_flags.TheConstants.SymbolFlags as symbol
use Rattle.semantic_tree.specs.Faults.{first_fault}
use Rattle.semantic_tree.specs.Forest.{Forest, nothing, tree}
use Rattle.semantic_tree.specs.Tree.{Tree, IsNumbered}
use Rattle.semantic_tree.specs.Views.{is}
use Rattle.semantic_tree.specs.declared.node.Node.{Node}
use Rattle.semantic_model.specs.Analysis.{analysis_of, symbol_at}
use Rattle.semantic_model.specs.Cursor.{on_entering}
use Rattle.semantic_model.specs.EachStep.{EachStep}
use Rattle.semantic_model.specs.Entries.{Among}
use Rattle.semantic_model.specs.Fold.{Made}
use Rattle.semantic_model.specs.Inside.{is_inside, is_in_header}
use Rattle.semantic_model.specs.Place.{Place, OpenScope, outside}
use Rattle.semantic_model.specs.Step.{Step, entering, opening, header_ending, closing, leaving, steps, steps_below, root_place, child_place}
use Rattle.semantic_model.specs.Tie.{symbol_by}
use Rattle.semantic_model.proofs.form.ParameterChains.{is_open_inside}
use Rattle.semantic_model.proofs.form.Shape.{has_form}
use Rattle.semantic_model.proofs.once.ListedUnder.{name_tells}
use Rattle.semantic_model.proofs.steps.EachStep.{EachOfTurn, each_left, each_of_node, each_of_turn, turn_of_each}
use Rattle.semantic_model.proofs.steps.Turn.{Turn, turn_at}
use Rattle.semantic_model.proofs.steps.TurnCases.{opening_case, ending_case, last_case}
use Rattle.walk_model.proofs.once.NodeIds.{root_numbered}
use Rattle.walk_model.proofs.places.Shapes.{holds_below}
use Rattle.semantic_model.specs.TablesOf.{made_of}
use Rattle.binding_laws.specs.SeenDeclarations.{is_own_name, stands_before_body, is_before_body, bound_by_all}
use Rattle.binding_laws.proofs.SymbolsAtNodes.{symbols_are_at_nodes}
use Rattle.typescript_ties.specs.Containers.{Container, MemberPath, same_container_kind, same_members, same_container, no_container, outside_function, containers_by}
use Rattle.typescript_ties.specs.MeaningSets.{MeaningSet, shares_meaning, sort_meanings}
use Rattle.typescript_ties.specs.NamedDeclarations.{NamedDeclaration, same_sort, is_sort, named_in}
use Rattle.typescript_ties.specs.Resolved.{Resolved, nowhere, declared_in, has_declared, declarations_in, has_meaning, resolve}
use Rattle.typescript_ties.specs.SeenTogether.{is_in_scope, is_seen_from, bound_together, asked_together}
use Rattle.typescript_ties.specs.SimpleNames.{is_common, is_apart, IsSimplyDeclared, HasOwnMembers, is_way_of}
use Rattle.typescript_ties.specs.contracts.declaration_sort.DeclarationSort.{the_type as the_sorts}
use Rattle.typescript_ties.specs.declared.container_kind.ContainerKind.TheVariants as container
use Rattle.typescript_ties.specs.declared.declaration_sort.DeclarationSort.TheVariants as sort
use Rattle.binding_laws.proofs.ChildChains.{ChainOf, outer_chain, inner_chain, OwnOf, own_of}
use Rattle.typescript_ties.proofs.ChildPlaces.{tells_inside, told_by_kind, tree_tells, tells_header, tree_headed}
use Rattle.binding_laws.proofs.EnteredOnce.{entered_once}
use Rattle.binding_laws.proofs.ListLaws.{filter_among, among_filter}
use Rattle.typescript_ties.proofs.FitsTogether.{any_meets, AreBoundAs, bound_as_one, is_asked, WayAsks, way_asks}
use Rattle.typescript_ties.proofs.HeadPlaces.{IsCommonPlace, CommonStep, common_places, round_place}
use Rattle.typescript_ties.proofs.GroupNodes.{stands_by}
use Rattle.typescript_ties.proofs.IndexPlaces.{is_index_named, is_hidden_from, is_hidden_round, IsOfIndex, of_index}
use Rattle.typescript_ties.proofs.OutsideGroups.{IsAside, aside_of}
use Rattle.typescript_ties.proofs.Pairs.{container_kind_is}
use Rattle.typescript_ties.proofs.PastParameters.{is_parameter_named}
use Rattle.typescript_ties.proofs.ScopeMembers.{IsHidden, SeenAs, seen_as, free_in, SeenToo, seen_too}
use Rattle.binding_laws.proofs.ScopeOpeners.{openers, IsOpened, AllOpened, IsPlaceOpened, places_opened, root_opener}
use Rattle.binding_laws.proofs.SmallLaws.{never}
use Rattle.typescript_ties.proofs.OutsidePlaces.{decorated, plain_round, plain_chain, decorator_has, child_out}
use Rattle.typescript_ties.proofs.ParameterLists.{is_list_kind, tells_parameters, tree_parameters}
use Rattle.typescript_ties.proofs.SimpleOnes.{is_not_apart}
use Rattle.typescript_ties.proofs.SimpleDeclarations.{IsBoth, of_language, made_so, one_symbol}
use Rattle.typescript_ties.proofs.UndeclaredFree.{OfEntered, IsEnteredIn, all_entered}

-- ---- lists

pub any_among : {A : Type 0} → (test : A → Bool) (xs : List A) → list_any test xs ≡ true → (x : A) × Among x xs × (test x ≡ true)
any_among test [] e = absurd (never (sym e))
any_among {A} test (y ∷ xs) e = go (test y) refl (any_among test xs) e
  where
    go : (b : Bool) → test y ≡ b → (list_any test xs ≡ true → (x : A) × Among x xs × (test x ≡ true)) → (b || list_any test xs) ≡ true → (x : A) × Among x (y ∷ xs) × (test x ≡ true)
    go true i f j = (y, inl refl, i)
    go false i f j = let (x, a, k) = f j in (x, inr a, k)

pub any_there : {A : Type 0} → (test : A → Bool) (xs : List A) (x : A) → Among x xs → test x ≡ true → list_any test xs ≡ true
any_there test [] x a e = absurd a
any_there test (y ∷ xs) x (inl i) e = rw (subst (λ z. test z ≡ true) (sym i) e) refl
any_there test (y ∷ xs) x (inr a) e = go (test y) (any_there test xs x a e)
  where
    go : (b : Bool) → list_any test xs ≡ true → (b || list_any test xs) ≡ true
    go true j = refl
    go false j = j

-- ---- what a name means in a group of containers

module _ (ns : List NamedDeclaration) (asked : MeaningSet) (x : Name) where
  abbrev has_it : Container → Bool
  has_it d = list_any (has_meaning asked) (declarations_in ns d x)

  -- none of the group has it, or one does
  abbrev InGroup : List Container → List Container → Type 0
  InGroup g cs = ((resolve ns (g ++ cs) asked x ≡ resolve ns cs asked x) × ((d : Container) → Among d g → has_it d ≡ false))
      ⊎ ((d : Container) × Among d g × (has_it d ≡ true) × (resolve ns (g ++ cs) asked x ≡ declared_in d (map (λ n. n.identifier) (declarations_in ns d x))))

  in_group : (g cs : List Container) → InGroup g cs
  in_group [] cs = inl (refl, λ d a. absurd a)
  in_group (c ∷ g) cs = go (has_it c) refl (in_group g cs)
    where
      go : (b : Bool) → has_it c ≡ b → InGroup g cs → InGroup (c ∷ g) cs
      go true e later = inr (c, inl refl, e, ap (λ t. cond t (declared_in c (map (λ n. n.identifier) (declarations_in ns c x))) (resolve ns (g ++ cs) asked x)) e)
      go false e (inl later) = inl (ap (λ t. cond t (declared_in c (map (λ n. n.identifier) (declarations_in ns c x))) (resolve ns (g ++ cs) asked x)) e ∙ later.0, λ d a. elim a [ inl i ↦ subst (λ z. has_it z ≡ false) i e | inr b ↦ later.1 d b ])
      go false e (inr later) =
          let (d, a, i, j) = later in
          inr (d, inr a, i, ap (λ t. cond t (declared_in c (map (λ n. n.identifier) (declarations_in ns c x))) (resolve ns (g ++ cs) asked x)) e ∙ j)

-- ---- one scope of a look-up

module _ (x : Name) (w : ℕ) (no_arguments : bytes_eq x (codes "arguments") ≡ false) where
  not_arguments : is_arguments x w ≡ false
  not_arguments = rw no_arguments refl

  next_if_none : (number flags : ℕ) (rest : List Asked) → symbol_by (lookup x w (record { scope = number; flags = flags; bound = None } ∷ rest)) ≡ symbol_by (lookup x w rest)
  next_if_none number flags rest = rw not_arguments refl

  next_if_unusable : (number flags y f : ℕ) (rest : List Asked) → is_usable w f ≡ false → symbol_by (lookup x w (record { scope = number; flags = flags; bound = Some (record { symbol = y; flags = f }) } ∷ rest)) ≡ symbol_by (lookup x w rest)
  next_if_unusable number flags y f rest e = rw (not_arguments, e) refl

  found_if_usable : (number flags y f : ℕ) (rest : List Asked) → is_usable w f ≡ true → symbol_by (lookup x w (record { scope = number; flags = flags; bound = Some (record { symbol = y; flags = f }) } ∷ rest)) ≡ Some y
  found_if_usable number flags y f rest e = rw (not_arguments, e) refl

-- ---- places

module _ (p : Tree) (h : first_fault p ≡ None) (common : is_common p ≡ true) (typed : is_typescript p.source_type ≡ true) (numbered : IsNumbered p.root) (x : Name) (no_arguments : bytes_eq x (codes "arguments") ≡ false)
    (simply : IsSimplyDeclared p x) (alone : HasOwnMembers p x) where
  abbrev ns : List NamedDeclaration
  ns = named_in p

  abbrev Both : Made → NamedDeclaration → Type 0
  Both m n = IsBoth p h common typed numbered x simply m.declaration n

  -- the identifiers have the symbol
  abbrev pub AllHave : List ℕ → ℕ → Type 0
  AllHave [] y = Unit {0}
  AllHave (i ∷ is) y = (symbol_at (analysis_of p) i ≡ Some y) × AllHave is y

  abbrev pub Agrees : Option ℕ → Resolved → Type 0
  Agrees o nowhere = o ≡ None
  Agrees o (declared_in c ids) = (y : ℕ) × (o ≡ Some y) × AllHave ids y

  -- a scope binds the name to a namespace that is no type, or further in to an import of types, and the look-up passes it
  pub record IsMissed (w : ℕ) : Type 0 where
    pub scope : ℕ
    pub number : ℕ
    pub flags : ℕ
    pub made : Made
    pub among : Among made (made_of p)
    pub in_it : is_in_scope scope x made ≡ true
    pub is : made.symbol ≡ number
    pub bound : bound_by_all (filter (is_in_scope scope x) (made_of p)) ≡ Some (record { symbol = number; flags = flags })
    pub any : (m : ℕ) → meets flags m ≡ any_meets m (filter (is_in_scope scope x) (made_of p))
    pub passed : ((meets flags symbol.AsNamespace.bits ≡ true) × (meets flags symbol.ByType.bits ≡ false)) ⊎ ((meets flags symbol.TypeImport.bits ≡ true) × ((scope == 0) ≡ false))
    pub unusable : is_usable w flags ≡ false

  -- the name is declared, and the look-up finds nothing
  pub record IsFreeThough (o : Option ℕ) : Type 0 where
    pub free : o ≡ None
    pub made : Made
    pub among : Among made (made_of p)
    pub named : made.declaration.naming.name ≡ x

  abbrev pub Matches : ℕ → Option ℕ → Resolved → Type 0
  Matches w o r = Agrees o r ⊎ (IsMissed w ⊎ IsFreeThough o)

  abbrev pub looked_up : ℕ → List OpenScope → Option ℕ
  looked_up w chain = symbol_by (lookup x w (map (asked_together p x) chain))

  -- of these scopes and containers, from behind a parameter or not
  abbrev pub AgreesIn : Bool → List OpenScope → List Container → Type 0
  AgreesIn past chain cs = (asked : MeaningSet) (w : ℕ) → is_way_of asked w ≡ true → (past ≡ true → asked.value ≡ false) → Matches w (looked_up w chain) (resolve ns cs asked x)

  abbrev pub AgreesRound : Place → Type 0
  AgreesRound q = AgreesIn (is_hidden_round ns x q.node q.path) q.chain (round_place p q)

  -- outside of the function, from its list of parameters
  abbrev pub AgreesOutside : Place → Type 0
  AgreesOutside q = is_list_kind q.node.kind ≡ true → AgreesIn (is_hidden_round ns x q.node q.path) (outside q.chain) (outside_function (round_place p q))

  from_behind : (a b : Bool) (chain : List OpenScope) (cs : List Container) → (a ≡ true → b ≡ true) → AgreesIn a chain cs → AgreesIn b chain cs
  from_behind a b chain cs f h asked w is_way no_value = h asked w is_way (λ i. no_value (f i))

  -- ---- what isn't in the scope at all

  named_x : (d : Container) (n : NamedDeclaration) → has_declared d x n ≡ true → n.name ≡ x
  named_x d n e = elim (name_tells n.name x) [
    | inl j ↦ j.1
    | inr j ↦ absurd (never (sym (and_first (bytes_eq n.name x) (same_container n.container d || list_any (λ z. same_container z d) n.also) e) ∙ j.0))
  ]

  past_outer : (a b : Bool) → b ≡ true → (a || b) ≡ true
  past_outer true b e = refl
  past_outer false b e = e

  past_first : (a b : Bool) → a ≡ true → (a || b) ≡ true
  past_first true b e = refl
  past_first false b e = absurd (never (sym e))

  -- what has the parameter of an index signature is its container
  index_in : (d : Container) (n : NamedDeclaration) → Among n ns → has_declared d x n ≡ true → is_sort sort.IndexParameter n ≡ true → same_container n.container d ≡ true
  index_in d n a j i = no_other (same_container n.container d) n.also (of_index p h n a i).also (and_second (bytes_eq n.name x) (same_container n.container d || list_any (λ z. same_container z d) n.also) j)
    where
      no_other : (u : Bool) (l : List Container) → l ≡ [] → (u || list_any (λ z. same_container z d) l) ≡ true → u ≡ true
      no_other true l e k = refl
      no_other false [] e k = absurd (never (sym k))
      no_other false (c ∷ l) e k = absurd cc

  index_kind : (d : Container) (n : NamedDeclaration) → Among n ns → has_declared d x n ≡ true → is_sort sort.IndexParameter n ≡ true → d.kind ≡ container.IndexSignature
  index_kind d n a j i = sym (container_kind_is n.container.kind d.kind (and_first (same_container_kind n.container.kind d.kind) (same_members n.container d n.container.members d.members) (index_in d n a j i))) ∙ (of_index p h n a i).in_index

  -- the parameter of an index signature is no value that is asked for in it
  module _ (q : Place) (node : Node) (asked : MeaningSet) (no_value : is_hidden_round ns x node (q.node ∷ q.path) ≡ true → asked.value ≡ false) where
    index_means_none : (d : Container) → d.node ≡ q.node.node_id → (n : NamedDeclaration) → Among n ns → has_declared d x n ≡ true → is_sort sort.IndexParameter n ≡ true → has_meaning asked n ≡ false
    index_means_none d at n a j i = ap (λ t. shares_meaning asked (sort_meanings t)) is_index ∙ none asked.value asked.is_type asked.namespace (no_value (past_first (is_hidden_from ns x q.node node) (is_hidden_round ns x q.node q.path) hidden))
      where
        is_index : n.sort ≡ sort.IndexParameter
        is_index = same_true the_sorts tt n.sort sort.IndexParameter i

        o : IsOfIndex p h n
        o = of_index p h n a i

        here : same_container n.container d ≡ true
        here = index_in d n a j i

        by_node : (l m : Option MemberPath) → l ≡ None → same_members n.container d l m ≡ true → n.container.node ≡ d.node
        by_node None None e k = eqb-true n.container.node d.node k
        by_node None (Some m) e k = absurd (never (sym k))
        by_node (Some l) m e k = absurd cc

        stands : n.container.node ≡ q.node.node_id
        stands = by_node n.container.members d.members o.unshared (and_second (same_container_kind n.container.kind d.kind) (same_members n.container d n.container.members d.members) here) ∙ at

        hidden : is_hidden_from ns x q.node node ≡ true
        hidden = past_outer (is kind.TSTypeParameterDeclaration node && list_any (is_parameter_named q.node x) ns) (list_any (is_index_named q.node x) ns) (any_there (is_index_named q.node x) ns n a
            (and_from (is_sort sort.IndexParameter n) (bytes_eq n.name x && n.container.node == q.node.node_id) i (and_from (bytes_eq n.name x) (n.container.node == q.node.node_id) (and_first (bytes_eq n.name x) (same_container n.container d || list_any (λ z. same_container z d) n.also) j) (eq-eqb n.container.node q.node.node_id stands))))

        none : (a b c : Bool) → a ≡ false → ((a && true) || ((b && false) || (c && false))) ≡ false
        none true b c k = absurd (never k)
        none false true true k = refl
        none false true false k = refl
        none false false true k = refl
        none false false false k = refl

  nothing_aside : (d : Container) → IsAside d → (asked : MeaningSet) → ((n : NamedDeclaration) → Among n ns → has_declared d x n ≡ true → is_sort sort.IndexParameter n ≡ true → has_meaning asked n ≡ false) → has_it ns asked x d ≡ false
  nothing_aside d aside asked index = elim (cases_Bool (has_it ns asked x d)) [
    | inr e ↦ e
    | inl e ↦ (let (n, a, i) = any_among (has_meaning asked) (declarations_in ns d x) e in
        let (b, j) = filter_among (has_declared d x) ns n a in
        elim (cases_Bool (is_sort sort.IndexParameter n)) [
          | inl o ↦ absurd (never (sym i ∙ index n b j o))
          | inr o ↦ absurd (none n b j o)
        ])
  ]
    where
      none : (n : NamedDeclaration) → Among n ns → has_declared d x n ≡ true → is_sort sort.IndexParameter n ≡ false → ⊥
      none n b j o =
          let named : n.name ≡ x = named_x d n j in
          let (w, both) = of_language p h common typed numbered x simply n b named o in
          let here : same_container n.container d ≡ true = left_or (same_container n.container d) (list_any (λ z. same_container z d) n.also) (and_second (bytes_eq n.name x) (same_container n.container d || list_any (λ z. same_container z d) n.also) j) (both.pair.also d aside.no_global) in
          let same : n.container.kind ≡ d.kind = container_kind_is n.container.kind d.kind (and_first (same_container_kind n.container.kind d.kind) (same_members n.container d n.container.members d.members) here) in
          never (sym aside.apart ∙ ap is_apart (sym same) ∙ is_not_apart n (simply.each n b named o))
        where
          left_or : (u v : Bool) → (u || v) ≡ true → v ≡ false → u ≡ true
          left_or true v i k = refl
          left_or false v i k = absurd (never (sym i ∙ k))

  aside_group : (g cs : List Container) → ((d : Container) → Among d g → IsAside d) → (asked : MeaningSet) → ((d : Container) → Among d g → (n : NamedDeclaration) → Among n ns → has_declared d x n ≡ true → is_sort sort.IndexParameter n ≡ true → has_meaning asked n ≡ false) → resolve ns (g ++ cs) asked x ≡ resolve ns cs asked x
  aside_group g cs f asked index = elim (in_group ns asked x g cs) [
    | inl e ↦ e.0
    | inr e ↦ (let (d, a, i, j) = e in absurd (never (sym i ∙ nothing_aside d (f d a) asked (index d a))))
  ]

  -- ---- a child within the scope of a place

  module _ (q : Place) (entered : Among (entering q) (steps p)) (k : IsCommonPlace p q) (agree : AgreesRound q) (r : Role) (node : Node) (text : List ℕ)
      (tells : tells_inside q.node.kind r node.kind text ≡ true) (headed : tells_header q.node.kind r node.kind text ≡ true) (inside : is_inside q.node.kind r ≡ true)
      (s : OpenScope) (opener : s.opener ≡ q.node.node_id) (header : s.in_header ≡ is_in_header q.node.kind r) (opened : IsOpened (openers (steps p)) s)
      (c : Place) (c_entered : Among (entering c) (steps p)) (c_round : round_place p c ≡ containers_by q.node.kind p.source_type q.node q.path (round_place p q) node ++ round_place p q)
      (asked : MeaningSet) (w : ℕ) (is_way : is_way_of asked w ≡ true) (no_value : is_hidden_round ns x node (q.node ∷ q.path) ≡ true → asked.value ≡ false) where
    abbrev group : List Container
    group = containers_by q.node.kind p.source_type q.node q.path (round_place p q) node

    abbrev outer : List Container
    outer = round_place p q

    abbrev seen : List Made
    seen = filter (is_seen_from s x) (made_of p)

    abbrev Seen' : Made → Type 0
    Seen' m = SeenAs p h common typed numbered x simply alone q entered k r node text tells headed inside s opener header opened c c_entered c_round m

    of_seen : (m : Made) → Among m seen → Seen' m
    of_seen m a = let (b, e) = filter_among (is_seen_from s x) (made_of p) m a in seen_as p h common typed numbered x simply alone q entered k r node text tells headed inside s opener header opened c c_entered c_round m b e

    abbrev Hidden : NamedDeclaration → Type 0
    Hidden n = IsHidden p h common typed numbered x simply alone q entered k r node text tells headed inside s opener header opened c c_entered c_round n

    abbrev Too : NamedDeclaration → Type 0
    Too n = SeenToo p h common typed numbered x simply alone q entered k r node text tells headed inside s opener header opened c c_entered c_round n

    -- what is meant is known to the tables, and so is what the same container has beside
    meant_other : (d : Container) → Among d group → (n : NamedDeclaration) → Among n (declarations_in ns d x) → has_meaning asked n ≡ true → is_sort sort.IndexParameter n ≡ false
    meant_other d b n a g = elim (cases_Bool (is_sort sort.IndexParameter n)) [
      | inr i ↦ i
      | inl i ↦ (let (j, e) = filter_among (has_declared d x) ns n a in absurd (never (sym g ∙ index_means_none q node asked no_value d (stands_by p.source_type q.node node q.path (round_place p q) q.node.kind d b) n j e i)))
    ]

    beside_other : (d : Container) → Among d group → (n m : NamedDeclaration) → Among n (declarations_in ns d x) → is_sort sort.IndexParameter n ≡ false → Among m (declarations_in ns d x) → is_sort sort.IndexParameter m ≡ false
    beside_other d b n m a other o = elim (cases_Bool (is_sort sort.IndexParameter m)) [
      | inr i ↦ i
      | inl i ↦ (let (j, e) = filter_among (has_declared d x) ns n a in
          let (l, f) = filter_among (has_declared d x) ns m o in
          absurd (never (sym (ap is_apart (index_kind d m l f i)) ∙ free_in p h common typed numbered x simply alone q entered k r node text tells headed inside s opener header opened c c_entered c_round n j other d b e)))
    ]

    of_declared : (d : Container) → Among d group → (n : NamedDeclaration) → Among n (declarations_in ns d x) → is_sort sort.IndexParameter n ≡ false → Too n
    of_declared d b n a other = let (i, e) = filter_among (has_declared d x) ns n a in seen_too p h common typed numbered x simply alone q entered k r node text tells headed inside s opener header opened c c_entered c_round n i other d b e

    too_among : (n : NamedDeclaration) (t : Too n) → Among t.made seen
    too_among n t = among_filter (is_seen_from s x) (made_of p) t.made t.among t.seen

    -- the meanings of a declaration, by its flags
    meaning_is : (m : Made) (n : NamedDeclaration) → Both m n → is_asked asked m.declaration.naming.flags ≡ has_meaning asked n
    meaning_is m n both = λ i. (asked.value && both.pair.flags.value i) || ((asked.is_type && both.pair.flags.is_type i) || (asked.namespace && both.pair.flags.namespace i))

    rest : List OpenScope → Option ℕ
    rest chain = looked_up w chain

    goal : (o : Option ℕ) → o ≡ looked_up w q.chain → resolve ns (group ++ outer) asked x ≡ resolve ns outer asked x → Matches w o (resolve ns (group ++ outer) asked x)
    goal o e f = subst (λ z. Matches w z (resolve ns (group ++ outer) asked x)) (sym e) (subst (Matches w (looked_up w q.chain)) (sym f) (agree asked w is_way (λ i. no_value (past_outer (is_hidden_from ns x q.node node) (is_hidden_round ns x q.node q.path) i))))

    abbrev Goal : Option Seen → Type 0
    Goal b = Matches w (symbol_by (lookup x w (record { scope = s.number; flags = s.flags; bound = b } ∷ map (asked_together p x) q.chain))) (resolve ns (group ++ outer) asked x)

    -- where a parameter is hidden, no value is asked for
    past_here : (n : NamedDeclaration) → Among n ns → n.name ≡ x → Hidden n → asked.value ≡ false
    past_here n a e z = no_value (past_first (is_hidden_from ns x q.node node) (is_hidden_round ns x q.node q.path)
        (past_first (is kind.TSTypeParameterDeclaration node && list_any (is_parameter_named q.node x) ns) (list_any (is_index_named q.node x) ns) (and_from (is kind.TSTypeParameterDeclaration node) (list_any (is_parameter_named q.node x) ns) z.past (any_there (is_parameter_named q.node x) ns n a
        (and_from (is_sort sort.Parameter n) (bytes_eq n.name x && n.container.node == q.node.node_id) (ap (λ t. same_sort t sort.Parameter) z.parameter)
        (and_from (bytes_eq n.name x) (n.container.node == q.node.node_id) (elim (name_tells n.name x) [ inl j ↦ j.0 | inr j ↦ absurd (j.1 e) ]) (eq-eqb n.container.node q.node.node_id z.stands)))))))

    hidden_means_none : (n : NamedDeclaration) → Hidden n → asked.value ≡ false → has_meaning asked n ≡ false
    hidden_means_none n z e = ap (λ t. shares_meaning asked (sort_meanings t)) z.parameter ∙ none asked.value asked.is_type asked.namespace e
      where
        none : (a b c : Bool) → a ≡ false → ((a && true) || ((b && false) || (c && false))) ≡ false
        none true b c i = absurd (never i)
        none false true true i = refl
        none false true false i = refl
        none false false true i = refl
        none false false false i = refl

    -- the scope doesn't declare it
    when_none : seen ≡ [] → Goal None
    when_none e = elim (in_group ns asked x group outer) [
      | inl f ↦ goal (symbol_by (lookup x w (record { scope = s.number; flags = s.flags; bound = None } ∷ map (asked_together p x) q.chain))) (next_if_none x w no_arguments s.number s.flags (map (asked_together p x) q.chain)) f.0
      | inr f ↦ (let (d, a, i, j) = f in
          let (n, b, g) = any_among (has_meaning asked) (declarations_in ns d x) i in
          let t : Too n = of_declared d a n b (meant_other d a n b g) in
          absurd (subst (Among t.made) e (too_among n t)))
    ]

    -- or it does
    module _ (first : Made) (more : List Made) (is_seen : seen ≡ first ∷ more) where
      all_one : (m : Made) → Among m (first ∷ more) → m.symbol ≡ first.symbol
      all_one m a =
          let b : Seen' m = of_seen m (subst (Among m) (sym is_seen) a) in
          let f : Seen' first = of_seen first (subst (Among first) (sym is_seen) (inl refl)) in
          one_symbol p h common typed numbered x simply m first (filter_among (is_seen_from s x) (made_of p) m (subst (Among m) (sym is_seen) a)).0 (filter_among (is_seen_from s x) (made_of p) first (subst (Among first) (sym is_seen) (inl refl))).0 b.name f.name (b.number ∙ sym f.number)

      together : AreBoundAs (first ∷ more) first.symbol
      together = bound_as_one first more first.symbol all_one

      abbrev F : ℕ
      F = together.flags

      any_is : (m : ℕ) → meets F m ≡ any_meets m seen
      any_is m = together.any m ∙ ap (any_meets m) (sym is_seen)

      bound_is : bound_together p x s ≡ Some (record { symbol = first.symbol; flags = F })
      bound_is = ap bound_by_all is_seen ∙ together.bound

      asks : WayAsks asked w F
      asks = way_asks w F asked is_way

      -- what one of them is, they are together
      flag_of : (v : Bool) (mask : ℕ) (m : Made) → Among m seen → (v && meets m.declaration.naming.flags mask) ≡ true → (v && meets F mask) ≡ true
      flag_of v mask m a e = and_from v (meets F mask) (and_first v (meets m.declaration.naming.flags mask) e) (any_is mask ∙ any_there (λ y. meets y.declaration.naming.flags mask) seen m a (and_second v (meets m.declaration.naming.flags mask) e))

      or_by : (a b c d e f : Bool) → (a ≡ true → d ≡ true) → (b ≡ true → e ≡ true) → (c ≡ true → f ≡ true) → (a || (b || c)) ≡ true → (d || (e || f)) ≡ true
      or_by true b c d e f g h i j = ap (λ t. t || (e || f)) (g refl)
      or_by false true c d e f g h i j = ap (λ t. d || (t || f)) (h refl) ∙ or_true d
        where
          or_true : (t : Bool) → (t || true) ≡ true
          or_true true = refl
          or_true false = refl
      or_by false false true d e f g h i j = ap (λ t. d || (e || t)) (i refl) ∙ both_true d e
        where
          both_true : (t u : Bool) → (t || (u || true)) ≡ true
          both_true true u = refl
          both_true false true = refl
          both_true false false = refl
      or_by false false false d e f g h i j = absurd (never (sym j))

      asked_up : (m : Made) → Among m seen → is_asked asked m.declaration.naming.flags ≡ true → is_asked asked F ≡ true
      asked_up m a e =
          or_by (asked.value && meets m.declaration.naming.flags symbol.ByValueAsType.bits) (asked.is_type && meets m.declaration.naming.flags symbol.ByType.bits) (asked.namespace && meets m.declaration.naming.flags symbol.AsNamespace.bits)
          (asked.value && meets F symbol.ByValueAsType.bits) (asked.is_type && meets F symbol.ByType.bits) (asked.namespace && meets F symbol.AsNamespace.bits)
          (flag_of asked.value symbol.ByValueAsType.bits m a) (flag_of asked.is_type symbol.ByType.bits m a) (flag_of asked.namespace symbol.AsNamespace.bits m a) e

      -- and what they are together, one of them is
      from_flag : (v : Bool) (mask : ℕ) → (v && meets F mask) ≡ true → (m : Made) × Among m seen × ((v && meets m.declaration.naming.flags mask) ≡ true)
      from_flag v mask e =
          let (m, a, i) = any_among (λ y. meets y.declaration.naming.flags mask) seen (sym (any_is mask) ∙ and_second v (meets F mask) e) in
          (m, a, and_from v (meets m.declaration.naming.flags mask) (and_first v (meets F mask) e) i)

      asked_down : is_asked asked F ≡ true → (m : Made) × Among m seen × (is_asked asked m.declaration.naming.flags ≡ true)
      asked_down e = by (asked.value && meets F symbol.ByValueAsType.bits) (asked.is_type && meets F symbol.ByType.bits) (asked.namespace && meets F symbol.AsNamespace.bits) refl refl refl e
        where
          one : (u v : Bool) → u ≡ true → (u || v) ≡ true
          one true v i = refl
          one false v i = absurd (never (sym i))

          two : (t u v : Bool) → u ≡ true → (t || (u || v)) ≡ true
          two true u v i = refl
          two false true v i = refl
          two false false v i = absurd (never (sym i))

          three : (t u v : Bool) → v ≡ true → (t || (u || v)) ≡ true
          three true u v i = refl
          three false true v i = refl
          three false false true i = refl
          three false false false i = absurd (never (sym i))

          by : (a b c : Bool) → (asked.value && meets F symbol.ByValueAsType.bits) ≡ a → (asked.is_type && meets F symbol.ByType.bits) ≡ b → (asked.namespace && meets F symbol.AsNamespace.bits) ≡ c → (a || (b || c)) ≡ true → (m : Made) × Among m seen × (is_asked asked m.declaration.naming.flags ≡ true)
          by true b c i j l e = let (m, a, g) = from_flag asked.value symbol.ByValueAsType.bits i in (m, a, one (asked.value && meets m.declaration.naming.flags symbol.ByValueAsType.bits) ((asked.is_type && meets m.declaration.naming.flags symbol.ByType.bits) || (asked.namespace && meets m.declaration.naming.flags symbol.AsNamespace.bits)) g)
          by false true c i j l e = let (m, a, g) = from_flag asked.is_type symbol.ByType.bits j in (m, a, two (asked.value && meets m.declaration.naming.flags symbol.ByValueAsType.bits) (asked.is_type && meets m.declaration.naming.flags symbol.ByType.bits) (asked.namespace && meets m.declaration.naming.flags symbol.AsNamespace.bits) g)
          by false false true i j l e = let (m, a, g) = from_flag asked.namespace symbol.AsNamespace.bits l in (m, a, three (asked.value && meets m.declaration.naming.flags symbol.ByValueAsType.bits) (asked.is_type && meets m.declaration.naming.flags symbol.ByType.bits) (asked.namespace && meets m.declaration.naming.flags symbol.AsNamespace.bits) g)
          by false false false i j l e = absurd (never (sym e))

      -- the identifiers of the container have the symbol
      all_have : (d : Container) → Among d group → (l : List NamedDeclaration) → ((n : NamedDeclaration) → Among n l → Among n (declarations_in ns d x) × (is_sort sort.IndexParameter n ≡ false)) → AllHave (map (λ n. n.identifier) l) first.symbol
      all_have d b [] f = tt
      all_have d b (n ∷ l) f =
          let t : Too n = of_declared d b n (f n (inl refl)).0 (f n (inl refl)).1 in (
            subst (λ i. symbol_at (analysis_of p) i ≡ Some first.symbol) (ap (λ z. z.identifier) t.both.told)
                (symbols_are_at_nodes p h numbered t.made t.among ∙ ap Some (all_one t.made (subst (Among t.made) is_seen (too_among n t)))),
            all_have d b l (λ z a. f z (inr a)),
          )

      -- in a header stands no namespace
      no_header : meets F symbol.AsNamespace.bits ≡ true → s.in_header ≡ false
      no_header e = elim (cases_Bool s.in_header) [
        | inr i ↦ i
        | inl i ↦ (let (m, a, g) = any_among (λ y. meets y.declaration.naming.flags symbol.AsNamespace.bits) seen (sym (any_is symbol.AsNamespace.bits) ∙ e) in
            let b : Seen' m = of_seen m a in
            let before : is_before_body s.number x m ≡ true = sym (ap (λ t. cond t (is_before_body s.number x m) (is_in_scope s.number x m)) i) ∙ (filter_among (is_seen_from s x) (made_of p) m a).1 in
            let headed : (m.declaration.route.target.in_header || is_own_name m.declaration) ≡ true = and_second (m.declaration.route.target.number == s.number) (m.declaration.route.target.in_header || is_own_name m.declaration) (and_first (stands_before_body s.number m.declaration) (bytes_eq m.declaration.naming.name x) before) in
            let unheaded : m.declaration.route.target.in_header ≡ false = b.both.pair.home.unheaded (sym b.both.pair.flags.namespace ∙ g) in
            let no_own : is_own_name m.declaration ≡ false = elim b.both.pair.own [
              | inl z ↦ z
              | inr (is_name, at) ↦ absurd (never (sym g ∙ b.both.pair.flags.namespace ∙ ap (λ z. (sort_meanings z).namespace) is_name))
            ] in
            absurd (never (sym headed ∙ (λ t. unheaded t || no_own t))))
      ]

      -- past the root's scope nothing is found
      at_top : s.number ≡ 0 → q.chain ≡ []
      at_top e =
          let id : s.opener ≡ 0 = some_is s.opener 0 (sym opened ∙ ap (slice_get (openers (steps p))) e ∙ root_opener p (has_form p h).root numbered) in
          ap (λ (z : Place). z.chain) (entered_once p numbered q (root_place p) entered (inl refl) (sym opener ∙ id ∙ sym (root_numbered p numbered).0))
        where
          some_is : (m n : ℕ) → Some m ≡ Some n → m ≡ n
          some_is m n i = cc

      abbrev passed : Option ℕ
      passed = symbol_by (lookup x w (record { scope = s.number; flags = s.flags; bound = Some (record { symbol = first.symbol; flags = F }) } ∷ map (asked_together p x) q.chain))

      missed : is_asked asked F ≡ true → is_usable w F ≡ false → IsMissed w ⊎ IsFreeThough passed
      missed e f =
          let (namespace, sort) = asks.missed e f in
          let plain : s.in_header ≡ false = no_header namespace in
          let in_scope : seen ≡ filter (is_in_scope s.number x) (made_of p) = rw plain refl in
          let a : Among first seen = subst (Among first) (sym is_seen) (inl refl) in
          let b : Seen' first = of_seen first a in
          let missed_so : ((meets F symbol.AsNamespace.bits ≡ true) × (meets F symbol.ByType.bits ≡ false)) ⊎ ((meets F symbol.TypeImport.bits ≡ true) × ((s.number == 0) ≡ false)) → IsMissed w = λ o.
          record {
            scope = s.number;
            number = first.symbol;
            flags = F;
            made = first;
            among = (filter_among (is_seen_from s x) (made_of p) first a).0;
            in_it = (filter_among (is_in_scope s.number x) (made_of p) first (subst (Among first) in_scope a)).1;
            is = refl;
            bound = ap bound_by_all (sym in_scope) ∙ bound_is;
            any = λ m. any_is m ∙ ap (any_meets m) in_scope;
            passed = o;
            unusable = f;
          } in
          elim sort [
            | inl no_type ↦ inl (missed_so (inl (namespace, no_type)))
            | inr import ↦ elim (eqb_tells s.number 0) [
              | inr i ↦ inl (missed_so (inr (import, i.0)))
              | inl i ↦ inr (record {
                free = next_if_unusable x w no_arguments s.number s.flags first.symbol F (map (asked_together p x) q.chain) f ∙ ap (looked_up w) (at_top i.1);
                made = first;
                among = (filter_among (is_seen_from s x) (made_of p) first a).0;
                named = b.name;
              })
            ]
          ]

      when_some : Goal (Some (record { symbol = first.symbol; flags = F }))
      when_some = elim (in_group ns asked x group outer) [
        | inr f ↦ (let (d, a, i, j) = f in
            let (n, b, g) = any_among (has_meaning asked) (declarations_in ns d x) i in
            let t : Too n = of_declared d a n b (meant_other d a n b g) in
            let is_so : is_asked asked F ≡ true = asked_up t.made (too_among n t) (meaning_is t.made n t.both ∙ g) in
            elim (cases_Bool (is_usable w F)) [
              | inl u ↦ inl (subst (Agrees (symbol_by (lookup x w (record { scope = s.number; flags = s.flags; bound = Some (record { symbol = first.symbol; flags = F }) } ∷ map (asked_together p x) q.chain)))) (sym j)
                  (first.symbol, found_if_usable x w no_arguments s.number s.flags first.symbol F (map (asked_together p x) q.chain) u, all_have d a (declarations_in ns d x) (λ z e. (e, beside_other d a n z b (meant_other d a n b g) e))))
              | inr u ↦ inr (missed is_so u)
            ])
        | inl f ↦ elim (cases_Bool (is_usable w F)) [
          | inl u ↦ (let (m, a, g) = asked_down (asks.found u) in
              let b : Seen' m = of_seen m a in
              let has : has_it ns asked x b.named.container ≡ true = any_there (has_meaning asked) (declarations_in ns b.named.container x) b.named (among_filter (has_declared b.named.container x) ns b.named b.both.named b.has) (sym (meaning_is m b.named b.both) ∙ g) in
              elim b.there [
                | inl z ↦ absurd (never (sym has ∙ f.1 b.named.container z))
                | inr z ↦ absurd (never (sym (sym (meaning_is m b.named b.both) ∙ g) ∙ hidden_means_none b.named z (past_here b.named b.both.named b.both.named_so z)))
              ])
          | inr u ↦ goal (symbol_by (lookup x w (record { scope = s.number; flags = s.flags; bound = Some (record { symbol = first.symbol; flags = F }) } ∷ map (asked_together p x) q.chain)))
              (next_if_unusable x w no_arguments s.number s.flags first.symbol F (map (asked_together p x) q.chain) u) f.0
        ]
      ]

    within_scope : Goal (bound_together p x s)
    within_scope = by seen refl
      where
        by : (l : List Made) → seen ≡ l → Goal (bound_together p x s)
        by [] e = subst Goal (sym (ap bound_by_all e)) (when_none e)
        by (m ∷ ms) e = subst Goal (sym (bound_is m ms e)) (when_some m ms e)

  -- ---- all places

  abbrev pub AgreedStep : Step → Type 0
  AgreedStep (entering q) = AgreesRound q × AgreesOutside q
  AgreedStep (opening q o) = Unit {0}
  AgreedStep (header_ending q o) = Unit {0}
  AgreedStep (closing q o) = Unit {0}
  AgreedStep (leaving q) = Unit {0}

  abbrev table : List ℕ
  table = openers (steps p)

  -- what is known of all steps
  abbrev Entered : Step → Type 0
  Entered = OfEntered (IsEnteredIn (steps p))

  child_agrees : (q : Place) (entered : Among (entering q) (steps p)) (k : IsCommonPlace p q) (agree : AgreesRound q) (r : Role) (node : Node) (text : List ℕ)
      (tells : tells_inside q.node.kind r node.kind text ≡ true) (headed : tells_header q.node.kind r node.kind text ≡ true)
      (chain : List OpenScope) → ChainOf q.node.kind r q.node q.chain chain → AllOpened table chain → (c : Place) → Among (entering c) (steps p) → c.chain ≡ chain → is_hidden_round ns x c.node c.path ≡ is_hidden_round ns x node (q.node ∷ q.path)
      → round_place p c ≡ containers_by q.node.kind p.source_type q.node q.path (round_place p q) node ++ round_place p q → AgreesRound c
  child_agrees q entered k agree r node text tells headed chain (outer_chain i) opened c c_entered e past c_round asked w is_way no_value =
      let g : List Container = containers_by q.node.kind p.source_type q.node q.path (round_place p q) node in
      let skipped : resolve ns (g ++ round_place p q) asked x ≡ resolve ns (round_place p q) asked x =
      aside_group g (round_place p q) (λ d a. aside_of p.source_type q.node node q.path (round_place p q) r q.node.kind d k.no_with i (told_by_kind q.node.kind r node.kind text tells) a) asked
      (λ d a. index_means_none q node asked (λ i. no_value (past ∙ i)) d (stands_by p.source_type q.node node q.path (round_place p q) q.node.kind d a)) in
      subst (λ l. Matches w (looked_up w l) (resolve ns (round_place p c) asked x)) (sym e)
      (subst (λ l. Matches w (looked_up w q.chain) (resolve ns l asked x)) (sym c_round) (subst (Matches w (looked_up w q.chain)) (sym skipped) (agree asked w is_way (λ i. no_value (past ∙ past_outer (is_hidden_from ns x q.node node) (is_hidden_round ns x q.node q.path) i)))))
  child_agrees q entered k agree r node text tells headed chain (inner_chain s i opener header lasting) opened c c_entered e past c_round asked w is_way no_value =
      subst (λ l. Matches w (looked_up w l) (resolve ns (round_place p c) asked x)) (sym e)
      (subst (λ l. Matches w (looked_up w (s ∷ q.chain)) (resolve ns l asked x)) (sym c_round)
      (within_scope q entered k agree r node text tells headed i s opener header opened.0 c c_entered c_round asked w is_way (λ i. no_value (past ∙ i))))

  -- any child, be it a decorator
  module _ (q : Place) (entered : Among (entering q) (steps p)) (k : IsCommonPlace p q) (agree : AgreesRound q) (out : AgreesOutside q) (r : Role) (node : Node) (text : List ℕ) (own : Option OpenScope) (cursor : ℕ)
      (params : tells_parameters q.node.kind r node.kind text ≡ true) (reached : is_inside q.node.kind r ≡ true → own ≡ None → ⊥) (own_is : OwnOf q own)
      (tells : tells_inside q.node.kind r node.kind text ≡ true) (headed : tells_header q.node.kind r node.kind text ≡ true)
      (opened : AllOpened table (child_place q own cursor r node).chain) (c_entered : Among (entering (child_place q own cursor r node)) (steps p)) where
    abbrev c : Place
    c = child_place q own cursor r node

    abbrev behind : Bool
    behind = is_hidden_round ns x node (q.node ∷ q.path)

    further : is_hidden_round ns x q.node q.path ≡ true → behind ≡ true
    further i = past_outer (is_hidden_from ns x q.node node) (is_hidden_round ns x q.node q.path) i

    out_further : is_list_kind q.node.kind ≡ true → AgreesIn behind (outside q.chain) (outside_function (round_place p q))
    out_further e = from_behind (is_hidden_round ns x q.node q.path) behind (outside q.chain) (outside_function (round_place p q)) further (out e)

    any_agrees : AgreesRound c
    any_agrees = elim (cases_Bool (decorated p.source_type q r node text own cursor params reached own_is)) [
      | inl e ↦ decorator_has p.source_type q r node text own cursor params reached own_is (AgreesIn behind) out_further e
      | inr e ↦ child_agrees q entered k agree r node text tells headed c.chain (plain_chain p.source_type q r node text own cursor params reached own_is e) opened c c_entered refl refl (plain_round p.source_type q r node text own cursor params reached own_is e)
    ]

    out_agrees : AgreesOutside c
    out_agrees = child_out p.source_type q r node text own cursor params reached own_is (AgreesIn behind) out_further k.before (from_behind (is_hidden_round ns x q.node q.path) behind q.chain (round_place p q) further agree)

    both_agree : AgreesRound c × AgreesOutside c
    both_agree = (any_agrees, out_agrees)

  agreed_below : (q : Place) (own : Option OpenScope) (n cursor : ℕ) (f : Forest) → Among (entering q) (steps p) → IsCommonPlace p q → AgreesRound q × AgreesOutside q → OwnOf q own
      → holds_below tells_inside q.node.kind f ≡ true → holds_below tells_header q.node.kind f ≡ true → holds_below tells_parameters q.node.kind f ≡ true
      → EachStep Entered (steps_below q own n cursor f) → EachStep (CommonStep p) (steps_below q own n cursor f) → EachStep (IsPlaceOpened table) (steps_below q own n cursor f) → EachStep AgreedStep (steps_below q own n cursor f)
  agreed_below q own n cursor nothing a k g o t h i es ks os = last_case (EachStep AgreedStep) q own n tt (tt, (tt, tt))
  agreed_below q own n cursor (tree r k2 span text marks below id after) a k g o t h i es ks os =
      let node : Node = record { kind = k2; span = span; text = text; marks = marks; children = below; node_id = id } in
      let turn : Turn = turn_at q own n cursor r node after in
      let entered : EachOfTurn Entered turn = turn_of_each Entered turn es in
      let commons : EachOfTurn (CommonStep p) turn = turn_of_each (CommonStep p) turn ks in
      let opens : EachOfTurn (IsPlaceOpened table) turn = turn_of_each (IsPlaceOpened table) turn os in
      let tells : (holds_below tells_inside k2 below && holds_below tells_inside q.node.kind after) ≡ true = and_second (tells_inside q.node.kind r k2 text) (holds_below tells_inside k2 below && holds_below tells_inside q.node.kind after) t in
      let headed : (holds_below tells_header k2 below && holds_below tells_header q.node.kind after) ≡ true = and_second (tells_header q.node.kind r k2 text) (holds_below tells_header k2 below && holds_below tells_header q.node.kind after) h in
      let params : (holds_below tells_parameters k2 below && holds_below tells_parameters q.node.kind after) ≡ true = and_second (tells_parameters q.node.kind r k2 text) (holds_below tells_parameters k2 below && holds_below tells_parameters q.node.kind after) i in
      let own_is : OwnOf q turn.scope = own_of q r own n o in
      let child : AgreesRound turn.child × AgreesOutside turn.child = both_agree q a k g.0 g.1 r node text turn.scope cursor
      (and_first (tells_parameters q.node.kind r k2 text) (holds_below tells_parameters k2 below && holds_below tells_parameters q.node.kind after) i) (is_open_inside q r own n) own_is
      (and_first (tells_inside q.node.kind r k2 text) (holds_below tells_inside k2 below && holds_below tells_inside q.node.kind after) t)
      (and_first (tells_header q.node.kind r k2 text) (holds_below tells_header k2 below && holds_below tells_header q.node.kind after) h)
      opens.whole.0 entered.whole.0 in
      each_of_turn AgreedStep turn (record {
        before = opening_case (EachStep AgreedStep) q r own n tt (tt, tt);
        whole = each_of_node AgreedStep turn.child turn.below child
            (agreed_below turn.child None turn.next turn.inner below entered.whole.0 commons.whole.0 child tt (and_first (holds_below tells_inside k2 below) (holds_below tells_inside q.node.kind after) tells) (and_first (holds_below tells_header k2 below) (holds_below tells_header q.node.kind after) headed)
            (and_first (holds_below tells_parameters k2 below) (holds_below tells_parameters q.node.kind after) params)
            (each_left Entered turn.below (leaving turn.child ∷ []) entered.whole.1) (each_left (CommonStep p) turn.below (leaving turn.child ∷ []) commons.whole.1) (each_left (IsPlaceOpened table) turn.below (leaving turn.child ∷ []) opens.whole.1)) tt;
        behind = ending_case (EachStep AgreedStep) q r turn.scope after tt (λ o. (tt, tt)) (λ o. (tt, tt)) (λ o. (tt, (tt, tt)));
        others = agreed_below q turn.scope turn.rest turn.past after a k g own_is (and_second (holds_below tells_inside k2 below) (holds_below tells_inside q.node.kind after) tells) (and_second (holds_below tells_header k2 below) (holds_below tells_header q.node.kind after) headed)
            (and_second (holds_below tells_parameters k2 below) (holds_below tells_parameters q.node.kind after) params) entered.others commons.others opens.others;
      })

  -- outermost there is what `global` blocks declare
  root_agrees : AgreesRound (root_place p)
  root_agrees asked w is_way no_value = by (has_it ns asked x no_container) refl
    where
      no_index : (n : NamedDeclaration) → Among n ns → has_declared no_container x n ≡ true → is_sort sort.IndexParameter n ≡ false
      no_index n b j = elim (cases_Bool (is_sort sort.IndexParameter n)) [
        | inr i ↦ i
        | inl i ↦ absurd (let z : container.Globals ≡ container.IndexSignature = index_kind no_container n b j i in absurd cc)
      ]

      by : (b : Bool) → has_it ns asked x no_container ≡ b → Matches w None (cond b (declared_in no_container (map (λ n. n.identifier) (declarations_in ns no_container x))) nowhere)
      by false e = inl refl
      by true e =
          let (n, a, i) = any_among (has_meaning asked) (declarations_in ns no_container x) e in
          let (b, j) = filter_among (has_declared no_container x) ns n a in
          let (d, both) = of_language p h common typed numbered x simply n b (named_x no_container n j) (no_index n b j) in
          let (y, made) = made_so p h common typed numbered x simply d both.among in
          inr (inr (record { free = refl; made = record { declaration = d; symbol = y }; among = made; named = ap (λ t. t.name) both.told ∙ both.named_so }))

  pub agreed_places : EachStep AgreedStep (steps p)
  agreed_places =
      let root : Place = root_place p in
      let n : ℕ = on_entering p.root.kind 0 in
      let below : List Step = steps_below root None 0 n p.root.children in
      let es : EachStep Entered (steps p) = all_entered (steps p) (steps p) (λ st a. a) in
      let ks : EachStep (CommonStep p) (steps p) = common_places p h common numbered in
      let os : EachStep (IsPlaceOpened table) (steps p) = places_opened p in
      let both : AgreesRound root × AgreesOutside root = (root_agrees, λ e. absurd (never (sym (subst (λ k. is_list_kind k ≡ true) (has_form p h).root e)))) in
      each_of_node AgreedStep root below both
      (agreed_below root None 0 n p.root.children es.0 ks.0 both tt (tree_tells p h) (tree_headed p h) (tree_parameters p h) (each_left Entered below (leaving root ∷ []) es.1) (each_left (CommonStep p) below (leaving root ∷ []) ks.1) (each_left (IsPlaceOpened table) below (leaving root ∷ []) os.1)) tt
