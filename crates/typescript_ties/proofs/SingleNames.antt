-- References of a name that has one symbol are tied to what it means, if it means anything.
use Rattle.std.proofs.Common.{◌≡◌, ℕ, List, [], ◌∷◌, Option, Some, None, Bool, true, false, ◌&&◌, ◌||◌, not, cond, refl, sym, ap, subst, ◌∙◌, inl, inr, bytes_eq, map, ◌==◌, ◌++◌, ◌⊎◌}
use Rattle.std.specs.List.{list_all, list_any}
use Rattle.std.proofs.lemmas.Bool.{cases_Bool, eqb-true, and_from, eq-eqb, not-true}
use Rattle.semantic_syntax.proofs.Truth.{and_first, and_second}
use Rattle.semantic_kinds.specs.declared.kind.AstType.TheVariants as kind
use Rattle.semantic_syntax.specs.SourceTypes.{is_typescript}
use Rattle.semantic_syntax.specs.Tables.{Name}
use Rattle.semantic_tree.specs.Faults.{first_fault}
use Rattle.semantic_tree.specs.Tree.{Tree, IsNumbered}
use Rattle.semantic_tree.specs.Views.{is}
use Rattle.semantic_model.specs.Analysis.{analysis_of, symbol_at, tied_at}
use Rattle.semantic_model.specs.Declaration.{Declaration}
use Rattle.semantic_model.specs.Entries.{Among}
use Rattle.semantic_model.specs.Event.{placed, written_declarations, events}
use Rattle.semantic_model.specs.Fold.{Made, start}
use Rattle.semantic_model.specs.Place.{Place}
use Rattle.semantic_model.specs.Reference.{reference_at}
use Rattle.semantic_model.specs.Step.{entering, steps}
use Rattle.semantic_model.specs.TablesOf.{tables_of}
use Rattle.semantic_model.proofs.form.Shape.{has_form}
use Rattle.semantic_model.proofs.once.ListedUnder.{name_tells}
use Rattle.program_laws.specs.SymbolNames.{IsNamed}
use Rattle.program_laws.proofs.TiedNames.{ties_have_names, declarations_have_names}
use Rattle.binding_laws.proofs.DeclaredMade.{is_made, placed_naming}
use Rattle.binding_laws.proofs.ListLaws.{filter_among}
use Rattle.binding_laws.proofs.ReferredNodes.{IsReferred, is_referred}
use Rattle.binding_laws.proofs.SmallLaws.{never, implied}
use Rattle.binding_laws.proofs.SymbolsAtNodes.{symbols_are_at_nodes}
use Rattle.tangle_model.specs.Tangled.{is_shared, tangle_reasons}
use Rattle.typescript_ties.specs.Containers.{Container, MemberPath, same_container_kind, same_members, same_container, no_container, past_node, outside_function, decorates_parameter, containers_by, containers}
use Rattle.typescript_ties.specs.MeaningSets.{MeaningSet}
use Rattle.typescript_ties.specs.NamedDeclarations.{NamedDeclaration, is_sort, named_in}
use Rattle.typescript_ties.specs.Resolved.{Resolved, nowhere, declared_in, has_declared, has_meaning, declarations_in, resolve, NameUse, name_use, resolved_by}
use Rattle.typescript_ties.specs.ResolvedTies.{is_that_symbol, is_tied_to_each, is_tied_as_resolved, is_use_tied, parting_uses}
use Rattle.typescript_ties.specs.SimpleNames.{is_common}
use Rattle.typescript_ties.specs.SingleNames.{means_something, is_meant_at, IsSingleName, is_meant_step, is_single_name}
use Rattle.typescript_ties.specs.declared.declaration_sort.DeclarationSort.TheVariants as sort
use Rattle.semantic_syntax.specs.declared.source_type.SourceType.{SourceType}
use Rattle.semantic_tree.specs.declared.node.Node.{Node}
use Rattle.semantic_model.proofs.lists.Members.{among_cases}
use Rattle.typescript_ties.specs.declared.container_kind.ContainerKind.TheVariants as container
use Rattle.typescript_ties.proofs.AgreedPlaces.{any_there}
use Rattle.typescript_ties.proofs.GroupNodes.{stands_by}
use Rattle.typescript_ties.proofs.IndexAsks.{under_index, asks_no_index}
use Rattle.typescript_ties.proofs.IndexPlaces.{is_index_named, IsOfIndex, of_index}
use Rattle.typescript_ties.proofs.Pairs.{container_kind_is}
use Rattle.typescript_ties.proofs.PartingUses.{none_part}
use Rattle.typescript_ties.proofs.SharedNames.{two_share, asks_own_index, never_free}
use Rattle.typescript_ties.proofs.SimpleByTrial.{all_among}
use Rattle.typescript_ties.proofs.ToldDeclarations.{IsTold, told_of}

-- ---- what is meant are declarations of the name

-- these identifiers are of declarations of the name that the tables know
abbrev AllOf : List NamedDeclaration → Name → List ℕ → Type 0
AllOf ds x [] = Unit {0}
AllOf ds x (i ∷ is) = ((d : NamedDeclaration) × Among d ds × (d.name ≡ x) × (is_sort sort.IndexParameter d ≡ false) × (d.identifier ≡ i)) × AllOf ds x is

abbrev AllMeant : List NamedDeclaration → Name → Resolved → Type 0
AllMeant ds x nowhere = Unit {0}
AllMeant ds x (declared_in c ids) = AllOf ds x ids

-- none of these containers has the name as the parameter of an index signature
abbrev NoneIndexed : List NamedDeclaration → List Container → Name → Type 0
NoneIndexed ds cs x = (c : Container) → Among c cs → (d : NamedDeclaration) → Among d ds → has_declared c x d ≡ true → is_sort sort.IndexParameter d ≡ false

all_of : (ds es : List NamedDeclaration) (x : Name) → ((d : NamedDeclaration) → Among d es → Among d ds × (d.name ≡ x) × (is_sort sort.IndexParameter d ≡ false)) → AllOf ds x (map (λ d. d.identifier) es)
all_of ds [] x f = tt
all_of ds (e ∷ es) x f = let (a, n, k) = f e (inl refl) in ((e, a, n, k, refl), all_of ds es x (λ d b. f d (inr b)))

has_name : (c : Container) (x : Name) (d : NamedDeclaration) → has_declared c x d ≡ true → d.name ≡ x
has_name c x d i = elim (name_tells d.name x) [
  | inl j ↦ j.1
  | inr j ↦ absurd (never (sym (and_first (bytes_eq d.name x) (same_container d.container c || list_any (λ e. same_container e c) d.also) i) ∙ j.0))
]

all_meant : (ds : List NamedDeclaration) (cs : List Container) (asked : MeaningSet) (x : Name) → NoneIndexed ds cs x → AllMeant ds x (resolve ds cs asked x)
all_meant ds [] asked x f = tt
all_meant ds (c ∷ cs) asked x f = by (list_any (has_meaning asked) (declarations_in ds c x)) (all_meant ds cs asked x (λ e a. f e (inr a)))
  where
    in_container : (d : NamedDeclaration) → Among d (declarations_in ds c x) → Among d ds × (d.name ≡ x) × (is_sort sort.IndexParameter d ≡ false)
    in_container d a = let (b, i) = filter_among (has_declared c x) ds d a in (b, has_name c x d i, f c (inl refl) d b i)

    by : (b : Bool) → AllMeant ds x (resolve ds cs asked x) → AllMeant ds x (cond b (declared_in c (map (λ d. d.identifier) (declarations_in ds c x))) (resolve ds cs asked x))
    by true later = all_of ds (declarations_in ds c x) x in_container
    by false later = later

-- ---- a container round a place stands at a node above it, or is what is global

in_past : (node : ℕ) (cs : List Container) (c : Container) → Among c (past_node node cs) → Among c cs
in_past node [] c a = a
in_past node (d ∷ cs) c a = by (d.node == node) (in_past node cs c) a
  where
    by : (b : Bool) → (Among c (past_node node cs) → Among c cs) → Among c (cond b (past_node node cs) (d ∷ cs)) → Among c (d ∷ cs)
    by true later i = inr (later i)
    by false later i = i

in_outside : (cs : List Container) (c : Container) → Among c (outside_function cs) → Among c cs
in_outside [] c a = a
in_outside (d ∷ cs) c a = inr (in_past d.node cs c a)

abbrev StandsAbove : Container → List Node → Type 0
StandsAbove c path = (c ≡ no_container) ⊎ ((y : Node) × Among y path × (c.node ≡ y.node_id))

stands_above : (s : SourceType) (child : Node) (path : List Node) (c : Container) → Among c (containers s child path) → StandsAbove c path
stands_above s child [] c (inl e) = inl (sym e)
stands_above s child [] c (inr a) = absurd a
stands_above s child (y ∷ path) c a = by (decorates_parameter y child) a (stands_above s y path c)
  where
    outer : List Container
    outer = containers s y path

    higher : StandsAbove c path → StandsAbove c (y ∷ path)
    higher (inl e) = inl e
    higher (inr (z, b, e)) = inr (z, inr b, e)

    by : (b : Bool) → Among c (cond b (outside_function outer) (containers_by y.kind s y path outer child ++ outer)) → (Among c outer → StandsAbove c path) → StandsAbove c (y ∷ path)
    by true i later = higher (later (in_outside outer c i))
    by false i later = elim (among_cases c (containers_by y.kind s y path outer child) outer i) [
      | inl j ↦ inr (y, inl refl, stands_by s y child path outer y.kind c j)
      | inr j ↦ higher (later j)
    ]

-- ---- the program

module _ (p : Tree) (h : first_fault p ≡ None) (common : is_common p ≡ true) (typed : is_typescript p.source_type ≡ true) (numbered : IsNumbered p.root) (x : Name) (untangled : tangle_reasons p x ≡ []) (single : IsSingleName p x) where
  abbrev ns : List NamedDeclaration
  ns = named_in p

  -- the symbol of the name is that of each declaration of it
  symbol_of : (y : ℕ) → IsNamed (tables_of p) y x → (d : NamedDeclaration) → Among d ns → d.name ≡ x → is_sort sort.IndexParameter d ≡ false → symbol_at (analysis_of p) d.identifier ≡ Some y
  symbol_of y is_y d a e known =
      let t : IsTold p h common typed numbered d = told_of p h common typed numbered d a known in
      let d2 : Declaration = placed (written_declarations (steps p)) t.written in
      let (s, made) = is_made d2 start (events (steps p)) t.among in
      let m : Made = record { declaration = d2; symbol = s } in
      let naming : d2.naming ≡ t.written.naming = placed_naming t.written.how (written_declarations (steps p)) t.written in
      let named : d2.naming.name ≡ x = ap (λ z. z.name) naming ∙ ap (λ z. z.name) t.pair.told ∙ e in
      let identifier : d2.naming.identifier ≡ d.identifier = ap (λ z. z.identifier) naming ∙ ap (λ z. z.identifier) t.pair.told in
      let other : IsNamed (tables_of p) s x = subst (IsNamed (tables_of p) s) named (declarations_have_names p (has_form p h) m made) in
      let same : s ≡ y = two_share (tables_of p).symbols s y other.symbol is_y.symbol x other.is_there is_y.is_there other.named is_y.named single.alone in
      ap (symbol_at (analysis_of p)) (sym identifier) ∙ symbols_are_at_nodes p h numbered m made ∙ ap Some same

  tied_to_all : (ids : List ℕ) (y : ℕ) → IsNamed (tables_of p) y x → AllOf ns x ids → list_all (λ i. is_that_symbol y (symbol_at (analysis_of p) i)) ids ≡ true
  tied_to_all [] y is_y k = refl
  tied_to_all (i ∷ ids) y is_y k =
      let (d, a, e, known, f) = k.0 in
      let one : is_that_symbol y (symbol_at (analysis_of p) i) ≡ true = ap (is_that_symbol y) (ap (symbol_at (analysis_of p)) (sym f) ∙ symbol_of y is_y d a e known) ∙ eq-eqb y y refl in
      rw one (tied_to_all ids y is_y k.1)

  module _ (q : Place) (entered : Among (entering q) (steps p)) (refers : is kind.IdentifierReference q.node ≡ true) (is_x : q.node.text ≡ x) where
    referred : IsReferred p q
    referred = is_referred p numbered q entered refers

    tied_so : (r : Resolved) → means_something r ≡ true → AllMeant ns x r → is_tied_as_resolved (analysis_of p) q.node.node_id r ≡ true
    tied_so nowhere i k = absurd (never (sym i))
    tied_so (declared_in c ids) i k = by referred.entry.symbol_id refl
      where
        by : (o : Option ℕ) → referred.entry.symbol_id ≡ o → is_tied_to_each (analysis_of p) ids (tied_at (analysis_of p) q.node.node_id) ≡ true
        by None e = absurd (never_free p h typed x untangled q referred is_x e)
        by (Some y) e =
            let is_y : IsNamed (tables_of p) y x = subst (IsNamed (tables_of p) y) is_x (ties_have_names p (has_form p h) referred.number y (reference_at q) referred.entry referred.reference referred.row e) in
            ap (is_tied_to_each (analysis_of p) ids) (referred.tied ∙ e) ∙ tied_to_all ids y is_y k

    -- no index signature above has it as its parameter
    module _ (c : Container) (a : Among c (containers p.source_type q.node q.path)) (d : NamedDeclaration) (b : Among d ns) (i : has_declared c x d ≡ true) (j : is_sort sort.IndexParameter d ≡ true) where
      o : IsOfIndex p h d
      o = of_index p h d b j

      no_other : (t : Bool) (l : List Container) → l ≡ [] → (t || list_any (λ z. same_container z c) l) ≡ true → t ≡ true
      no_other true l e k = refl
      no_other false [] e k = absurd (never (sym k))
      no_other false (z ∷ l) e k = absurd cc

      here : same_container d.container c ≡ true
      here = no_other (same_container d.container c) d.also o.also (and_second (bytes_eq d.name x) (same_container d.container c || list_any (λ z. same_container z c) d.also) i)

      kinds : d.container.kind ≡ c.kind
      kinds = container_kind_is d.container.kind c.kind (and_first (same_container_kind d.container.kind c.kind) (same_members d.container c d.container.members c.members) here)

      by_node : (l m : Option MemberPath) → l ≡ None → same_members d.container c l m ≡ true → d.container.node ≡ c.node
      by_node None None e k = eqb-true d.container.node c.node k
      by_node None (Some m) e k = absurd (never (sym k))
      by_node (Some l) m e k = absurd cc

      stands : d.container.node ≡ c.node
      stands = by_node d.container.members c.members o.unshared (and_second (same_container_kind d.container.kind c.kind) (same_members d.container c d.container.members c.members) here)

      under : (path : List Node) (y : Node) → Among y path → c.node ≡ y.node_id → under_index ns x path ≡ true
      under [] y k e = absurd k
      under (z ∷ path) y (inl k) e = ap (λ t. t || under_index ns x path) (any_there (is_index_named z x) ns d b
          (and_from (is_sort sort.IndexParameter d) (bytes_eq d.name x && d.container.node == z.node_id) j
          (and_from (bytes_eq d.name x) (d.container.node == z.node_id) (and_first (bytes_eq d.name x) (same_container d.container c || list_any (λ z. same_container z c) d.also) i) (eq-eqb d.container.node z.node_id (stands ∙ e ∙ ap (λ u. u.node_id) (sym k))))))
      under (z ∷ path) y (inr k) e = last (list_any (is_index_named z x) ns) (under_index ns x path) (under path y k e)
        where
          last : (t u : Bool) → u ≡ true → (t || u) ≡ true
          last true u f = refl
          last false u f = f

      has_none : ⊥
      has_none = elim (stands_above p.source_type q.node q.path c a) [
        | inl e ↦ (let z : container.IndexSignature ≡ container.Globals = sym o.in_index ∙ kinds ∙ ap (λ u. u.kind) e in absurd cc)
        | inr (y, k, e) ↦ asks_no_index p h numbered x (asks_own_index p h typed x untangled) q entered refers is_x (under q.path y k e)
      ]

    none_indexed : NoneIndexed ns (containers p.source_type q.node q.path) x
    none_indexed c a d b i = elim (cases_Bool (is_sort sort.IndexParameter d)) [ inr j ↦ j | inl j ↦ absurd (has_none c a d b i j) ]

    use_agrees : is_use_tied (analysis_of p) ns (name_use p.source_type q) ≡ true
    use_agrees =
        let u : NameUse = name_use p.source_type q in
        tied_so (resolved_by ns u) (single.meant q entered refers is_x) (subst (λ z. AllMeant ns x (resolve ns u.round u.asked z)) (sym is_x) (all_meant ns u.round u.asked x none_indexed))

  pub nothing_parts : parting_uses p x ≡ []
  nothing_parts = none_part p x use_agrees

-- ---- tried

module _ (p : Tree) (x : Name) (tried : is_single_name p x ≡ true) where
  abbrev alone : Bool
  alone = not (is_shared (tables_of p).symbols x)

  abbrev meant : Bool
  meant = list_all (is_meant_step p x) (steps p)

  named_x : (y : Name) → y ≡ x → bytes_eq y x ≡ true
  named_x y e = elim (name_tells y x) [ inl i ↦ i.0 | inr i ↦ absurd (i.1 e) ]

  pub single_name : IsSingleName p x
  single_name = record {
    alone = not-true (is_shared (tables_of p).symbols x) (and_first alone meant tried);
    meant = λ q entered refers is_x. implied (is kind.IdentifierReference q.node && bytes_eq q.node.text x) (is_meant_at p q)
        (all_among (is_meant_step p x) (steps p) (entering q) (and_second alone meant tried) entered) (and_from (is kind.IdentifierReference q.node) (bytes_eq q.node.text x) refers (named_x q.node.text is_x));
  }
