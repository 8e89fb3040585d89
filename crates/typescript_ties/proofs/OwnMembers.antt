-- A name that isn't tangled has the members to itself among which it is one.
use Rattle.std.proofs.Common.{◌≡◌, ℕ, ◌==◌, [], ◌∷◌, Option, Some, None, true, false, ◌&&◌, refl, sym, ap, subst, ◌∙◌, inl, inr, ◌⊎◌, bytes_eq, codes, List}
use Rattle.std.specs.Prelude.{slice_get}
use Rattle.std.proofs.lemmas.Bool.{and_from, cases_Bool}
use Rattle.std.proofs.lemmas.Bool.Decides.{eqb_tells}
use Rattle.semantic_syntax.proofs.Truth.{and_first, and_second}
use Rattle.semantic_kinds.specs.declared.kind.AstType.TheVariants as kind
use Rattle.semantic_kinds.specs.declared.role.Role.TheVariants as role
use Rattle.semantic_syntax.specs.Lookup.{Seen}
use Rattle.semantic_syntax.specs.Members.{contains}
use Rattle.semantic_syntax.specs.Reading.{scope_of}
use Rattle.semantic_syntax.specs.SourceTypes.{is_typescript}
use Rattle.semantic_syntax.specs.Tables.{Name, Symbol}
use Rattle.semantic_tree.specs.Faults.{first_fault}
use Rattle.semantic_tree.specs.Tree.{Tree, IsNumbered}
use Rattle.semantic_tree.specs.Views.{child_of}
use Rattle.semantic_tree.specs.declared.node.Node.{Node}
use Rattle.semantic_model.specs.Entries.{Among}
use Rattle.semantic_model.specs.Event.{events}
use Rattle.semantic_model.specs.Fold.{State, start}
use Rattle.semantic_model.specs.Hoist.{run}
use Rattle.semantic_model.specs.Place.{Place}
use Rattle.semantic_model.specs.Step.{entering, steps}
use Rattle.semantic_model.specs.TablesOf.{tables_of, evals}
use Rattle.semantic_model.proofs.bindings.Owned.{kept_program}
use Rattle.semantic_model.proofs.bindings.Owners.{IsSymbolOf}
use Rattle.semantic_model.proofs.form.Shape.{has_form}
use Rattle.semantic_model.proofs.lists.BindingLaws.{get_among}
use Rattle.semantic_model.proofs.lists.Members.{among_at}
use Rattle.semantic_model.proofs.once.ListedUnder.{name_tells}
use Rattle.binding_laws.proofs.ListLaws.{of_flat, each_at}
use Rattle.binding_laws.proofs.SmallLaws.{never}
use Rattle.tangle_model.specs.Mention.{Mention, noted_by, noted_at, mentions}
use Rattle.tangle_model.specs.Surroundings.{around_under}
use Rattle.tangle_model.specs.Tangled.{merged_openers, is_merged_member, any_symbol}
use Rattle.typescript_ties.specs.Containers.{Container, MemberPath, same_container_kind, same_names, same_members, same_container, path_below, containers}
use Rattle.typescript_ties.specs.NamedDeclarations.{NamedDeclaration, is_sort, named_in}
use Rattle.typescript_ties.specs.SimpleNames.{is_common, is_apart, IsSimplyDeclared, HasOwnMembers}
use Rattle.typescript_ties.specs.declared.container_kind.ContainerKind.TheVariants as container
use Rattle.typescript_ties.specs.declared.declaration_sort.DeclarationSort.TheVariants as sort
use Rattle.typescript_ties.proofs.AgreedPlaces.{any_there}
use Rattle.typescript_ties.proofs.EnumBodies.{IsEnumOf, enum_of}
use Rattle.typescript_ties.proofs.HeadPlaces.{HasOrigin, CommonStep, common_places, round_place}
use Rattle.typescript_ties.proofs.IndexPlaces.{of_index}
use Rattle.typescript_ties.proofs.MergedBlocks.{block_of, merged_opener, opened_node}
use Rattle.typescript_ties.proofs.Pairs.{container_kind_is}
use Rattle.typescript_ties.proofs.SharedMembers.{MemberSort, unshared, of_namespace, of_module, of_globals, of_enum, member_sort}
use Rattle.typescript_ties.proofs.SimpleOnes.{is_not_apart}
use Rattle.typescript_ties.proofs.SimpleDeclarations.{of_language, made_so, bound_at_target}

seen_is : (a b : Seen) → Some a ≡ Some b → a ≡ b
seen_is a b e = cc

-- the first of equal names
first_name : (a b : Name) (c d : Container) (m n : Option MemberPath) → same_names (path_below a c m).names (path_below b d n).names ≡ true → a ≡ b
first_name a b c d None None h = name_is a b (and_first (bytes_eq a b) (same_names [] []) h)
  where
    name_is : (a b : Name) → bytes_eq a b ≡ true → a ≡ b
    name_is a b e = elim (name_tells a b) [ inl i ↦ i.1 | inr i ↦ absurd (never (sym e ∙ i.0)) ]
first_name a b c d None (Some n) h = name_is a b (and_first (bytes_eq a b) (same_names [] n.names) h)
  where
    name_is : (a b : Name) → bytes_eq a b ≡ true → a ≡ b
    name_is a b e = elim (name_tells a b) [ inl i ↦ i.1 | inr i ↦ absurd (never (sym e ∙ i.0)) ]
first_name a b c d (Some m) None h = name_is a b (and_first (bytes_eq a b) (same_names m.names []) h)
  where
    name_is : (a b : Name) → bytes_eq a b ≡ true → a ≡ b
    name_is a b e = elim (name_tells a b) [ inl i ↦ i.1 | inr i ↦ absurd (never (sym e ∙ i.0)) ]
first_name a b c d (Some m) (Some n) h = name_is a b (and_first (bytes_eq a b) (same_names m.names n.names) h)
  where
    name_is : (a b : Name) → bytes_eq a b ≡ true → a ≡ b
    name_is a b e = elim (name_tells a b) [ inl i ↦ i.1 | inr i ↦ absurd (never (sym e ∙ i.0)) ]

module _ (p : Tree) (h : first_fault p ≡ None) (common : is_common p ≡ true) (typed : is_typescript p.source_type ≡ true) (numbered : IsNumbered p.root) (x : Name) (simply : IsSimplyDeclared p x)
    (unmerged : any_symbol (is_merged_member (mentions p) (tables_of p)) (tables_of p).symbols x ≡ false) where
  abbrev final : State
  final = run start (events (steps p))

  -- the symbol of a declaration is one of the scope that its container's node opens
  record IsOf (node : ℕ) : Type 0 where
    symbol : Symbol
    number : ℕ
    is_there : slice_get (tables_of p).symbols number ≡ Some symbol
    named : symbol.name ≡ x
    stands : (scope_of (tables_of p) symbol.scope).node ≡ node

  symbol_of : (n : NamedDeclaration) → Among n (named_in p) → n.name ≡ x → is_sort sort.IndexParameter n ≡ false → IsOf n.container.node
  symbol_of n a e other =
      let (d, both) = of_language p h common typed numbered x simply n a e other in
      let (y, made) = made_so p h common typed numbered x simply d both.among in
      let c : ℕ = d.route.target.number in
      let named : d.naming.name ≡ x = ap (λ t. t.name) both.told ∙ e in
      let w : IsSymbolOf final.symbols c x y = (kept_program p (has_form p h)).owned (record { scope = c; name = x; symbol = y }) (get_among final.bindings c x y (bound_at_target p h common typed numbered x simply (record { declaration = d; symbol = y }) made named)) in
      record {
        symbol = w.symbol;
        number = y;
        is_there = w.is_there;
        named = w.named;
        stands = ap (λ z. (scope_of (tables_of p) z).node) w.stands ∙ opened_node (evals (steps p)) (steps p) c d.route.target.opener both.opened ∙ both.pair.home.opener;
      }

  -- so two blocks of one name are one where they have it
  same_block : (node other : ℕ) (name : Name) → IsOf node → Among (block_of node name) (mentions p) → Among (block_of other name) (mentions p) → node ≡ other
  same_block node other name y a b = elim (eqb_tells node other) [
    | inl e ↦ e.1
    | inr e ↦ (let merged : contains (merged_openers (mentions p)) node ≡ true = merged_opener (mentions p) node other name e.1 a b in
        let member : is_merged_member (mentions p) (tables_of p) y.symbol ≡ true = subst (λ z. contains (merged_openers (mentions p)) z ≡ true) (sym y.stands) merged in
        absurd (never (sym (any_there (λ z. is_merged_member (mentions p) (tables_of p) z && bytes_eq x z.name) (tables_of p).symbols y.symbol (among_at (tables_of p).symbols y.number y.symbol y.is_there)
        (and_from (is_merged_member (mentions p) (tables_of p) y.symbol) (bytes_eq x y.symbol.name) member (elim (name_tells x y.symbol.name) [ inl j ↦ j.0 | inr j ↦ absurd (j.1 (sym y.named)) ]))) ∙ unmerged)))
  ]

  -- ---- what is noted of blocks

  noted : (q : Place) (m : Mention) → Among (entering q) (steps p) → Among m (noted_by q.node.kind (around_under p.source_type q.path) q.node) → Among m (mentions p)
  noted q m a b = of_flat (noted_at p.source_type) (steps p) (entering q) m a b

  namespace_noted : (q : Place) → Among (entering q) (steps p) → q.node.kind ≡ kind.TSNamespaceDeclaration → (id : Node) → child_of role.Id q.node ≡ Some id → Among (block_of q.node.node_id id.text) (mentions p)
  namespace_noted q a k id e = noted q (block_of q.node.node_id id.text) a (subst (λ z. Among (block_of q.node.node_id id.text) (noted_by z (around_under p.source_type q.path) q.node)) (sym k) (rw e (inl refl)))

  module_noted : (q : Place) → Among (entering q) (steps p) → q.node.kind ≡ kind.TSExternalModuleDeclaration → (id : Node) → child_of role.Id q.node ≡ Some id → Among (block_of q.node.node_id id.text) (mentions p)
  module_noted q a k id e = noted q (block_of q.node.node_id id.text) a (subst (λ z. Among (block_of q.node.node_id id.text) (noted_by z (around_under p.source_type q.path) q.node)) (sym k) (rw e (inl refl)))

  global_noted : (q : Place) → Among (entering q) (steps p) → q.node.kind ≡ kind.TSGlobalDeclaration → Among (block_of q.node.node_id (codes "global")) (mentions p)
  global_noted q a k = noted q (block_of q.node.node_id (codes "global")) a (subst (λ z. Among (block_of q.node.node_id (codes "global")) (noted_by z (around_under p.source_type q.path) q.node)) (sym k) (inl refl))

  enum_noted : (q : Place) → Among (entering q) (steps p) → q.node.kind ≡ kind.TSEnumBody → (y : Node) (above : List Node) → q.path ≡ y ∷ above → (id : Node) → child_of role.Id y ≡ Some id → Among (block_of q.node.node_id id.text) (mentions p)
  enum_noted q a k y above e id i =
      let enum : IsEnumOf p q y = enum_of p h q a k y above e in
      let is_enum : enum.place.node.kind ≡ kind.TSEnumDeclaration = ap (λ z. z.kind) enum.node ∙ enum.kind in
      let named : child_of role.Id enum.place.node ≡ Some id = ap (child_of role.Id) enum.node ∙ i in
      let body : child_of role.Body enum.place.node ≡ Some q.node = ap (child_of role.Body) enum.node ∙ enum.body in
      noted enum.place (block_of q.node.node_id id.text) enum.entered (subst (λ z. Among (block_of q.node.node_id id.text) (noted_by z (around_under p.source_type enum.place.path) enum.place.node)) (sym is_enum) (rw (named, body) (inl refl)))

  -- ---- members

  module _ (n : NamedDeclaration) (a : Among n (named_in p)) (e : n.name ≡ x) (q : Place) (entered : Among (entering q) (steps p)) (c : Container) (there : Among c (containers p.source_type q.node q.path)) (same : same_container n.container c ≡ true) where
    kinds : n.container.kind ≡ c.kind
    kinds = container_kind_is n.container.kind c.kind (and_first (same_container_kind n.container.kind c.kind) (same_members n.container c n.container.members c.members) same)

    members : same_members n.container c n.container.members c.members ≡ true
    members = and_second (same_container_kind n.container.kind c.kind) (same_members n.container c n.container.members c.members) same

    -- unshared ones are the same by their nodes
    by_node : n.container.members ≡ None → n.container.node ≡ c.node
    by_node i = by c.members (subst (λ z. same_members n.container c z c.members ≡ true) i members)
      where
        by : (o : Option MemberPath) → same_members n.container c None o ≡ true → n.container.node ≡ c.node
        by None j = elim (eqb_tells n.container.node c.node) [ inl k ↦ k.1 | inr k ↦ absurd (never (sym j ∙ k.0)) ]
        by (Some m) j = absurd (never (sym j))

    by_their_node : c.members ≡ None → n.container.node ≡ c.node
    by_their_node i = by n.container.members (subst (λ z. same_members n.container c n.container.members z ≡ true) i members)
      where
        by : (o : Option MemberPath) → same_members n.container c o None ≡ true → n.container.node ≡ c.node
        by None j = elim (eqb_tells n.container.node c.node) [ inl k ↦ k.1 | inr k ↦ absurd (never (sym j ∙ k.0)) ]
        by (Some m) j = absurd (never (sym j))

    names_same : (f g : MemberPath) → n.container.members ≡ Some f → c.members ≡ Some g → same_names f.names g.names ≡ true
    names_same f g i j = and_second (f.root == g.root) (same_names f.names g.names) (subst (λ z. same_members n.container c (Some f) z ≡ true) j (subst (λ z. same_members n.container c z c.members ≡ true) i members))

    -- by what the tables know of it
    module _ (known : is_sort sort.IndexParameter n ≡ false) where
      free : is_apart n.container.kind ≡ false
      free = is_not_apart n (simply.each n a e known)

      mine : HasOrigin p n.container
      mine = (of_language p h common typed numbered x simply n a e known).1.pair.home.origin

      theirs : HasOrigin p c
      theirs = by ((each_at (CommonStep p) (steps p) (entering q) (common_places p h common numbered) entered).head.origin c there)
        where
          by : (is_apart c.kind ≡ true) ⊎ HasOrigin p c → HasOrigin p c
          by (inl i) = absurd (never (sym i ∙ ap is_apart (sym kinds) ∙ free))
          by (inr o) = o

      one_block : (name other : Name) → name ≡ other → Among (block_of mine.place.node.node_id name) (mentions p) → Among (block_of theirs.place.node.node_id other) (mentions p) → n.container.node ≡ c.node
      one_block name other i b d =
          mine.stands ∙ same_block mine.place.node.node_id theirs.place.node.node_id name (subst IsOf mine.stands (symbol_of n a e known)) b (subst (λ z. Among (block_of theirs.place.node.node_id z) (mentions p)) (sym i) d) ∙ sym theirs.stands

      rest_same : (u v : Name) → 39 ∷ u ≡ 39 ∷ v → u ≡ v
      rest_same u v i = cc

      pub same_node : n.container.node ≡ c.node
      same_node = by (member_sort p.source_type mine.place.node mine.child mine.place.path (round_place p mine.place) mine.place.node.kind n.container mine.among) (member_sort p.source_type theirs.place.node theirs.child theirs.place.path (round_place p theirs.place) theirs.place.node.kind c theirs.among)
        where
          by : MemberSort mine.place.node.kind mine.place.node mine.place.path n.container → MemberSort theirs.place.node.kind theirs.place.node theirs.place.path c → n.container.node ≡ c.node
          by (unshared i) s = by_node i
          by (of_namespace k i id f d g) (unshared j) = by_their_node j
          by (of_namespace k i id f d g) (of_namespace k' i' id' f' d' g') =
              one_block id.text id'.text (first_name id.text id'.text d d' d.members d'.members (names_same (path_below id.text d d.members) (path_below id'.text d' d'.members) g g')) (namespace_noted mine.place mine.entered k id f) (namespace_noted theirs.place theirs.entered k' id' f')
          by (of_namespace k i id f d g) (of_module k' i' id' f' d' g') = absurd (let z : container.NamespaceMembers ≡ container.ModuleMembers = sym i ∙ kinds ∙ i' in absurd cc)
          by (of_namespace k i id f d g) (of_globals k' i') = absurd (let z : container.NamespaceMembers ≡ container.GlobalMembers = sym i ∙ kinds ∙ i' in absurd cc)
          by (of_namespace k i id f d g) (of_enum k' i' y' a' e' id' f' d' g') = absurd (let z : container.NamespaceMembers ≡ container.EnumMembers = sym i ∙ kinds ∙ i' in absurd cc)
          by (of_module k i id f d g) (unshared j) = by_their_node j
          by (of_module k i id f d g) (of_module k' i' id' f' d' g') =
              one_block id.text id'.text (rest_same id.text id'.text (first_name (39 ∷ id.text) (39 ∷ id'.text) d d' d.members d'.members (names_same (path_below (39 ∷ id.text) d d.members) (path_below (39 ∷ id'.text) d' d'.members) g g')))
              (module_noted mine.place mine.entered k id f) (module_noted theirs.place theirs.entered k' id' f')
          by (of_module k i id f d g) (of_namespace k' i' id' f' d' g') = absurd (let z : container.ModuleMembers ≡ container.NamespaceMembers = sym i ∙ kinds ∙ i' in absurd cc)
          by (of_module k i id f d g) (of_globals k' i') = absurd (let z : container.ModuleMembers ≡ container.GlobalMembers = sym i ∙ kinds ∙ i' in absurd cc)
          by (of_module k i id f d g) (of_enum k' i' y' a' e' id' f' d' g') = absurd (let z : container.ModuleMembers ≡ container.EnumMembers = sym i ∙ kinds ∙ i' in absurd cc)
          by (of_globals k i) (unshared j) = by_their_node j
          by (of_globals k i) (of_globals k' i') = one_block (codes "global") (codes "global") refl (global_noted mine.place mine.entered k) (global_noted theirs.place theirs.entered k')
          by (of_globals k i) (of_namespace k' i' id' f' d' g') = absurd (let z : container.GlobalMembers ≡ container.NamespaceMembers = sym i ∙ kinds ∙ i' in absurd cc)
          by (of_globals k i) (of_module k' i' id' f' d' g') = absurd (let z : container.GlobalMembers ≡ container.ModuleMembers = sym i ∙ kinds ∙ i' in absurd cc)
          by (of_globals k i) (of_enum k' i' y' a' e' id' f' d' g') = absurd (let z : container.GlobalMembers ≡ container.EnumMembers = sym i ∙ kinds ∙ i' in absurd cc)
          by (of_enum k i y a e id f d g) (unshared j) = by_their_node j
          by (of_enum k i y a e id f d g) (of_enum k' i' y' a' e' id' f' d' g') =
              one_block id.text id'.text (first_name id.text id'.text d d' d.members d'.members (names_same (path_below id.text d d.members) (path_below id'.text d' d'.members) g g')) (enum_noted mine.place mine.entered k y a e id f) (enum_noted theirs.place theirs.entered k' y' a' e' id' f')
          by (of_enum k i y a e id f d g) (of_namespace k' i' id' f' d' g') = absurd (let z : container.EnumMembers ≡ container.NamespaceMembers = sym i ∙ kinds ∙ i' in absurd cc)
          by (of_enum k i y a e id f d g) (of_module k' i' id' f' d' g') = absurd (let z : container.EnumMembers ≡ container.ModuleMembers = sym i ∙ kinds ∙ i' in absurd cc)
          by (of_enum k i y a e id f d g) (of_globals k' i') = absurd (let z : container.EnumMembers ≡ container.GlobalMembers = sym i ∙ kinds ∙ i' in absurd cc)

  pub own_members : HasOwnMembers p x
  own_members n a e q entered c there same = elim (cases_Bool (is_sort sort.IndexParameter n)) [
    | inl i ↦ by_node n a e q entered c there same (of_index p h n a i).unshared
    | inr i ↦ same_node n a e q entered c there same i
  ]
