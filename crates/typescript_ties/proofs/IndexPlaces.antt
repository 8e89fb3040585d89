-- The parameter of an index signature belongs to that, and nothing else does.
use Rattle.std.proofs.Common.{◌≡◌, List, [], ◌∷◌, ◌++◌, None, Bool, true, false, ◌&&◌, ◌||◌, cond, refl, sym, ap, subst, ◌∙◌, inl, inr, map, codes, ◌==◌, bytes_eq}
use Rattle.std.specs.List.{list_any}
use Rattle.std.proofs.lemmas.Bool.{cases_Bool}
use Rattle.semantic_kinds.specs.Kinds.{same_kind}
use Rattle.semantic_kinds.specs.declared.kind.AstType.{AstType}
use Rattle.semantic_kinds.specs.declared.kind.AstType.TheVariants as kind
use Rattle.semantic_kinds.specs.declared.mark.Mark.TheVariants as mark
use Rattle.semantic_syntax.specs.Tables.{Name}
use Rattle.semantic_syntax.specs.declared.source_type.SourceType.{SourceType}
use Rattle.semantic_tree.specs.Faults.{first_fault}
use Rattle.semantic_tree.specs.Tree.{Tree}
use Rattle.semantic_tree.specs.Views.{is, is_with_text, has}
use Rattle.semantic_tree.specs.declared.node.Node.{Node}
use Rattle.semantic_model.specs.Binder.{is_statement}
use Rattle.semantic_model.specs.Entries.{Among}
use Rattle.semantic_model.specs.Namespace.{InstanceState, non_instantiated, const_enum_only, instantiated, instance_state, nodes_around}
use Rattle.semantic_model.specs.Place.{Place, parent_holds}
use Rattle.semantic_model.specs.Step.{Step, entering, opening, header_ending, closing, leaving, steps}
use Rattle.semantic_model.proofs.form.Clauses.{kind_is}
use Rattle.program_laws.proofs.DeclaredNodes.{among_flat}
use Rattle.binding_laws.proofs.ListLaws.{each_at}
use Rattle.binding_laws.proofs.SmallLaws.{never}
use Rattle.typescript_ties.specs.Containers.{Container, container_of, bound_container, containers, containers_by, decorates_parameter, outside_function}
use Rattle.typescript_ties.specs.NamedDeclarations.{NamedDeclaration, is_sort, declared_outward, declared_here, leaves_its_block, namespace_sort, variables_named, named_by_node, named_at, named_in}
use Rattle.typescript_ties.proofs.PastParameters.{is_parameter_named}
use Rattle.typescript_ties.specs.declared.container_kind.ContainerKind.TheVariants as container
use Rattle.typescript_ties.specs.declared.declaration_sort.DeclarationSort.TheVariants as sort
use Rattle.typescript_ties.proofs.EnumBodies.{index_parent, IsAbove, above_of}
use Rattle.typescript_ties.proofs.KnownPlaces.{KnownStep, known_places}

-- the parameter of an index signature
abbrev pub is_index_named : Node → Name → NamedDeclaration → Bool
is_index_named f name d = is_sort sort.IndexParameter d && (bytes_eq d.name name && d.container.node == f.node_id)

-- type parameters don't see a parameter in the language, and the tables don't know that of an index signature
abbrev pub is_hidden_from : List NamedDeclaration → Name → Node → Node → Bool
is_hidden_from ds name f child = (is kind.TSTypeParameterDeclaration child && list_any (is_parameter_named f name) ds) || list_any (is_index_named f name) ds

-- whether a node stands where one of the name is hidden so
abbrev pub is_hidden_round : List NamedDeclaration → Name → Node → List Node → Bool
is_hidden_round ds name child [] = false
is_hidden_round ds name child (f ∷ path) = is_hidden_from ds name f child || is_hidden_round ds name f path

-- ---- other nodes declare no such parameter

abbrev IsOther : NamedDeclaration → Type 0
IsOther n = is_sort sort.IndexParameter n ≡ false

all_other : (f : Node → NamedDeclaration) (names : List Node) (n : NamedDeclaration) → ((id : Node) → IsOther (f id)) → Among n (map f names) → IsOther n
all_other f [] n h a = absurd a
all_other f (x ∷ xs) n h (inl e) = subst IsOther e (h x)
all_other f (x ∷ xs) n h (inr a) = all_other f xs n h a

either_other : (b : Bool) (f g : Node → NamedDeclaration) (id : Node) → IsOther (f id) → IsOther (g id) → IsOther (cond b f g id)
either_other true f g id h k = h
either_other false f g id h k = k

module _ (s : SourceType) (x : Node) (n : NamedDeclaration) where
  variables_other : (path : List Node) → Among n (variables_named s x path) → IsOther n
  variables_other [] a = absurd a
  variables_other (declaration ∷ path) a = all_other _ _ n (λ id. either_other (is_with_text kind.VariableDeclaration (codes "var") declaration) (declared_outward sort.Var s x (declaration ∷ path)) (declared_here sort.Lexical s x (declaration ∷ path)) id refl refl) a

  import_other : (b : Bool) → is_sort sort.IndexParameter (record n { sort = cond b sort.TypeImport sort.Import }) ≡ false
  import_other true = refl
  import_other false = refl

  namespace_other : (i : InstanceState) → is_sort sort.IndexParameter (record n { sort = namespace_sort i }) ≡ false
  namespace_other non_instantiated = refl
  namespace_other const_enum_only = refl
  namespace_other instantiated = refl

  pub other_sort : (path : List Node) (k : AstType) → same_kind k kind.TSIndexSignatureName ≡ false → Among n (named_by_node k s x path) → IsOther n
  other_sort path kind.VariableDeclarator e a = variables_other path a
  other_sort path kind.Function e a = all_other _ _ n (λ id. either_other (is_statement x) _ _ id (either_other (leaves_its_block s x path) _ _ id refl refl) refl) a
  other_sort path kind.Class e a = all_other _ _ n (λ id. either_other (is_statement x) _ _ id refl refl) a
  other_sort path kind.FormalParameter e a = all_other _ _ n (λ id. refl) a
  other_sort path kind.FormalParameterRest e a = all_other _ _ n (λ id. refl) a
  other_sort path kind.TSIndexSignatureName e a = absurd (never e)
  other_sort path kind.CatchParameter e a = all_other _ _ n (λ id. refl) a
  other_sort path kind.ImportSpecifier e a = all_other _ _ n (λ id. import_other (has mark.TypeOnly x || parent_holds (has mark.TypeOnly) path)) a
  other_sort path kind.ImportDefaultSpecifier e a = all_other _ _ n (λ id. import_other (has mark.TypeOnly x || parent_holds (has mark.TypeOnly) path)) a
  other_sort path kind.ImportNamespaceSpecifier e a = all_other _ _ n (λ id. import_other (has mark.TypeOnly x || parent_holds (has mark.TypeOnly) path)) a
  other_sort path kind.TSImportEqualsDeclaration e a = all_other _ _ n (λ id. refl) a
  other_sort path kind.TSTypeAliasDeclaration e a = all_other _ _ n (λ id. refl) a
  other_sort path kind.TSInterfaceDeclaration e a = all_other _ _ n (λ id. refl) a
  other_sort path kind.TSEnumDeclaration e a = all_other _ _ n (λ id. refl) a
  other_sort path kind.TSEnumMember e a = all_other _ _ n (λ id. refl) a
  other_sort path kind.TSNamespaceDeclaration e a = all_other _ _ n (λ id. namespace_other (instance_state x path (nodes_around x path))) a
  other_sort path kind.TSTypeParameter e a = all_other _ _ n (λ id. either_other (parent_holds (is kind.TSInferType) path) _ _ id refl refl) a
  other_sort path kind.TSMappedType e a = all_other _ _ n (λ id. refl) a
  other_sort path _ e a = absurd a

-- ---- and what it belongs to

module _ (p : Tree) (h : first_fault p ≡ None) where
  pub record IsOfIndex (n : NamedDeclaration) : Type 0 where
    pub in_index : n.container.kind ≡ container.IndexSignature
    pub unshared : n.container.members ≡ None
    pub also : n.also ≡ []
    -- where it is declared, and its signature
    pub place : Place
    pub entered : Among (entering place) (steps p)
    pub is_name : place.node.kind ≡ kind.TSIndexSignatureName
    pub text : place.node.text ≡ n.name
    pub signature : Place
    pub signature_entered : Among (entering signature) (steps p)
    pub is_signature : signature.node.kind ≡ kind.TSIndexSignature
    pub path : place.path ≡ signature.node ∷ signature.path
    pub stands : n.container.node ≡ signature.node.node_id

  in_signature : (q : Place) → Among (entering q) (steps p) → q.node.kind ≡ kind.TSIndexSignatureName → (path : List Node) → q.path ≡ path → IsOfIndex (record { sort = sort.IndexParameter; identifier = q.node.node_id; name = q.node.text; container = bound_container false (containers p.source_type q.node path); also = [] })
  in_signature q a k [] e = absurd (let z : kind.TSIndexSignatureName ≡ kind.Program = sym k ∙ (each_at KnownStep (steps p) (entering q) (known_places p h) a).rooted e in absurd cc)
  in_signature q a k (y ∷ path) e =
      let is_so : y.kind ≡ kind.TSIndexSignature = index_parent p h q a k y path e in
      let plain : decorates_parameter y q.node ≡ false = ap (λ j. (same_kind kind.FormalParameter j || (same_kind kind.FormalParameterRest j || false)) && is kind.Decorator q.node) is_so in
      let round : containers p.source_type q.node (y ∷ path) ≡ container_of container.IndexSignature y ∷ containers p.source_type y path =
      ap (λ b. cond b (outside_function (containers p.source_type y path)) (containers_by y.kind p.source_type y path (containers p.source_type y path) q.node ++ containers p.source_type y path)) plain
      ∙ ap (λ j. containers_by j p.source_type y path (containers p.source_type y path) q.node ++ containers p.source_type y path) is_so in
      let head : bound_container false (containers p.source_type q.node (y ∷ path)) ≡ container_of container.IndexSignature y = ap (bound_container false) round ∙ first (containers p.source_type y path) in
      let up : IsAbove p y path = above_of p h q a y path e in
      record {
        in_index = ap (λ c. c.kind) head;
        unshared = ap (λ c. c.members) head;
        also = refl;
        place = q;
        entered = a;
        is_name = k;
        text = refl;
        signature = up.place;
        signature_entered = up.entered;
        is_signature = ap (λ z. z.kind) up.node ∙ is_so;
        path = e ∙ (λ i. sym up.node i ∷ sym up.above i);
        stands = ap (λ c. c.node) head ∙ ap (λ z. z.node_id) (sym up.node);
      }
    where
      first : (cs : List Container) → bound_container false (container_of container.IndexSignature y ∷ cs) ≡ container_of container.IndexSignature y
      first [] = refl
      first (c ∷ cs) = refl

  pub of_index : (n : NamedDeclaration) → Among n (named_in p) → is_sort sort.IndexParameter n ≡ true → IsOfIndex n
  of_index n a i = let (st, b, c) = among_flat (named_at p.source_type) (steps p) n a in by st b c
    where
      the_one : (m : NamedDeclaration) → IsOfIndex m → Among n (m ∷ []) → IsOfIndex n
      the_one m k (inl e) = subst IsOfIndex e k
      the_one m k (inr b) = absurd b

      named : (q : Place) → Among (entering q) (steps p) → Among n (named_by_node q.node.kind p.source_type q.node q.path) → IsOfIndex n
      named q b c = elim (cases_Bool (same_kind q.node.kind kind.TSIndexSignatureName)) [
        | inr e ↦ absurd (never (sym i ∙ other_sort p.source_type q.node n q.path q.node.kind e c))
        | inl e ↦ (let k : q.node.kind ≡ kind.TSIndexSignatureName = kind_is q.node.kind kind.TSIndexSignatureName e in
            the_one (record { sort = sort.IndexParameter; identifier = q.node.node_id; name = q.node.text; container = bound_container false (containers p.source_type q.node q.path); also = [] }) (in_signature q b k q.path refl)
            (subst (λ j. Among n (named_by_node j p.source_type q.node q.path)) k c))
      ]

      by : (st : Step) → Among st (steps p) → Among n (named_at p.source_type st) → IsOfIndex n
      by (entering q) b c = named q b c
      by (opening q o) b c = absurd c
      by (header_ending q o) b c = absurd c
      by (closing q o) b c = absurd c
      by (leaving q) b c = absurd c
