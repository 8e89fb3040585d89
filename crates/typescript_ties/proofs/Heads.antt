-- The scope in which a node stands, and the container in which it declares.
use Rattle.std.proofs.Common.{◌≡◌, List, [], ◌∷◌, ◌++◌, Some, Bool, true, false, ◌||◌, not, cond, refl, sym, subst, ◌∙◌, inl, inr, ◌⊎◌}
use Rattle.std.proofs.lemmas.Bool.{cases_Bool, not-true}
use Rattle.semantic_syntax.specs.declared.source_type.SourceType.{SourceType}
use Rattle.semantic_kinds.specs.Kinds.{same_kind}
use Rattle.semantic_kinds.specs.declared.kind.AstType.{AstType}
use Rattle.semantic_kinds.specs.declared.kind.AstType.TheVariants as kind
use Rattle.semantic_kinds.specs.declared.role.Role.{Role}
use Rattle.semantic_kinds.specs.declared.role.Role.TheVariants as role
use Rattle.semantic_tree.specs.Views.{is, child_of, is_child_in}
use Rattle.semantic_tree.specs.declared.node.Node.{Node}
use Rattle.semantic_model.specs.Entries.{Among}
use Rattle.semantic_model.specs.Inside.{is_inside}
use Rattle.binding_laws.proofs.SmallLaws.{never}
use Rattle.typescript_ties.specs.Containers.{Container, is_container, container_of, bound_container, members_of, id_name, module_member_name, enum_members, is_exported_under, is_one_of_kind, is_of_signature, parameter_containers, function_containers, containers_by}
use Rattle.typescript_ties.specs.SimpleNames.{is_apart}
use Rattle.typescript_ties.specs.declared.container_kind.ContainerKind.TheVariants as container
use Rattle.typescript_ties.proofs.ChildPlaces.{same_truth, is_told_by_role, tells_by_kind, is_function}

-- the first that isn't a block's own takes all
pub head_one : (b : Bool) (c : Container) (cs : List Container) → is_container container.ModuleBlock c ≡ false → bound_container b (c ∷ cs) ≡ c
head_one b c [] e = refl
head_one true c (d ∷ cs) e = rw e refl
head_one false c (d ∷ cs) e = refl

-- ---- what kinds tell

pub inside_is : (a c d : Bool) → same_truth a (same_truth c d) ≡ true → a ≡ true → same_truth c d ≡ true
inside_is true c d h e = h
inside_is false c d h e = absurd (never (sym e))

pub outside_is : (a c d : Bool) → same_truth a (same_truth c d) ≡ true → a ≡ false → same_truth c d ≡ false
outside_is true c d h e = absurd (never e)
outside_is false c d h e = not-true (same_truth c d) h

pub false_not : (d : Bool) → not d ≡ false → d ≡ true
false_not true h = refl
false_not false h = absurd (never h)

-- what is seen in a header: type parameters, parameters and the own name
abbrev pub is_of_header : Container → Bool
is_of_header c = is_container container.TypeParameters c || (is_container container.Parameters c || is_container container.OwnName c)

-- what is known of the container in which a child of a node declares
pub record HeadFacts (k : AstType) (x child : Node) (g : List Container) (c : Container) : Type 0 where
  pub node : c.node ≡ x.node_id
  pub no_clause : same_kind k kind.CatchClause ≡ false
  pub in_body : is_container container.Body c ≡ true → (is_function k ≡ true) × (is_of_signature child ≡ false)
  pub in_header : is_of_header c ≡ true → is_function k ≡ true → is_of_signature child ≡ true
  pub among : Among c g

pub record IsApartHead (c : Container) : Type 0 where
  pub apart : is_apart c.kind ≡ true
  pub no_body : is_container container.Body c ≡ false
  pub no_header : is_of_header c ≡ false

-- a child declares in its parent's container, or apart, or in one of these
abbrev pub HeadOf : AstType → Role → Node → Node → List Container → Container → Type 0
HeadOf k r x child g c = ((g ≡ []) × (is_inside k r ≡ false)) ⊎ (IsApartHead c ⊎ (HeadFacts k x child g c × (is_inside k r ≡ true)))

simple_facts : (k : AstType) (x child : Node) (c : Container) (rest : List Container) → c.node ≡ x.node_id → same_kind k kind.CatchClause ≡ false → is_container container.Body c ≡ false → (is_of_header c ≡ true → is_function k ≡ true → is_of_signature child ≡ true) → HeadFacts k x child (c ∷ rest) c
simple_facts k x child c rest n d b t = record { node = n; no_clause = d; in_body = λ q. absurd (never (sym q ∙ b)); in_header = t; among = inl refl }

module _ (s : SourceType) (x child : Node) (path : List Node) (outer : List Container) (r : Role) (b : Bool) (cs : List Container) where
  abbrev Head : AstType → List Container → Type 0
  Head k g = HeadOf k r x child g (bound_container b (g ++ cs))

  -- a group of one, or one that begins so
  single : (k : AstType) (c : Container) (rest : List Container) → is_inside k r ≡ true → c.node ≡ x.node_id → same_kind k kind.CatchClause ≡ false → is_container container.ModuleBlock c ≡ false → is_container container.Body c ≡ false
      → (is_of_header c ≡ true → is_function k ≡ true → is_of_signature child ≡ true) → Head k (c ∷ rest)
  single k c rest i n d m y t = inr (inr (subst (HeadFacts k x child (c ∷ rest)) (sym (head_one b c (rest ++ cs) m)) (simple_facts k x child c rest n d y t), i))

  apart : (k : AstType) (c : Container) (rest : List Container) → is_container container.ModuleBlock c ≡ false → IsApartHead c → Head k (c ∷ rest)
  apart k c rest m e = inr (inl (subst IsApartHead (sym (head_one b c (rest ++ cs) m)) e))

  is_so : (c : Container) → is_apart c.kind ≡ true → is_container container.Body c ≡ false → is_of_header c ≡ false → IsApartHead c
  is_so c e f g = record { apart = e; no_body = f; no_header = g }

  -- a block's own and its members
  double : (k : AstType) (c d : Container) → is_inside k r ≡ true → c.node ≡ x.node_id → d.node ≡ x.node_id → same_kind k kind.CatchClause ≡ false
      → is_container container.ModuleBlock c ≡ true → is_container container.Body c ≡ false → is_container container.Body d ≡ false → is_of_header c ≡ false → is_of_header d ≡ false → Head k (c ∷ d ∷ [])
  double k c d i n o e m y z t u = inr (inr (by b, i))
    where
      first : HeadFacts k x child (c ∷ d ∷ []) c
      first = record { node = n; no_clause = e; in_body = λ q. absurd (never (sym q ∙ y)); in_header = λ q. absurd (never (sym q ∙ t)); among = inl refl }

      second : HeadFacts k x child (c ∷ d ∷ []) d
      second = record { node = o; no_clause = e; in_body = λ q. absurd (never (sym q ∙ z)); in_header = λ q. absurd (never (sym q ∙ u)); among = inr (inl refl) }

      by : (b : Bool) → HeadFacts k x child (c ∷ d ∷ []) (bound_container b (c ∷ d ∷ cs))
      by true = rw m second
      by false = first

  -- ---- by a test of the child

  tested : (k : AstType) (t : Bool) (g : List Container) → (is_inside k r ≡ true → t ≡ true) → (is_inside k r ≡ false → t ≡ false) → (is_inside k r ≡ true → Head k g) → Head k (cond t g [])
  tested k true g f h m = elim (cases_Bool (is_inside k r)) [ inl i ↦ m i | inr i ↦ absurd (never (h i)) ]
  tested k false g f h m = inl (refl, elim (cases_Bool (is_inside k r)) [ inl i ↦ absurd (never (sym (f i))) | inr i ↦ i ])

  tested_not : (k : AstType) (t : Bool) (g : List Container) → (is_inside k r ≡ true → t ≡ false) → (is_inside k r ≡ false → t ≡ true) → (is_inside k r ≡ true → Head k g) → Head k (cond t [] g)
  tested_not k true g f h m = inl (refl, elim (cases_Bool (is_inside k r)) [ inl i ↦ absurd (never (f i)) | inr i ↦ i ])
  tested_not k false g f h m = elim (cases_Bool (is_inside k r)) [ inl i ↦ m i | inr i ↦ absurd (never (sym (h i))) ]

  -- ---- functions and signatures

  params_head : (k : AstType) → is_inside k r ≡ true → same_kind k kind.CatchClause ≡ false → is_function k ≡ false → Head k (parameter_containers x child)
  params_head k i d f = by (is kind.TSTypeParameterDeclaration child)
    where
      by : (t : Bool) → Head k (cond t [] (container_of container.Parameters x ∷ []) ++ container_of container.TypeParameters x ∷ [])
      by true = single k (container_of container.TypeParameters x) [] i refl d refl refl (λ q w. absurd (never (sym w ∙ f)))
      by false = single k (container_of container.Parameters x) (container_of container.TypeParameters x ∷ []) i refl d refl refl (λ q w. absurd (never (sym w ∙ f)))

  function_head : (k : AstType) → is_inside k r ≡ true → same_kind k kind.CatchClause ≡ false → is_function k ≡ true → Head k (function_containers x child)
  function_head k i d f = by (is_of_signature child) (is kind.TSTypeParameterDeclaration child) refl
    where
      by : (t u : Bool) → is_of_signature child ≡ t → Head k (cond t [] (container_of container.Body x ∷ []) ++ (cond u [] (container_of container.Parameters x ∷ []) ++ container_of container.TypeParameters x ∷ []) ++ container_of container.OwnName x ∷ [])
      by false u e = inr (inr (subst (HeadFacts k x child _) (sym (head_one b (container_of container.Body x) _ refl)) (record { node = refl; no_clause = d; in_body = λ q. (f, e); in_header = λ q. absurd (never (sym q)); among = inl refl }), i))
      by true true e = single k (container_of container.TypeParameters x) (container_of container.OwnName x ∷ []) i refl d refl refl (λ q w. e)
      by true false e = single k (container_of container.Parameters x) (container_of container.TypeParameters x ∷ container_of container.OwnName x ∷ []) i refl d refl refl (λ q w. e)

  none_head : (k : AstType) → is_inside k r ≡ false → Head k []
  none_head k i = inl (refl, i)

  pub head_of : (k : AstType) → same_kind k kind.WithStatement ≡ false → (is_told_by_role k ≡ false → tells_by_kind k r child.kind ≡ true) → Head k (containers_by k s x path outer child)
  head_of kind.Program w t = single kind.Program (container_of container.File x) [] refl refl refl refl refl (λ q. absurd (never (sym q)))
  head_of kind.Function w t = function_head kind.Function refl refl refl
  head_of kind.ArrowFunctionExpression w t = function_head kind.ArrowFunctionExpression refl refl refl
  head_of kind.TSFunctionType w t = params_head kind.TSFunctionType refl refl refl
  head_of kind.TSConstructorType w t = params_head kind.TSConstructorType refl refl refl
  head_of kind.TSCallSignatureDeclaration w t = params_head kind.TSCallSignatureDeclaration refl refl refl
  head_of kind.TSConstructSignatureDeclaration w t = params_head kind.TSConstructSignatureDeclaration refl refl refl
  head_of kind.TSMethodSignature w t =
      tested kind.TSMethodSignature (is_of_signature child) (parameter_containers x child) (inside_is (is_inside kind.TSMethodSignature r) true (is_of_signature child) (t refl)) (outside_is (is_inside kind.TSMethodSignature r) true (is_of_signature child) (t refl))
      (λ i. params_head kind.TSMethodSignature i refl refl)
  head_of kind.TSIndexSignature w t = apart kind.TSIndexSignature (container_of container.IndexSignature x) [] refl (is_so (container_of container.IndexSignature x) refl refl refl)
  head_of kind.Class w t =
      tested_not kind.Class (is_one_of_kind kind.Decorator child) (container_of container.TypeParameters x ∷ container_of container.OwnName x ∷ [])
      (λ i. not-true (is_one_of_kind kind.Decorator child) (inside_is (is_inside kind.Class r) false (is_one_of_kind kind.Decorator child) (t refl) i)) (λ i. false_not (is_one_of_kind kind.Decorator child) (outside_is (is_inside kind.Class r) false (is_one_of_kind kind.Decorator child) (t refl) i))
      (λ i. single kind.Class (container_of container.TypeParameters x) (container_of container.OwnName x ∷ []) i refl refl refl refl (λ q v. absurd (never (sym v))))
  head_of kind.TSInterfaceDeclaration w t =
      tested kind.TSInterfaceDeclaration (not (is_one_of_kind kind.BindingIdentifier child)) (container_of container.TypeParameters x ∷ []) (inside_is (is_inside kind.TSInterfaceDeclaration r) false (is_one_of_kind kind.BindingIdentifier child) (t refl)) (outside_is (is_inside kind.TSInterfaceDeclaration r) false (is_one_of_kind kind.BindingIdentifier child) (t refl))
      (λ i. single kind.TSInterfaceDeclaration (container_of container.TypeParameters x) [] i refl refl refl refl (λ q v. absurd (never (sym v))))
  head_of kind.TSTypeAliasDeclaration w t =
      tested kind.TSTypeAliasDeclaration (not (is_one_of_kind kind.BindingIdentifier child)) (container_of container.TypeParameters x ∷ []) (inside_is (is_inside kind.TSTypeAliasDeclaration r) false (is_one_of_kind kind.BindingIdentifier child) (t refl)) (outside_is (is_inside kind.TSTypeAliasDeclaration r) false (is_one_of_kind kind.BindingIdentifier child) (t refl))
      (λ i. single kind.TSTypeAliasDeclaration (container_of container.TypeParameters x) [] i refl refl refl refl (λ q v. absurd (never (sym v))))
  head_of kind.TSMappedType w t = single kind.TSMappedType (container_of container.TypeParameters x) [] refl refl refl refl refl (λ q v. absurd (never (sym v)))
  head_of kind.TSConditionalType w t = by (is_child_in role.True x child)
    where
      by : (u : Bool) → Head kind.TSConditionalType (container_of (cond u container.Inferred container.Condition) x ∷ [])
      by true = apart kind.TSConditionalType (container_of container.Inferred x) [] refl (is_so (container_of container.Inferred x) refl refl refl)
      by false = apart kind.TSConditionalType (container_of container.Condition x) [] refl (is_so (container_of container.Condition x) refl refl refl)
  head_of kind.TSInferType w t = apart kind.TSInferType (container_of container.Infer x) [] refl (is_so (container_of container.Infer x) refl refl refl)
  head_of kind.StaticBlock w t = single kind.StaticBlock (container_of container.StaticBlock x) [] refl refl refl refl refl (λ q. absurd (never (sym q)))
  head_of kind.BlockStatement w t = single kind.BlockStatement (container_of container.Block x) [] refl refl refl refl refl (λ q. absurd (never (sym q)))
  head_of kind.ForStatement w t = single kind.ForStatement (container_of container.Block x) [] refl refl refl refl refl (λ q. absurd (never (sym q)))
  head_of kind.ForInStatement w t = single kind.ForInStatement (container_of container.Block x) [] refl refl refl refl refl (λ q. absurd (never (sym q)))
  head_of kind.ForOfStatement w t = single kind.ForOfStatement (container_of container.Block x) [] refl refl refl refl refl (λ q. absurd (never (sym q)))
  head_of kind.CatchClause w t = apart kind.CatchClause (container_of container.CatchClause x) [] refl (is_so (container_of container.CatchClause x) refl refl refl)
  head_of kind.SwitchStatement w t =
      tested kind.SwitchStatement (is_one_of_kind kind.SwitchCase child) (container_of container.Block x ∷ []) (inside_is (is_inside kind.SwitchStatement r) true (is_one_of_kind kind.SwitchCase child) (t refl)) (outside_is (is_inside kind.SwitchStatement r) true (is_one_of_kind kind.SwitchCase child) (t refl))
      (λ i. single kind.SwitchStatement (container_of container.Block x) [] i refl refl refl refl (λ q. absurd (never (sym q))))
  head_of kind.WithStatement w t = absurd (never w)
  head_of kind.TSNamespaceDeclaration w t =
      let d : Container = members_of container.NamespaceMembers x.node_id (id_name (child_of role.Id x)) (bound_container (is_exported_under s path) outer) in
      tested_not kind.TSNamespaceDeclaration (is_one_of_kind kind.BindingIdentifier child) (container_of container.ModuleBlock x ∷ d ∷ [])
      (λ i. not-true (is_one_of_kind kind.BindingIdentifier child) (inside_is (is_inside kind.TSNamespaceDeclaration r) false (is_one_of_kind kind.BindingIdentifier child) (t refl) i)) (λ i. false_not (is_one_of_kind kind.BindingIdentifier child) (outside_is (is_inside kind.TSNamespaceDeclaration r) false (is_one_of_kind kind.BindingIdentifier child) (t refl) i))
      (λ i. double kind.TSNamespaceDeclaration (container_of container.ModuleBlock x) d i refl refl refl refl refl refl refl refl)
  head_of kind.TSExternalModuleDeclaration w t =
      let d : Container = members_of container.ModuleMembers x.node_id (module_member_name (child_of role.Id x)) (bound_container false outer) in
      tested kind.TSExternalModuleDeclaration (is_one_of_kind kind.TSModuleBlock child) (container_of container.ModuleBlock x ∷ d ∷ [])
      (inside_is (is_inside kind.TSExternalModuleDeclaration r) true (is_one_of_kind kind.TSModuleBlock child) (t refl)) (outside_is (is_inside kind.TSExternalModuleDeclaration r) true (is_one_of_kind kind.TSModuleBlock child) (t refl))
      (λ i. double kind.TSExternalModuleDeclaration (container_of container.ModuleBlock x) d i refl refl refl refl refl refl refl refl)
  head_of kind.TSGlobalDeclaration w t = double kind.TSGlobalDeclaration (container_of container.ModuleBlock x) (record { kind = container.GlobalMembers; node = x.node_id; members = Some (record { root = 0; names = [] }) }) refl refl refl refl refl refl refl refl refl
  head_of kind.TSEnumBody w t = by path
    where
      by : (ps : List Node) → Head kind.TSEnumBody (enum_members s x ps outer ∷ [])
      by [] = single kind.TSEnumBody (container_of container.EnumMembers x) [] refl refl refl refl refl (λ q. absurd (never (sym q)))
      by (e ∷ ps) = single kind.TSEnumBody (members_of container.EnumMembers x.node_id (id_name (child_of role.Id e)) (bound_container (is_exported_under s ps) outer)) [] refl refl refl refl refl (λ q. absurd (never (sym q)))
  head_of _ w t = none_head _ refl
