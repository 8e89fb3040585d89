-- What a node has round one of its children it has round another that stands inside its scope.
use Rattle.std.proofs.Common.{◌≡◌, List, [], ◌∷◌, ◌++◌, Some, Bool, true, false, not, cond, refl, sym, subst, ◌∙◌, inl, inr, ◌⊎◌}
use Rattle.std.proofs.lemmas.Bool.{not-true}
use Rattle.semantic_syntax.specs.declared.source_type.SourceType.{SourceType}
use Rattle.semantic_kinds.specs.Kinds.{same_kind}
use Rattle.semantic_kinds.specs.declared.kind.AstType.{AstType}
use Rattle.semantic_kinds.specs.declared.kind.AstType.TheVariants as kind
use Rattle.semantic_kinds.specs.declared.role.Role.{Role}
use Rattle.semantic_kinds.specs.declared.role.Role.TheVariants as role
use Rattle.semantic_tree.specs.Views.{is, child_of, is_child_in}
use Rattle.semantic_tree.specs.declared.node.Node.{Node}
use Rattle.semantic_model.specs.Entries.{Among}
use Rattle.semantic_model.specs.Inside.{is_inside}
use Rattle.binding_laws.proofs.SmallLaws.{never}
use Rattle.typescript_ties.specs.Containers.{Container, same_container_kind, is_container, container_of, bound_container, members_of, id_name, module_member_name, enum_members, is_exported_under, is_one_of_kind, is_of_signature, parameter_containers, function_containers, containers_by}
use Rattle.typescript_ties.specs.SimpleNames.{is_apart}
use Rattle.typescript_ties.specs.declared.container_kind.ContainerKind.TheVariants as container
use Rattle.typescript_ties.proofs.ChildPlaces.{is_told_by_role, tells_by_kind, is_function}
use Rattle.typescript_ties.proofs.Heads.{is_of_header, inside_is}

-- what is known of a container that a node of the kind has round one child, for another one
pub record GroupMember (k : AstType) (x ch : Node) (sibling : Node) (g : List Container) (c : Container) : Type 0 where
  pub node : c.node ≡ x.node_id
  pub body : is_container container.Body c ≡ true → is_function k ≡ true
  pub no_global : same_container_kind container.Globals c.kind ≡ false
  pub again : is_apart c.kind ≡ false → (is_container container.Body c ≡ true → is_of_signature sibling ≡ false) → (is_container container.Parameters c ≡ true → is kind.TSTypeParameterDeclaration sibling ≡ false) → Among c g
  pub header : is_apart c.kind ≡ false → (is_function k ≡ true → is_of_signature ch ≡ true) → (is_function k ≡ true) ⊎ (same_kind k kind.CatchClause ≡ true) → is_of_header c ≡ true

among_if : (t : Bool) (l : List Container) (c : Container) → Among c (cond t l []) → Among c l
among_if true l c a = a
among_if false l c a = absurd a

among_unless : (t : Bool) (l : List Container) (c : Container) → Among c (cond t [] l) → Among c l
among_unless true l c a = absurd a
among_unless false l c a = a

module _ (s : SourceType) (x ch node : Node) (path : List Node) (outer : List Container) (r : Role) where
  abbrev Member : AstType → Container → Type 0
  Member k c = GroupMember k x ch node (containers_by k s x path outer node) c

  -- of a node that is neither a function nor a catch clause
  plain_member : (k : AstType) (c : Container) → is_function k ≡ false → same_kind k kind.CatchClause ≡ false → c.node ≡ x.node_id → is_container container.Body c ≡ false → same_container_kind container.Globals c.kind ≡ false
      → (is_apart c.kind ≡ false → Among c (containers_by k s x path outer node)) → Member k c
  plain_member k c f d n b g a = record {
    node = n;
    body = λ i. absurd (never (sym i ∙ b));
    no_global = g;
    again = λ e i j. a e;
    header = λ e i o. elim o [ inl q ↦ absurd (never (sym q ∙ f)) | inr q ↦ absurd (never (sym q ∙ d)) ];
  }

  apart_member : (k : AstType) (c : Container) → c.node ≡ x.node_id → is_container container.Body c ≡ false → same_container_kind container.Globals c.kind ≡ false → is_apart c.kind ≡ true → Member k c
  apart_member k c n b g a = record {
    node = n;
    body = λ i. absurd (never (sym i ∙ b));
    no_global = g;
    again = λ e i j. absurd (never (sym a ∙ e));
    header = λ e i o. absurd (never (sym a ∙ e));
  }

  -- the list of one, which doesn't look at the child
  one : (k : AstType) (c c0 : Container) → Among c0 (c ∷ []) → Member k c → Member k c0
  one k c c0 (inl e) m = subst (Member k) e m
  one k c c0 (inr a) m = absurd a

  two : (k : AstType) (c d c0 : Container) → Among c0 (c ∷ d ∷ []) → Member k c → Member k d → Member k c0
  two k c d c0 (inl e) m n = subst (Member k) e m
  two k c d c0 (inr (inl e)) m n = subst (Member k) e n
  two k c d c0 (inr (inr a)) m n = absurd a

  last_types : Among (container_of container.TypeParameters x) (parameter_containers x node)
  last_types = by (is kind.TSTypeParameterDeclaration node)
    where
      by : (t : Bool) → Among (container_of container.TypeParameters x) (cond t [] (container_of container.Parameters x ∷ []) ++ container_of container.TypeParameters x ∷ [])
      by true = inl refl
      by false = inr (inl refl)

  first_parameters : is kind.TSTypeParameterDeclaration node ≡ false → Among (container_of container.Parameters x) (parameter_containers x node)
  first_parameters e = subst (λ t. Among (container_of container.Parameters x) (cond t [] (container_of container.Parameters x ∷ []) ++ container_of container.TypeParameters x ∷ [])) (sym e) (inl refl)

  parameters_member : (k : AstType) (c0 : Container) → is_function k ≡ false → same_kind k kind.CatchClause ≡ false → Among c0 (parameter_containers x ch) → ((c : Container) → Among c (parameter_containers x node) → Among c (containers_by k s x path outer node)) → Member k c0
  parameters_member k c0 f d a again = by (is kind.TSTypeParameterDeclaration ch) a
    where
      types : Member k (container_of container.TypeParameters x)
      types = plain_member k (container_of container.TypeParameters x) f d refl refl refl (λ e. again (container_of container.TypeParameters x) last_types)

      params : Member k (container_of container.Parameters x)
      params = record {
        node = refl;
        body = λ i. absurd (never (sym i));
        no_global = refl;
        again = λ e i j. again (container_of container.Parameters x) (first_parameters (j refl));
        header = λ e i o. refl;
      }

      by : (t : Bool) → Among c0 (cond t [] (container_of container.Parameters x ∷ []) ++ container_of container.TypeParameters x ∷ []) → Member k c0
      by true b = one k (container_of container.TypeParameters x) c0 b types
      by false b = two k (container_of container.Parameters x) (container_of container.TypeParameters x) c0 b params types

  function_member : (k : AstType) (c0 : Container) → is_function k ≡ true → containers_by k s x path outer node ≡ function_containers x node → Among c0 (function_containers x ch) → Member k c0
  function_member k c0 f same a = by (is_of_signature ch) (is kind.TSTypeParameterDeclaration ch) refl a
    where
      here : (c : Container) → Among c (function_containers x node) → Among c (containers_by k s x path outer node)
      here c b = subst (Among c) (sym same) b

      body_among : (t u : Bool) → is_of_signature node ≡ t → t ≡ false → Among (container_of container.Body x) (cond t [] (container_of container.Body x ∷ []) ++ (cond u [] (container_of container.Parameters x ∷ []) ++ container_of container.TypeParameters x ∷ []) ++ container_of container.OwnName x ∷ [])
      body_among true u e i = absurd (never i)
      body_among false u e i = inl refl

      types_among : (t u : Bool) → Among (container_of container.TypeParameters x) (cond t [] (container_of container.Body x ∷ []) ++ (cond u [] (container_of container.Parameters x ∷ []) ++ container_of container.TypeParameters x ∷ []) ++ container_of container.OwnName x ∷ [])
      types_among true true = inl refl
      types_among true false = inr (inl refl)
      types_among false true = inr (inl refl)
      types_among false false = inr (inr (inl refl))

      body : is_of_signature ch ≡ false → Member k (container_of container.Body x)
      body e = record {
        node = refl;
        body = λ i. f;
        no_global = refl;
        again = λ a i j. here (container_of container.Body x) (body_among (is_of_signature node) (is kind.TSTypeParameterDeclaration node) refl (i refl));
        header = λ a i o. absurd (never (sym (i f) ∙ e));
      }

      types : Member k (container_of container.TypeParameters x)
      types = record { node = refl; body = λ i. f; no_global = refl; again = λ a i j. here (container_of container.TypeParameters x) (types_among (is_of_signature node) (is kind.TSTypeParameterDeclaration node)); header = λ a i o. refl }

      parameters_among : (t u : Bool) → u ≡ false → Among (container_of container.Parameters x) (cond t [] (container_of container.Body x ∷ []) ++ (cond u [] (container_of container.Parameters x ∷ []) ++ container_of container.TypeParameters x ∷ []) ++ container_of container.OwnName x ∷ [])
      parameters_among t true e = absurd (never e)
      parameters_among true false e = inl refl
      parameters_among false false e = inr (inl refl)

      params : Member k (container_of container.Parameters x)
      params = record {
        node = refl;
        body = λ i. f;
        no_global = refl;
        again = λ a i j. here (container_of container.Parameters x) (parameters_among (is_of_signature node) (is kind.TSTypeParameterDeclaration node) (j refl));
        header = λ a i o. refl;
      }

      own_among : (t u : Bool) → Among (container_of container.OwnName x) (cond t [] (container_of container.Body x ∷ []) ++ (cond u [] (container_of container.Parameters x ∷ []) ++ container_of container.TypeParameters x ∷ []) ++ container_of container.OwnName x ∷ [])
      own_among true true = inr (inl refl)
      own_among true false = inr (inr (inl refl))
      own_among false true = inr (inr (inl refl))
      own_among false false = inr (inr (inr (inl refl)))

      own : Member k (container_of container.OwnName x)
      own = record { node = refl; body = λ i. f; no_global = refl; again = λ a i j. here (container_of container.OwnName x) (own_among (is_of_signature node) (is kind.TSTypeParameterDeclaration node)); header = λ a i o. refl }

      by : (t u : Bool) → is_of_signature ch ≡ t → Among c0 (cond t [] (container_of container.Body x ∷ []) ++ (cond u [] (container_of container.Parameters x ∷ []) ++ container_of container.TypeParameters x ∷ []) ++ container_of container.OwnName x ∷ []) → Member k c0
      by true true e b = two k (container_of container.TypeParameters x) (container_of container.OwnName x) c0 b types own
      by true false e (inl i) = subst (Member k) i params
      by true false e (inr b) = two k (container_of container.TypeParameters x) (container_of container.OwnName x) c0 b types own
      by false true e (inl i) = subst (Member k) i (body e)
      by false true e (inr b) = two k (container_of container.TypeParameters x) (container_of container.OwnName x) c0 b types own
      by false false e (inl i) = subst (Member k) i (body e)
      by false false e (inr (inl i)) = subst (Member k) i params
      by false false e (inr (inr b)) = two k (container_of container.TypeParameters x) (container_of container.OwnName x) c0 b types own

  -- in a list that a test of the child lets through
  let_in : (t : Bool) (c : Container) (l : List Container) → t ≡ true → Among c l → Among c (cond t l [])
  let_in true c l e a = a
  let_in false c l e a = absurd (never (sym e))

  let_out : (t : Bool) (c : Container) (l : List Container) → t ≡ false → Among c l → Among c (cond t [] l)
  let_out true c l e a = absurd (never e)
  let_out false c l e a = a

  pub member_of : (k : AstType) (c0 : Container) → same_kind k kind.WithStatement ≡ false → is_inside k r ≡ true → (is_told_by_role k ≡ false → tells_by_kind k r node.kind ≡ true) → Among c0 (containers_by k s x path outer ch) → Member k c0
  member_of kind.Program c0 w i t a = one kind.Program (container_of container.File x) c0 a (plain_member kind.Program (container_of container.File x) refl refl refl refl refl (λ e. inl refl))
  member_of kind.Function c0 w i t a = function_member kind.Function c0 refl refl a
  member_of kind.ArrowFunctionExpression c0 w i t a = function_member kind.ArrowFunctionExpression c0 refl refl a
  member_of kind.TSFunctionType c0 w i t a = parameters_member kind.TSFunctionType c0 refl refl a (λ c b. b)
  member_of kind.TSConstructorType c0 w i t a = parameters_member kind.TSConstructorType c0 refl refl a (λ c b. b)
  member_of kind.TSCallSignatureDeclaration c0 w i t a = parameters_member kind.TSCallSignatureDeclaration c0 refl refl a (λ c b. b)
  member_of kind.TSConstructSignatureDeclaration c0 w i t a = parameters_member kind.TSConstructSignatureDeclaration c0 refl refl a (λ c b. b)
  member_of kind.TSMethodSignature c0 w i t a =
      parameters_member kind.TSMethodSignature c0 refl refl (among_if (is_of_signature ch) (parameter_containers x ch) c0 a)
      (λ c b. let_in (is_of_signature node) c (parameter_containers x node) (inside_is (is_inside kind.TSMethodSignature r) true (is_of_signature node) (t refl) i) b)
  member_of kind.TSIndexSignature c0 w i t a = one kind.TSIndexSignature (container_of container.IndexSignature x) c0 a (apart_member kind.TSIndexSignature (container_of container.IndexSignature x) refl refl refl refl)
  member_of kind.Class c0 w i t a =
      two kind.Class (container_of container.TypeParameters x) (container_of container.OwnName x) c0 (among_unless (is_one_of_kind kind.Decorator ch) (container_of container.TypeParameters x ∷ container_of container.OwnName x ∷ []) c0 a)
      (plain_member kind.Class (container_of container.TypeParameters x) refl refl refl refl refl (λ e. in_class (container_of container.TypeParameters x) (inl refl)))
      (plain_member kind.Class (container_of container.OwnName x) refl refl refl refl refl (λ e. in_class (container_of container.OwnName x) (inr (inl refl))))
    where
      in_class : (c : Container) → Among c (container_of container.TypeParameters x ∷ container_of container.OwnName x ∷ []) → Among c (cond (is_one_of_kind kind.Decorator node) [] (container_of container.TypeParameters x ∷ container_of container.OwnName x ∷ []))
      in_class c b = let_out (is_one_of_kind kind.Decorator node) c (container_of container.TypeParameters x ∷ container_of container.OwnName x ∷ []) (not-true (is_one_of_kind kind.Decorator node) (inside_is (is_inside kind.Class r) false (is_one_of_kind kind.Decorator node) (t refl) i)) b
  member_of kind.TSInterfaceDeclaration c0 w i t a =
      one kind.TSInterfaceDeclaration (container_of container.TypeParameters x) c0 (among_if (not (is_one_of_kind kind.BindingIdentifier ch)) (container_of container.TypeParameters x ∷ []) c0 a)
      (plain_member kind.TSInterfaceDeclaration (container_of container.TypeParameters x) refl refl refl refl refl (λ e. let_in (not (is_one_of_kind kind.BindingIdentifier node)) (container_of container.TypeParameters x) (container_of container.TypeParameters x ∷ [])
      (inside_is (is_inside kind.TSInterfaceDeclaration r) false (is_one_of_kind kind.BindingIdentifier node) (t refl) i) (inl refl)))
  member_of kind.TSTypeAliasDeclaration c0 w i t a =
      one kind.TSTypeAliasDeclaration (container_of container.TypeParameters x) c0 (among_if (not (is_one_of_kind kind.BindingIdentifier ch)) (container_of container.TypeParameters x ∷ []) c0 a)
      (plain_member kind.TSTypeAliasDeclaration (container_of container.TypeParameters x) refl refl refl refl refl (λ e. let_in (not (is_one_of_kind kind.BindingIdentifier node)) (container_of container.TypeParameters x) (container_of container.TypeParameters x ∷ [])
      (inside_is (is_inside kind.TSTypeAliasDeclaration r) false (is_one_of_kind kind.BindingIdentifier node) (t refl) i) (inl refl)))
  member_of kind.TSMappedType c0 w i t a = one kind.TSMappedType (container_of container.TypeParameters x) c0 a (plain_member kind.TSMappedType (container_of container.TypeParameters x) refl refl refl refl refl (λ e. inl refl))
  member_of kind.TSConditionalType c0 w i t a = by (is_child_in role.True x ch) a
    where
      by : (u : Bool) → Among c0 (container_of (cond u container.Inferred container.Condition) x ∷ []) → Member kind.TSConditionalType c0
      by true b = one kind.TSConditionalType (container_of container.Inferred x) c0 b (apart_member kind.TSConditionalType (container_of container.Inferred x) refl refl refl refl)
      by false b = one kind.TSConditionalType (container_of container.Condition x) c0 b (apart_member kind.TSConditionalType (container_of container.Condition x) refl refl refl refl)
  member_of kind.TSInferType c0 w i t a = one kind.TSInferType (container_of container.Infer x) c0 a (apart_member kind.TSInferType (container_of container.Infer x) refl refl refl refl)
  member_of kind.StaticBlock c0 w i t a = one kind.StaticBlock (container_of container.StaticBlock x) c0 a (plain_member kind.StaticBlock (container_of container.StaticBlock x) refl refl refl refl refl (λ e. inl refl))
  member_of kind.BlockStatement c0 w i t a = one kind.BlockStatement (container_of container.Block x) c0 a (plain_member kind.BlockStatement (container_of container.Block x) refl refl refl refl refl (λ e. inl refl))
  member_of kind.ForStatement c0 w i t a = one kind.ForStatement (container_of container.Block x) c0 a (plain_member kind.ForStatement (container_of container.Block x) refl refl refl refl refl (λ e. inl refl))
  member_of kind.ForInStatement c0 w i t a = one kind.ForInStatement (container_of container.Block x) c0 a (plain_member kind.ForInStatement (container_of container.Block x) refl refl refl refl refl (λ e. inl refl))
  member_of kind.ForOfStatement c0 w i t a = one kind.ForOfStatement (container_of container.Block x) c0 a (plain_member kind.ForOfStatement (container_of container.Block x) refl refl refl refl refl (λ e. inl refl))
  member_of kind.CatchClause c0 w i t a = one kind.CatchClause (container_of container.CatchClause x) c0 a (apart_member kind.CatchClause (container_of container.CatchClause x) refl refl refl refl)
  member_of kind.SwitchStatement c0 w i t a =
      one kind.SwitchStatement (container_of container.Block x) c0 (among_if (is_one_of_kind kind.SwitchCase ch) (container_of container.Block x ∷ []) c0 a)
      (plain_member kind.SwitchStatement (container_of container.Block x) refl refl refl refl refl (λ e. let_in (is_one_of_kind kind.SwitchCase node) (container_of container.Block x) (container_of container.Block x ∷ [])
      (inside_is (is_inside kind.SwitchStatement r) true (is_one_of_kind kind.SwitchCase node) (t refl) i) (inl refl)))
  member_of kind.WithStatement c0 w i t a = absurd (never w)
  member_of kind.TSNamespaceDeclaration c0 w i t a =
      let d : Container = members_of container.NamespaceMembers x.node_id (id_name (child_of role.Id x)) (bound_container (is_exported_under s path) outer) in
      let l : List Container = container_of container.ModuleBlock x ∷ d ∷ [] in
      let q : is_one_of_kind kind.BindingIdentifier node ≡ false = not-true (is_one_of_kind kind.BindingIdentifier node) (inside_is (is_inside kind.TSNamespaceDeclaration r) false (is_one_of_kind kind.BindingIdentifier node) (t refl) i) in
      two kind.TSNamespaceDeclaration (container_of container.ModuleBlock x) d c0 (among_unless (is_one_of_kind kind.BindingIdentifier ch) l c0 a)
      (plain_member kind.TSNamespaceDeclaration (container_of container.ModuleBlock x) refl refl refl refl refl (λ e. let_out (is_one_of_kind kind.BindingIdentifier node) (container_of container.ModuleBlock x) l q (inl refl)))
      (plain_member kind.TSNamespaceDeclaration d refl refl refl refl refl (λ e. let_out (is_one_of_kind kind.BindingIdentifier node) d l q (inr (inl refl))))
  member_of kind.TSExternalModuleDeclaration c0 w i t a =
      let d : Container = members_of container.ModuleMembers x.node_id (module_member_name (child_of role.Id x)) (bound_container false outer) in
      let l : List Container = container_of container.ModuleBlock x ∷ d ∷ [] in
      let q : is_one_of_kind kind.TSModuleBlock node ≡ true = inside_is (is_inside kind.TSExternalModuleDeclaration r) true (is_one_of_kind kind.TSModuleBlock node) (t refl) i in
      two kind.TSExternalModuleDeclaration (container_of container.ModuleBlock x) d c0 (among_if (is_one_of_kind kind.TSModuleBlock ch) l c0 a)
      (plain_member kind.TSExternalModuleDeclaration (container_of container.ModuleBlock x) refl refl refl refl refl (λ e. let_in (is_one_of_kind kind.TSModuleBlock node) (container_of container.ModuleBlock x) l q (inl refl)))
      (plain_member kind.TSExternalModuleDeclaration d refl refl refl refl refl (λ e. let_in (is_one_of_kind kind.TSModuleBlock node) d l q (inr (inl refl))))
  member_of kind.TSGlobalDeclaration c0 w i t a =
      let d : Container = record { kind = container.GlobalMembers; node = x.node_id; members = Some (record { root = 0; names = [] }) } in
      two kind.TSGlobalDeclaration (container_of container.ModuleBlock x) d c0 a
      (plain_member kind.TSGlobalDeclaration (container_of container.ModuleBlock x) refl refl refl refl refl (λ e. inl refl)) (plain_member kind.TSGlobalDeclaration d refl refl refl refl refl (λ e. inr (inl refl)))
  member_of kind.TSEnumBody c0 w i t a = one kind.TSEnumBody (enum_members s x path outer) c0 a (by path)
    where
      by : (ps : List Node) → GroupMember kind.TSEnumBody x ch node (enum_members s x ps outer ∷ []) (enum_members s x ps outer)
      by [] = record { node = refl; body = λ z. absurd (never (sym z)); no_global = refl; again = λ e z w. inl refl; header = λ e z o. elim o [ inl y ↦ absurd (never (sym y)) | inr y ↦ absurd (never (sym y)) ] }
      by (y ∷ ps) = record { node = refl; body = λ z. absurd (never (sym z)); no_global = refl; again = λ e z w. inl refl; header = λ e z o. elim o [ inl y ↦ absurd (never (sym y)) | inr y ↦ absurd (never (sym y)) ] }
  member_of _ c0 w i t a = absurd a
