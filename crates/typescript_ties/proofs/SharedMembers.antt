-- What shares members, by the nodes that have them.
use Rattle.std.proofs.Common.{◌≡◌, List, [], ◌∷◌, ◌++◌, Option, Some, None, Bool, true, false, not, cond, refl, subst, inl, inr}
use Rattle.semantic_syntax.specs.declared.source_type.SourceType.{SourceType}
use Rattle.semantic_kinds.specs.Classes.{is_kind_of_statement}
use Rattle.semantic_kinds.specs.declared.kind.AstType.{AstType}
use Rattle.semantic_kinds.specs.declared.kind.AstType.TheVariants as kind
use Rattle.semantic_kinds.specs.declared.role.Role.TheVariants as role
use Rattle.semantic_tree.specs.Views.{is, child_of}
use Rattle.semantic_tree.specs.declared.node.Node.{Node}
use Rattle.semantic_model.specs.Entries.{Among}
use Rattle.typescript_ties.specs.Containers.{Container, container_of, bound_container, path_below, members_of, id_name, module_member_name, enum_members, is_exported_under, is_one_of_kind, is_of_signature, parameter_containers, function_containers, containers_by}
use Rattle.typescript_ties.specs.declared.container_kind.ContainerKind.TheVariants as container

-- as what a node of the kind, under these nodes, has a container
pub data MemberSort (k : AstType) (x : Node) (path : List Node) (c : Container) : Type 0 where
  unshared : c.members ≡ None → MemberSort k x path c
  of_namespace : k ≡ kind.TSNamespaceDeclaration → c.kind ≡ container.NamespaceMembers → (id : Node) → child_of role.Id x ≡ Some id → (d : Container) → c.members ≡ Some (path_below id.text d d.members) → MemberSort k x path c
  of_module : k ≡ kind.TSExternalModuleDeclaration → c.kind ≡ container.ModuleMembers → (id : Node) → child_of role.Id x ≡ Some id → (d : Container) → c.members ≡ Some (path_below (39 ∷ id.text) d d.members) → MemberSort k x path c
  of_globals : k ≡ kind.TSGlobalDeclaration → c.kind ≡ container.GlobalMembers → MemberSort k x path c
  of_enum : k ≡ kind.TSEnumBody → c.kind ≡ container.EnumMembers → (y : Node) → (above : List Node) → path ≡ y ∷ above → (id : Node) → child_of role.Id y ≡ Some id → (d : Container) → c.members ≡ Some (path_below id.text d d.members) → MemberSort k x path c

abbrev AllSorted : AstType → Node → List Node → List Container → Type 0
AllSorted k x path [] = Unit {0}
AllSorted k x path (c ∷ cs) = MemberSort k x path c × AllSorted k x path cs

sorted : (k : AstType) (x : Node) (path : List Node) (cs : List Container) (c : Container) → AllSorted k x path cs → Among c cs → MemberSort k x path c
sorted k x path [] c h a = absurd a
sorted k x path (d ∷ cs) c h (inl e) = subst (MemberSort k x path) e h.0
sorted k x path (d ∷ cs) c h (inr a) = sorted k x path cs c h.1 a

sort_if : (k : AstType) (x : Node) (path : List Node) (t : Bool) (l : List Container) → AllSorted k x path l → AllSorted k x path (cond t l [])
sort_if k x path true l h = h
sort_if k x path false l h = tt

sort_unless : (k : AstType) (x : Node) (path : List Node) (t : Bool) (l : List Container) → AllSorted k x path l → AllSorted k x path (cond t [] l)
sort_unless k x path true l h = tt
sort_unless k x path false l h = h

sort_append : (k : AstType) (x : Node) (path : List Node) (l m : List Container) → AllSorted k x path l → AllSorted k x path m → AllSorted k x path (l ++ m)
sort_append k x path [] m h i = i
sort_append k x path (c ∷ l) m h i = (h.0, sort_append k x path l m h.1 i)

module _ (s : SourceType) (x child : Node) (path : List Node) (outer : List Container) where
  parameters_sorted : (k : AstType) → AllSorted k x path (parameter_containers x child)
  parameters_sorted k = sort_append k x path (cond (is kind.TSTypeParameterDeclaration child) [] (container_of container.Parameters x ∷ [])) (container_of container.TypeParameters x ∷ []) (sort_unless k x path (is kind.TSTypeParameterDeclaration child) (container_of container.Parameters x ∷ []) (unshared refl, tt)) (unshared refl, tt)

  functions_sorted : (k : AstType) → AllSorted k x path (function_containers x child)
  functions_sorted k =
      sort_append k x path (cond (is_of_signature child) [] (container_of container.Body x ∷ []) ++ parameter_containers x child) (container_of container.OwnName x ∷ [])
      (sort_append k x path (cond (is_of_signature child) [] (container_of container.Body x ∷ [])) (parameter_containers x child) (sort_unless k x path (is_of_signature child) (container_of container.Body x ∷ []) (unshared refl, tt)) (parameters_sorted k)) (unshared refl, tt)

  one : (k : AstType) (c : Container) → c.members ≡ None → AllSorted k x path (c ∷ [])
  one k c e = (unshared e, tt)

  namespace_sorted : (o : Option Node) → child_of role.Id x ≡ o → (d : Container) → MemberSort kind.TSNamespaceDeclaration x path (members_of container.NamespaceMembers x.node_id (id_name o) d)
  namespace_sorted None e d = unshared refl
  namespace_sorted (Some id) e d = of_namespace refl refl id e d refl

  module_sorted : (o : Option Node) → child_of role.Id x ≡ o → (d : Container) → MemberSort kind.TSExternalModuleDeclaration x path (members_of container.ModuleMembers x.node_id (module_member_name o) d)
  module_sorted None e d = unshared refl
  module_sorted (Some id) e d = of_module refl refl id e d refl

  named_sorted : (y : Node) (above : List Node) → path ≡ y ∷ above → (o : Option Node) → child_of role.Id y ≡ o → (d : Container) → MemberSort kind.TSEnumBody x path (members_of container.EnumMembers x.node_id (id_name o) d)
  named_sorted y above e None i d = unshared refl
  named_sorted y above e (Some id) i d = of_enum refl refl y above e id i d refl

  enum_sorted : (ps : List Node) → path ≡ ps → MemberSort kind.TSEnumBody x path (enum_members s x ps outer)
  enum_sorted [] e = unshared refl
  enum_sorted (y ∷ ps) e = named_sorted y ps e (child_of role.Id y) refl (bound_container (is_exported_under s ps) outer)

  all_sorted : (k : AstType) → AllSorted k x path (containers_by k s x path outer child)
  all_sorted kind.Program = one kind.Program (container_of container.File x) refl
  all_sorted kind.Function = functions_sorted kind.Function
  all_sorted kind.ArrowFunctionExpression = functions_sorted kind.ArrowFunctionExpression
  all_sorted kind.TSFunctionType = parameters_sorted kind.TSFunctionType
  all_sorted kind.TSConstructorType = parameters_sorted kind.TSConstructorType
  all_sorted kind.TSCallSignatureDeclaration = parameters_sorted kind.TSCallSignatureDeclaration
  all_sorted kind.TSConstructSignatureDeclaration = parameters_sorted kind.TSConstructSignatureDeclaration
  all_sorted kind.TSMethodSignature = sort_if kind.TSMethodSignature x path (is_of_signature child) (parameter_containers x child) (parameters_sorted kind.TSMethodSignature)
  all_sorted kind.TSIndexSignature = one kind.TSIndexSignature (container_of container.IndexSignature x) refl
  all_sorted kind.Class = sort_unless kind.Class x path (is_one_of_kind kind.Decorator child) (container_of container.TypeParameters x ∷ container_of container.OwnName x ∷ []) (unshared refl, (unshared refl, tt))
  all_sorted kind.TSInterfaceDeclaration = sort_if kind.TSInterfaceDeclaration x path (not (is_one_of_kind kind.BindingIdentifier child)) (container_of container.TypeParameters x ∷ []) (unshared refl, tt)
  all_sorted kind.TSTypeAliasDeclaration = sort_if kind.TSTypeAliasDeclaration x path (not (is_one_of_kind kind.BindingIdentifier child)) (container_of container.TypeParameters x ∷ []) (unshared refl, tt)
  all_sorted kind.TSMappedType = one kind.TSMappedType (container_of container.TypeParameters x) refl
  all_sorted kind.TSConditionalType = (unshared refl, tt)
  all_sorted kind.TSInferType = one kind.TSInferType (container_of container.Infer x) refl
  all_sorted kind.StaticBlock = one kind.StaticBlock (container_of container.StaticBlock x) refl
  all_sorted kind.BlockStatement = one kind.BlockStatement (container_of container.Block x) refl
  all_sorted kind.ForStatement = one kind.ForStatement (container_of container.Block x) refl
  all_sorted kind.ForInStatement = one kind.ForInStatement (container_of container.Block x) refl
  all_sorted kind.ForOfStatement = one kind.ForOfStatement (container_of container.Block x) refl
  all_sorted kind.CatchClause = one kind.CatchClause (container_of container.CatchClause x) refl
  all_sorted kind.SwitchStatement = sort_if kind.SwitchStatement x path (is_one_of_kind kind.SwitchCase child) (container_of container.Block x ∷ []) (unshared refl, tt)
  all_sorted kind.WithStatement = sort_if kind.WithStatement x path (is_kind_of_statement child.kind child.text) (container_of container.Block x ∷ []) (unshared refl, tt)
  all_sorted kind.TSNamespaceDeclaration =
      sort_unless kind.TSNamespaceDeclaration x path (is_one_of_kind kind.BindingIdentifier child)
      (container_of container.ModuleBlock x ∷ members_of container.NamespaceMembers x.node_id (id_name (child_of role.Id x)) (bound_container (is_exported_under s path) outer) ∷ [])
      (unshared refl, (namespace_sorted (child_of role.Id x) refl (bound_container (is_exported_under s path) outer), tt))
  all_sorted kind.TSExternalModuleDeclaration =
      sort_if kind.TSExternalModuleDeclaration x path (is_one_of_kind kind.TSModuleBlock child)
      (container_of container.ModuleBlock x ∷ members_of container.ModuleMembers x.node_id (module_member_name (child_of role.Id x)) (bound_container false outer) ∷ [])
      (unshared refl, (module_sorted (child_of role.Id x) refl (bound_container false outer), tt))
  all_sorted kind.TSGlobalDeclaration = (unshared refl, (of_globals refl refl, tt))
  all_sorted kind.TSEnumBody = (enum_sorted path refl, tt)
  all_sorted _ = tt

  pub member_sort : (k : AstType) (c : Container) → Among c (containers_by k s x path outer child) → MemberSort k x path c
  member_sort k c a = sorted k x path (containers_by k s x path outer child) c (all_sorted k) a
