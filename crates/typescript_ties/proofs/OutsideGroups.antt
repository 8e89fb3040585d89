-- Round a child that stands outside of its parent's scope, the parent has only containers apart.
use Rattle.std.proofs.Common.{◌≡◌, List, [], ◌∷◌, Bool, true, false, not, cond, refl, sym, subst, inl, inr}
use Rattle.semantic_syntax.specs.declared.source_type.SourceType.{SourceType}
use Rattle.semantic_kinds.specs.Kinds.{same_kind}
use Rattle.semantic_kinds.specs.declared.kind.AstType.{AstType}
use Rattle.semantic_kinds.specs.declared.kind.AstType.TheVariants as kind
use Rattle.semantic_kinds.specs.declared.role.Role.{Role}
use Rattle.semantic_kinds.specs.declared.role.Role.TheVariants as role
use Rattle.semantic_tree.specs.Views.{child_of, is_child_in}
use Rattle.semantic_tree.specs.declared.node.Node.{Node}
use Rattle.semantic_model.specs.Entries.{Among}
use Rattle.semantic_model.specs.Inside.{is_inside}
use Rattle.binding_laws.proofs.SmallLaws.{never}
use Rattle.typescript_ties.specs.Containers.{Container, same_container_kind, container_of, bound_container, members_of, id_name, module_member_name, is_exported_under, is_one_of_kind, is_of_signature, parameter_containers, containers_by}
use Rattle.typescript_ties.specs.SimpleNames.{is_apart}
use Rattle.typescript_ties.specs.declared.container_kind.ContainerKind.TheVariants as container
use Rattle.typescript_ties.proofs.ChildPlaces.{is_told_by_role, tells_by_kind}
use Rattle.typescript_ties.proofs.Heads.{outside_is, false_not}

-- apart, and not what is global
pub record IsAside (c : Container) : Type 0 where
  pub apart : is_apart c.kind ≡ true
  pub no_global : same_container_kind container.Globals c.kind ≡ false

none_if : (t : Bool) (l : List Container) (c : Container) → t ≡ false → Among c (cond t l []) → IsAside c
none_if true l c e a = absurd (never e)
none_if false l c e a = absurd a

none_unless : (t : Bool) (l : List Container) (c : Container) → t ≡ true → Among c (cond t [] l) → IsAside c
none_unless true l c e a = absurd a
none_unless false l c e a = absurd (never (sym e))

module _ (s : SourceType) (x child : Node) (path : List Node) (outer : List Container) (r : Role) where
  one_aside : (c d : Container) → IsAside d → Among c (d ∷ []) → IsAside c
  one_aside c d h (inl e) = subst IsAside e h
  one_aside c d h (inr a) = absurd a

  pub aside_of : (k : AstType) (c : Container) → same_kind k kind.WithStatement ≡ false → is_inside k r ≡ false → (is_told_by_role k ≡ false → tells_by_kind k r child.kind ≡ true) → Among c (containers_by k s x path outer child) → IsAside c
  aside_of kind.Program c w i t a = absurd (never i)
  aside_of kind.Function c w i t a = absurd (never i)
  aside_of kind.ArrowFunctionExpression c w i t a = absurd (never i)
  aside_of kind.TSFunctionType c w i t a = absurd (never i)
  aside_of kind.TSConstructorType c w i t a = absurd (never i)
  aside_of kind.TSCallSignatureDeclaration c w i t a = absurd (never i)
  aside_of kind.TSConstructSignatureDeclaration c w i t a = absurd (never i)
  aside_of kind.TSMethodSignature c w i t a = none_if (is_of_signature child) (parameter_containers x child) c (outside_is (is_inside kind.TSMethodSignature r) true (is_of_signature child) (t refl) i) a
  aside_of kind.TSIndexSignature c w i t a = one_aside c (container_of container.IndexSignature x) (record { apart = refl; no_global = refl }) a
  aside_of kind.Class c w i t a =
      none_unless (is_one_of_kind kind.Decorator child) (container_of container.TypeParameters x ∷ container_of container.OwnName x ∷ []) c
      (false_not (is_one_of_kind kind.Decorator child) (outside_is (is_inside kind.Class r) false (is_one_of_kind kind.Decorator child) (t refl) i)) a
  aside_of kind.TSInterfaceDeclaration c w i t a =
      none_if (not (is_one_of_kind kind.BindingIdentifier child)) (container_of container.TypeParameters x ∷ []) c (outside_is (is_inside kind.TSInterfaceDeclaration r) false (is_one_of_kind kind.BindingIdentifier child) (t refl) i) a
  aside_of kind.TSTypeAliasDeclaration c w i t a =
      none_if (not (is_one_of_kind kind.BindingIdentifier child)) (container_of container.TypeParameters x ∷ []) c (outside_is (is_inside kind.TSTypeAliasDeclaration r) false (is_one_of_kind kind.BindingIdentifier child) (t refl) i) a
  aside_of kind.TSMappedType c w i t a = absurd (never i)
  aside_of kind.TSConditionalType c w i t a = by (is_child_in role.True x child) a
    where
      by : (u : Bool) → Among c (container_of (cond u container.Inferred container.Condition) x ∷ []) → IsAside c
      by true b = one_aside c (container_of container.Inferred x) (record { apart = refl; no_global = refl }) b
      by false b = one_aside c (container_of container.Condition x) (record { apart = refl; no_global = refl }) b
  aside_of kind.TSInferType c w i t a = one_aside c (container_of container.Infer x) (record { apart = refl; no_global = refl }) a
  aside_of kind.StaticBlock c w i t a = absurd (never i)
  aside_of kind.BlockStatement c w i t a = absurd (never i)
  aside_of kind.ForStatement c w i t a = absurd (never i)
  aside_of kind.ForInStatement c w i t a = absurd (never i)
  aside_of kind.ForOfStatement c w i t a = absurd (never i)
  aside_of kind.CatchClause c w i t a = absurd (never i)
  aside_of kind.SwitchStatement c w i t a = none_if (is_one_of_kind kind.SwitchCase child) (container_of container.Block x ∷ []) c (outside_is (is_inside kind.SwitchStatement r) true (is_one_of_kind kind.SwitchCase child) (t refl) i) a
  aside_of kind.WithStatement c w i t a = absurd (never w)
  aside_of kind.TSNamespaceDeclaration c w i t a =
      none_unless (is_one_of_kind kind.BindingIdentifier child)
      (container_of container.ModuleBlock x ∷ members_of container.NamespaceMembers x.node_id (id_name (child_of role.Id x)) (bound_container (is_exported_under s path) outer) ∷ []) c
      (false_not (is_one_of_kind kind.BindingIdentifier child) (outside_is (is_inside kind.TSNamespaceDeclaration r) false (is_one_of_kind kind.BindingIdentifier child) (t refl) i)) a
  aside_of kind.TSExternalModuleDeclaration c w i t a =
      none_if (is_one_of_kind kind.TSModuleBlock child)
      (container_of container.ModuleBlock x ∷ members_of container.ModuleMembers x.node_id (module_member_name (child_of role.Id x)) (bound_container false outer) ∷ []) c
      (outside_is (is_inside kind.TSExternalModuleDeclaration r) true (is_one_of_kind kind.TSModuleBlock child) (t refl) i) a
  aside_of kind.TSGlobalDeclaration c w i t a = absurd (never i)
  aside_of kind.TSEnumBody c w i t a = absurd (never i)
  aside_of _ c w i t a = absurd a
