-- The containers that a node has round a child stand there by that node.
use Rattle.std.proofs.Common.{◌≡◌, ℕ, List, [], ◌∷◌, ◌++◌, Bool, true, false, not, cond, refl, sym, ap, ◌∙◌, inl, inr}
use Rattle.semantic_syntax.specs.declared.source_type.SourceType.{SourceType}
use Rattle.semantic_kinds.specs.Classes.{is_kind_of_statement}
use Rattle.semantic_kinds.specs.declared.kind.AstType.{AstType}
use Rattle.semantic_kinds.specs.declared.kind.AstType.TheVariants as kind
use Rattle.semantic_kinds.specs.declared.role.Role.TheVariants as role
use Rattle.semantic_tree.specs.Views.{is, child_of}
use Rattle.semantic_tree.specs.declared.node.Node.{Node}
use Rattle.semantic_model.specs.Entries.{Among}
use Rattle.typescript_ties.specs.Containers.{Container, container_of, bound_container, members_of, id_name, module_member_name, enum_members, is_exported_under, is_one_of_kind, is_of_signature, parameter_containers, function_containers, containers_by}
use Rattle.typescript_ties.specs.declared.container_kind.ContainerKind.TheVariants as container

-- all of a list do
abbrev AllStand : ℕ → List Container → Type 0
AllStand n [] = Unit {0}
AllStand n (c ∷ cs) = (c.node ≡ n) × AllStand n cs

stands : (n : ℕ) (cs : List Container) (c : Container) → AllStand n cs → Among c cs → c.node ≡ n
stands n [] c h a = absurd a
stands n (d ∷ cs) c h (inl e) = ap (λ (z : Container). z.node) (sym e) ∙ h.0
stands n (d ∷ cs) c h (inr a) = stands n cs c h.1 a

stand_if : (n : ℕ) (t : Bool) (l : List Container) → AllStand n l → AllStand n (cond t l [])
stand_if n true l h = h
stand_if n false l h = tt

stand_unless : (n : ℕ) (t : Bool) (l : List Container) → AllStand n l → AllStand n (cond t [] l)
stand_unless n true l h = tt
stand_unless n false l h = h

stand_append : (n : ℕ) (l m : List Container) → AllStand n l → AllStand n m → AllStand n (l ++ m)
stand_append n [] m h k = k
stand_append n (c ∷ l) m h k = (h.0, stand_append n l m h.1 k)

parameters_stand : (x child : Node) → AllStand x.node_id (parameter_containers x child)
parameters_stand x child = stand_append x.node_id (cond (is kind.TSTypeParameterDeclaration child) [] (container_of container.Parameters x ∷ [])) (container_of container.TypeParameters x ∷ []) (stand_unless x.node_id (is kind.TSTypeParameterDeclaration child) (container_of container.Parameters x ∷ []) (refl, tt)) (refl, tt)

functions_stand : (x child : Node) → AllStand x.node_id (function_containers x child)
functions_stand x child =
    stand_append x.node_id (cond (is_of_signature child) [] (container_of container.Body x ∷ []) ++ parameter_containers x child) (container_of container.OwnName x ∷ [])
    (stand_append x.node_id (cond (is_of_signature child) [] (container_of container.Body x ∷ [])) (parameter_containers x child) (stand_unless x.node_id (is_of_signature child) (container_of container.Body x ∷ []) (refl, tt)) (parameters_stand x child)) (refl, tt)

module _ (s : SourceType) (x child : Node) (path : List Node) (outer : List Container) where
  enums_stand : (ps : List Node) → AllStand x.node_id (enum_members s x ps outer ∷ [])
  enums_stand [] = (refl, tt)
  enums_stand (y ∷ ps) = (refl, tt)

  all_stand : (k : AstType) → AllStand x.node_id (containers_by k s x path outer child)
  all_stand kind.Program = (refl, tt)
  all_stand kind.Function = functions_stand x child
  all_stand kind.ArrowFunctionExpression = functions_stand x child
  all_stand kind.TSFunctionType = parameters_stand x child
  all_stand kind.TSConstructorType = parameters_stand x child
  all_stand kind.TSCallSignatureDeclaration = parameters_stand x child
  all_stand kind.TSConstructSignatureDeclaration = parameters_stand x child
  all_stand kind.TSMethodSignature = stand_if x.node_id (is_of_signature child) (parameter_containers x child) (parameters_stand x child)
  all_stand kind.TSIndexSignature = (refl, tt)
  all_stand kind.Class = stand_unless x.node_id (is_one_of_kind kind.Decorator child) (container_of container.TypeParameters x ∷ container_of container.OwnName x ∷ []) (refl, (refl, tt))
  all_stand kind.TSInterfaceDeclaration = stand_if x.node_id (not (is_one_of_kind kind.BindingIdentifier child)) (container_of container.TypeParameters x ∷ []) (refl, tt)
  all_stand kind.TSTypeAliasDeclaration = stand_if x.node_id (not (is_one_of_kind kind.BindingIdentifier child)) (container_of container.TypeParameters x ∷ []) (refl, tt)
  all_stand kind.TSMappedType = (refl, tt)
  all_stand kind.TSConditionalType = (refl, tt)
  all_stand kind.TSInferType = (refl, tt)
  all_stand kind.StaticBlock = (refl, tt)
  all_stand kind.BlockStatement = (refl, tt)
  all_stand kind.ForStatement = (refl, tt)
  all_stand kind.ForInStatement = (refl, tt)
  all_stand kind.ForOfStatement = (refl, tt)
  all_stand kind.CatchClause = (refl, tt)
  all_stand kind.SwitchStatement = stand_if x.node_id (is_one_of_kind kind.SwitchCase child) (container_of container.Block x ∷ []) (refl, tt)
  all_stand kind.WithStatement = stand_if x.node_id (is_kind_of_statement child.kind child.text) (container_of container.Block x ∷ []) (refl, tt)
  all_stand kind.TSNamespaceDeclaration =
      stand_unless x.node_id (is_one_of_kind kind.BindingIdentifier child)
      (container_of container.ModuleBlock x ∷ members_of container.NamespaceMembers x.node_id (id_name (child_of role.Id x)) (bound_container (is_exported_under s path) outer) ∷ []) (refl, (refl, tt))
  all_stand kind.TSExternalModuleDeclaration =
      stand_if x.node_id (is_one_of_kind kind.TSModuleBlock child)
      (container_of container.ModuleBlock x ∷ members_of container.ModuleMembers x.node_id (module_member_name (child_of role.Id x)) (bound_container false outer) ∷ []) (refl, (refl, tt))
  all_stand kind.TSGlobalDeclaration = (refl, (refl, tt))
  all_stand kind.TSEnumBody = enums_stand path
  all_stand _ = tt

  pub stands_by : (k : AstType) (c : Container) → Among c (containers_by k s x path outer child) → c.node ≡ x.node_id
  stands_by k c a = stands x.node_id (containers_by k s x path outer child) c (all_stand k) a
