-- What a node of each kind declares where the walk stands.
use Rattle.std.proofs.Common.{◌≡◌, ℕ, List, [], ◌∷◌, true, false, ◌⊎◌, inl, inr, map, refl, sym, ap, ◌∙◌}
use Rattle.semantic_kinds.specs.Kinds.{same_kind}
use Rattle.semantic_kinds.specs.declared.kind.AstType.{AstType}
use Rattle.semantic_kinds.specs.declared.kind.AstType.TheVariants as kind
use Rattle.semantic_kinds.specs.declared.role.Role.TheVariants as role
use Rattle.semantic_syntax.specs.declared.symbol_flags.TheConstants.SymbolFlags as symbol
use Rattle.semantic_syntax.specs.Sets.{union}
use Rattle.semantic_tree.specs.declared.node.Node.{Node}
use Rattle.semantic_model.specs.Names.{binding_roles, bound_names, names_at}
use Rattle.semantic_model.specs.Place.{Place, OpenScope}
use Rattle.semantic_model.specs.Declaration.{Declaration}
use Rattle.semantic_model.specs.Binder.{declare_here, ids, marked_ambient, import_declarations, declared_by, declared_on_entering, declared_inside, declared_on_opening}
use Rattle.walk_model.specs.Shown.{HasVar, IsGrounded}
use Rattle.node_rules.specs.declared.rows.Row.{Row}
use Rattle.node_rules.specs.Seen.{IsBinderRow}
use Rattle.table_building.specs.Named.{named_by}
use Rattle.semantic_walk.specs.Walker.{Walker}
use Rattle.semantic_walk.specs.AtPlace.{IsWithin}
use Rattle.semantic_walk.specs.Binds.{is_bound_inside, declaring, acting}
use Rattle.semantic_walk.proofs.PlaceDeclares.{here_binds, stated, unstated, class_declares, class_opens}
use Rattle.semantic_walk.proofs.PlaceRows.{row_at_acts}

-- the kind is none of those that declare
pub record DeclaresNothing (k : AstType) : Type 0 where
  pub variable : k ≡ kind.VariableDeclarator → ⊥
  pub function : k ≡ kind.Function → ⊥
  pub class : k ≡ kind.Class → ⊥
  pub parameter : k ≡ kind.FormalParameter → ⊥
  pub parameter_rest : k ≡ kind.FormalParameterRest → ⊥
  pub rest_element : k ≡ kind.BindingRestElement → ⊥
  pub caught : k ≡ kind.CatchParameter → ⊥
  pub specifier : k ≡ kind.ImportSpecifier → ⊥
  pub default_specifier : k ≡ kind.ImportDefaultSpecifier → ⊥
  pub namespace_specifier : k ≡ kind.ImportNamespaceSpecifier → ⊥
  pub import_equals : k ≡ kind.TSImportEqualsDeclaration → ⊥
  pub type_alias : k ≡ kind.TSTypeAliasDeclaration → ⊥
  pub interface : k ≡ kind.TSInterfaceDeclaration → ⊥
  pub enum : k ≡ kind.TSEnumDeclaration → ⊥
  pub member : k ≡ kind.TSEnumMember → ⊥
  pub namespace : k ≡ kind.TSNamespaceDeclaration → ⊥
  pub type_parameter : k ≡ kind.TSTypeParameter → ⊥
  pub mapped : k ≡ kind.TSMappedType → ⊥

pub nothing_entered : (k : AstType) (p : Place) → DeclaresNothing k → declared_by k p ≡ []
nothing_entered kind.VariableDeclarator p h = absurd (h.variable refl)
nothing_entered kind.Function p h = absurd (h.function refl)
nothing_entered kind.Class p h = absurd (h.class refl)
nothing_entered kind.FormalParameter p h = absurd (h.parameter refl)
nothing_entered kind.FormalParameterRest p h = absurd (h.parameter_rest refl)
nothing_entered kind.BindingRestElement p h = absurd (h.rest_element refl)
nothing_entered kind.CatchParameter p h = absurd (h.caught refl)
nothing_entered kind.ImportSpecifier p h = absurd (h.specifier refl)
nothing_entered kind.ImportDefaultSpecifier p h = absurd (h.default_specifier refl)
nothing_entered kind.ImportNamespaceSpecifier p h = absurd (h.namespace_specifier refl)
nothing_entered kind.TSImportEqualsDeclaration p h = absurd (h.import_equals refl)
nothing_entered kind.TSTypeAliasDeclaration p h = absurd (h.type_alias refl)
nothing_entered kind.TSInterfaceDeclaration p h = absurd (h.interface refl)
nothing_entered kind.TSEnumDeclaration p h = absurd (h.enum refl)
nothing_entered kind.TSEnumMember p h = absurd (h.member refl)
nothing_entered kind.TSNamespaceDeclaration p h = absurd (h.namespace refl)
nothing_entered kind.TSTypeParameter p h = absurd (h.type_parameter refl)
nothing_entered _ p h = refl

pub nothing_opened : (k : AstType) (p : Place) (own : OpenScope) → DeclaresNothing k → declared_inside k p own ≡ []
nothing_opened kind.Function p own h = absurd (h.function refl)
nothing_opened kind.Class p own h = absurd (h.class refl)
nothing_opened kind.TSMappedType p own h = absurd (h.mapped refl)
nothing_opened _ p own h = refl

-- each specifier of an import declares alike
pub imports_declared : (k : AstType) (p : Place) → (k ≡ kind.ImportSpecifier) ⊎ ((k ≡ kind.ImportDefaultSpecifier) ⊎ (k ≡ kind.ImportNamespaceSpecifier)) → declared_by k p ≡ import_declarations p
imports_declared k p (inl e) = ap (λ j. declared_by j p) e
imports_declared k p (inr (inl e)) = ap (λ j. declared_by j p) e
imports_declared k p (inr (inr e)) = ap (λ j. declared_by j p) e

-- a place below the root stands in some function's scope
pub below_root : (p : Place) (k : AstType) → p.node.kind ≡ k → same_kind k kind.Program ≡ false → IsGrounded p → HasVar p.chain
below_root p k e apart (inl h) = h
below_root p k e apart (inr q) = absurd (clash (sym apart ∙ ap (λ j. same_kind j kind.Program) (sym e ∙ q)))
  where
    clash : false ≡ true → ⊥
    clash t = cc

module _ (ds : List Declaration) (w : Walker) (p : Place) (node : Node) (row : Row) (e : p.node ≡ node) where
  -- a node that declares its ids by one row
  pub ids_declared : (k : AstType) (flags : Node → ℕ) (excluded : ℕ) → p.node.kind ≡ k → IsBinderRow row (flags node) excluded → IsWithin w p p.chain
      → same_kind k kind.BindingIdentifier ≡ false → binding_roles k ≡ role.Id ∷ [] → declared_by k p ≡ declare_here p (flags p.node) excluded (ids p.node)
      → declaring w (map (named_by node row false) (bound_names node)) ≡ acting ds w (declared_on_entering p)
  ids_declared k flags excluded is same within other roles declared =
      row_at_acts ds w p p.chain node row false flags excluded bound_names e same within
      ∙ ap (λ new. acting ds w new) (sym (here_binds p k (flags p.node) excluded is other roles))
      ∙ ap (λ new. acting ds w new) (sym declared)
      ∙ ap (λ j. acting ds w (declared_by j p)) (sym is)

  pub class_entered : p.node.kind ≡ kind.Class → is_bound_inside p.node ≡ false → IsBinderRow row (union symbol.Class.bits (marked_ambient node)) symbol.ClassExcludes.bits → IsWithin w p p.chain
      → declaring w (map (named_by node row false) (bound_names node)) ≡ acting ds w (declared_on_entering p)
  class_entered is outside same within =
      row_at_acts ds w p p.chain node row false (λ n. union symbol.Class.bits (marked_ambient n)) symbol.ClassExcludes.bits bound_names e same within
      ∙ ap (λ new. acting ds w new) (sym (class_declares p is (stated p.node kind.Class is refl outside)))

  pub class_opened : (own : OpenScope) → p.node.kind ≡ kind.Class → is_bound_inside p.node ≡ true → IsBinderRow row (union symbol.Class.bits (marked_ambient node)) symbol.ClassExcludes.bits → IsWithin w p (own ∷ [])
      → declaring w (map (named_by node row false) (bound_names node)) ≡ acting ds w (declared_on_opening p own)
  class_opened own is inside same within =
      row_at_acts ds w p (own ∷ []) node row false (λ n. union symbol.Class.bits (marked_ambient n)) symbol.ClassExcludes.bits bound_names e same within
      ∙ ap (λ new. acting ds w new) (sym (class_opens p own is (unstated p.node kind.Class is refl inside)))

  pub mapped_opened : (own : OpenScope) → p.node.kind ≡ kind.TSMappedType → IsBinderRow row symbol.TypeParameter.bits symbol.TypeParameterExcludes.bits → IsWithin w p (own ∷ [])
      → declaring w (map (named_by node row false) (names_at role.Key node)) ≡ acting ds w (declared_on_opening p own)
  mapped_opened own is same within =
      row_at_acts ds w p (own ∷ []) node row false (λ n. symbol.TypeParameter.bits) symbol.TypeParameterExcludes.bits (names_at role.Key) e same within
      ∙ ap (λ j. acting ds w (declared_inside j p own)) (sym is)
