-- A place with other marks opens the same scope.
use Rattle.std.proofs.Common.{◌≡◌, ℕ, suc, List, [], ◌∷◌, cond, false, ◌||◌, None, refl, ap, ◌∙◌, map, codes}
use Rattle.std.specs.List.{list_any}
use Rattle.semantic_kinds.specs.Roles.{same_role}
use Rattle.semantic_kinds.specs.declared.kind.AstType.{AstType}
use Rattle.semantic_kinds.specs.declared.kind.AstType.TheVariants as kind
use Rattle.semantic_kinds.specs.declared.marks.Marks.{Marks}
use Rattle.semantic_kinds.specs.declared.role.Role.TheVariants as role
use Rattle.semantic_syntax.specs.Sets.{union}
use Rattle.semantic_syntax.specs.SourceTypes.{is_module}
use Rattle.semantic_syntax.specs.Tables.{Name}
use Rattle.semantic_syntax.specs.declared.scope_flags.TheConstants.ScopeFlags as scope
use Rattle.semantic_tree.specs.declared.node.Node.{Node}
use Rattle.semantic_tree.specs.Views.{is, is_with_text, has_use_strict, children_of}
use Rattle.semantic_model.specs.Place.{Place, is_strict}
use Rattle.semantic_model.specs.ScopeKind.{strict_if, strict_by_body, value_of, method_flags, flags_of_kind, opened_scope}
use Rattle.program_laws.proofs.Children.{children_same, child_holds, any_same, body_same}
use Rattle.program_laws.specs.Remarked.{remarked_node}

module _ (f : Node → Marks) where
  -- the place with the marks of its node, of those below it and of those above it changed
  abbrev pub remarked_place : Place → Place
  remarked_place p = record p { node = remarked_node f p.node; path = map (remarked_node f) p.path }

  strict_same : (node : Node) → has_use_strict (remarked_node f node) ≡ has_use_strict node
  strict_same node =
      ap (list_any (is_with_text kind.Directive (codes "use strict"))) (children_same f role.Directives node.children)
      ∙ any_same f (is_with_text kind.Directive (codes "use strict")) (λ n. refl) (children_of role.Directives node.children)

  body_strict_same : (node : Node) → strict_by_body (remarked_node f node) ≡ strict_by_body node
  body_strict_same node = ap strict_if (child_holds f role.Body has_use_strict strict_same node)

  value_same : (k : AstType) (text : Name) (node : Node) → value_of k text (remarked_node f node) ≡ value_of k text node
  value_same kind.MethodDefinition text node = refl
  value_same kind.ObjectProperty text node = refl
  value_same _ text node = refl

  methods_same : (path : List Node) (node : Node) → method_flags (map (remarked_node f) path) (remarked_node f node) ≡ method_flags path node
  methods_same [] node = refl
  methods_same (x ∷ xs) node = value_same x.kind x.text node

  flags_same : (k : AstType) (p : Place) → flags_of_kind k (remarked_place p) ≡ flags_of_kind k p
  flags_same kind.Program p = ap (λ b. union scope.Top.bits (strict_if (is_module p.source_type || b))) (strict_same p.node)
  flags_same kind.Function p = λ i. union scope.Function.bits (union (body_strict_same p.node i) (cond (same_role p.role role.Value) (methods_same p.path p.node i) 0))
  flags_same kind.ArrowFunctionExpression p = ap (λ b. union scope.Function.bits (union scope.Arrow.bits b)) (body_strict_same p.node)
  flags_same kind.TSNamespaceDeclaration p = ap (λ b. union scope.TsModuleBlock.bits b) (body_strict_same p.node)
  flags_same kind.TSExternalModuleDeclaration p = ap (λ b. union scope.TsModuleBlock.bits b) (body_strict_same p.node)
  flags_same _ p = refl

  pub opened_same : (p : Place) (n : ℕ) → opened_scope (remarked_place p) n ≡ opened_scope p n
  opened_same p n = λ i. record {
    number = n;
    opener = p.node.node_id;
    flags = union (flags_same p.node.kind p i) (strict_if (is_strict p.chain));
    body = cond (is kind.CatchClause p.node) (body_same f (suc n) p.node.children i) None;
    in_header = false;
  }
