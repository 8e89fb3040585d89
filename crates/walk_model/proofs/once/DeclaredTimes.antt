-- A node declares only names below it that it doesn't hand on to the node around it.
use Rattle.std.proofs.Common.{◌≡◌, ℕ, ◌+◌, ◌≤◌, ◌==◌, List, [], ◌∷◌, Bool, true, false, cond, ◌||◌, not, if◌then◌else◌, ◌⊎◌, inl, inr, map, flat_map, refl, sym, ap, subst, ◌∙◌, arith}
use Rattle.std.proofs.lemmas.Bool.{cases_Bool}
use Rattle.semantic_kinds.specs.Kinds.{same_kind}
use Rattle.semantic_kinds.specs.declared.kind.AstType.{AstType}
use Rattle.semantic_kinds.specs.declared.kind.AstType.TheVariants as kind
use Rattle.semantic_kinds.specs.declared.role.Role.{Role}
use Rattle.semantic_kinds.specs.declared.role.Role.TheVariants as role
use Rattle.semantic_kinds.specs.declared.mark.Mark.TheVariants as mark
use Rattle.semantic_syntax.specs.declared.symbol_flags.TheConstants.SymbolFlags as symbol
use Rattle.semantic_syntax.specs.Sets.{union}
use Rattle.semantic_tree.specs.declared.node.Node.{Node}
use Rattle.semantic_tree.specs.Views.{is, has, is_role_of, children_of}
use Rattle.semantic_model.specs.Names.{binding_roles, bound_names, bound_below, names_at}
use Rattle.semantic_model.specs.Namespace.{InstanceState, non_instantiated, const_enum_only, instantiated, instance_state, nodes_around}
use Rattle.semantic_model.specs.Place.{Place, OpenScope, parent_holds}
use Rattle.semantic_model.specs.Declaration.{Declaration, here}
use Rattle.semantic_model.specs.Binder.{declaration_at, declare_here, variable_row, variables_under, function_row, own_function_row, class_row, is_pure_declarator, ids, marked_ambient, is_statement, parameter_excluded, parameters_under, catch_names, import_flags, enums, member_names, named_member, member_named, namespace_row, type_parameter_route, type_parameter_row, declared_by, declared_inside}
use Rattle.semantic_model.proofs.form.Clauses.{kind_is}
use Rattle.walk_model.proofs.once.NamesInRole.{AtMostOne}
use Rattle.walk_model.proofs.once.NameTimes.{name_roles, name_times, declared_times, reached, names_append, declared_append, row_times, here_times, bound_reached, at_reached}
use Rattle.walk_model.proofs.once.QuietNames.{is_quiet, names_quietly, quiet_roles}
use Rattle.walk_model.proofs.once.LoneMembers.{NameOnce, IsLone}

module _ (x : ℕ) where
  abbrev times : List Node → ℕ
  times ns = name_times x ns

  -- whether the node is the one that is counted
  abbrev pub counted : Node → ℕ
  counted node = cond (node.node_id == x) 1 0

  -- among the names that a node of the kind declares in its own scope
  abbrev pub opened_times : AstType → Node → ℕ
  opened_times kind.Function node = cond (is_statement node) 0 (times (ids node))
  opened_times kind.Class node = cond (is_statement node) 0 (times (ids node))
  opened_times kind.TSMappedType node = times (names_at role.Key node)
  opened_times _ node = 0

  pub inside_is : (k : AstType) (p : Place) (own : OpenScope) → declared_times x (declared_inside k p own) ≡ opened_times k p.node
  inside_is kind.Function p own = by (is_statement p.node)
    where
      by : (b : Bool) → declared_times x (cond b [] (map (declaration_at p.node (own_function_row p own) (has mark.Pure p.node)) (ids p.node))) ≡ cond b 0 (times (ids p.node))
      by true = refl
      by false = row_times x p.node (own_function_row p own) (has mark.Pure p.node) (ids p.node)
  inside_is kind.Class p own = by (is_statement p.node)
    where
      by : (b : Bool) → declared_times x (cond b [] (map (declaration_at p.node (class_row p (own ∷ [])) false) (ids p.node))) ≡ cond b 0 (times (ids p.node))
      by true = refl
      by false = row_times x p.node (class_row p (own ∷ [])) false (ids p.node)
  inside_is kind.TSMappedType p own = row_times x p.node (type_parameter_row (here (own ∷ []))) false (names_at role.Key p.node)
  inside_is _ p own = refl

  -- the names that a node of the kind binds
  bound_of : (k : AstType) (node : Node) → node.kind ≡ k → same_kind k kind.BindingIdentifier ≡ false → times (bound_names node) ≡ reached x (binding_roles k) node.children
  bound_of k node e h = bound_reached x node (subst (λ m. same_kind m kind.BindingIdentifier ≡ false) (sym e) h) ∙ ap (λ m. reached x (binding_roles m) node.children) e

  variables_times : (path : List Node) (p : Place) → declared_times x (variables_under path p) ≤ times (bound_names p.node)
  variables_times [] p = omega arith
  variables_times (declaration ∷ path) p = omega (arith, row_times x p.node (variable_row declaration p.chain) (is_pure_declarator p.node) (bound_names p.node))

  parameters_times : (path : List Node) (p : Place) → declared_times x (parameters_under path p) ≤ times (bound_names p.node)
  parameters_times [] p = omega arith
  parameters_times (list ∷ path) p = omega (arith, here_times x p symbol.FunctionScopedVariable.bits (parameter_excluded list p.chain) (bound_names p.node))

  rest_times : (p : Place) → declared_times x (declared_by kind.BindingRestElement p) ≤ times (bound_names p.node)
  rest_times p = by (parent_holds (is kind.FormalParameters) p.path)
    where
      by : (b : Bool) → declared_times x (cond b (declare_here p symbol.FunctionScopedVariable.bits (union symbol.FunctionScopedVariableExcludes.bits symbol.FunctionScopedVariable.bits) (bound_names p.node)) []) ≤ times (bound_names p.node)
      by true = omega (arith, here_times x p symbol.FunctionScopedVariable.bits (union symbol.FunctionScopedVariableExcludes.bits symbol.FunctionScopedVariable.bits) (bound_names p.node))
      by false = omega arith

  pattern_times : (p : Place) (q : Node) → declared_times x (catch_names p q) ≡ times (bound_names q)
  pattern_times p q = by (is kind.BindingIdentifier q) refl
    where
      by : (b : Bool) → is kind.BindingIdentifier q ≡ b → declared_times x (catch_names p q) ≡ times (bound_names q)
      by true e = rw e refl
      by false e = rw e (here_times x p (union symbol.BlockScopedVariable.bits symbol.CatchVariable.bits) symbol.BlockScopedVariableExcludes.bits (bound_below q.kind q.children))

  catch_times : (p : Place) (qs : List Node) → declared_times x (flat_map (catch_names p) qs) ≡ times (flat_map bound_names qs)
  catch_times p [] = refl
  catch_times p (q ∷ qs) =
      declared_append x (catch_names p q) (flat_map (catch_names p) qs) ∙ (λ i. pattern_times p q i + catch_times p qs i) ∙ sym (names_append x (bound_names q) (flat_map bound_names qs))

  enums_times : (p : Place) → declared_times x (enums p) ≡ times (ids p.node)
  enums_times p = by (has mark.Const p.node)
    where
      by : (b : Bool) → declared_times x (if b then declare_here p (union symbol.ConstEnum.bits (marked_ambient p.node)) symbol.ConstEnumExcludes.bits (ids p.node) else declare_here p (union symbol.RegularEnum.bits (marked_ambient p.node)) symbol.RegularEnumExcludes.bits (ids p.node)) ≡ times (ids p.node)
      by true = here_times x p (union symbol.ConstEnum.bits (marked_ambient p.node)) symbol.ConstEnumExcludes.bits (ids p.node)
      by false = here_times x p (union symbol.RegularEnum.bits (marked_ambient p.node)) symbol.RegularEnumExcludes.bits (ids p.node)

  namespace_times : (s : InstanceState) (p : Place) → declared_times x (namespace_row s p) ≡ times (ids p.node)
  namespace_times non_instantiated p = here_times x p (union symbol.NamespaceModule.bits (marked_ambient p.node)) symbol.NamespaceModuleExcludes.bits (ids p.node)
  namespace_times const_enum_only p = here_times x p (union symbol.ValueModule.bits (marked_ambient p.node)) symbol.ValueModuleExcludes.bits (ids p.node)
  namespace_times instantiated p = here_times x p (union symbol.ValueModule.bits (marked_ambient p.node)) symbol.ValueModuleExcludes.bits (ids p.node)

  -- a member stands for its name
  member_times : (node : Node) (cs : List Node) → AtMostOne cs → NameOnce cs → times (flat_map (member_named node) cs) ≤ counted node
  member_times node [] one each = omega arith
  member_times node (c ∷ d ∷ cs) one each = absurd one
  member_times node (c ∷ []) one each = omega (arith, names_append x (member_named node c) [], by (member_names c) each.0)
    where
      by : (ns : List Node) → AtMostOne ns → times (map (named_member node c) ns) ≤ counted node
      by [] o = omega arith
      by (n ∷ []) o = omega arith
      by (n ∷ m ∷ ns) o = absurd o

  statement_times : (b : Bool) (ds : List Declaration) (node : Node) → declared_times x ds ≡ times (ids node) → declared_times x (cond b ds []) + cond b 0 (times (ids node)) ≤ counted node + reached x (role.Id ∷ []) node.children
  statement_times true ds node h = omega (arith, h, at_reached x role.Id node)
  statement_times false ds node h = omega (arith, at_reached x role.Id node)

  -- what a node declares, on entering it and in its own scope
  own_times : (k : AstType) (p : Place) → p.node.kind ≡ k → IsLone k p.node.children → declared_times x (declared_by k p) + opened_times k p.node ≤ counted p.node + reached x (name_roles k) p.node.children
  own_times kind.VariableDeclarator p e l = omega (arith, variables_times p.path p, bound_of kind.VariableDeclarator p.node e refl)
  own_times kind.Function p e l = statement_times (is_statement p.node) (map (declaration_at p.node (function_row p) (has mark.Pure p.node)) (ids p.node)) p.node (row_times x p.node (function_row p) (has mark.Pure p.node) (ids p.node))
  own_times kind.Class p e l = statement_times (is_statement p.node) (map (declaration_at p.node (class_row p p.chain) false) (ids p.node)) p.node (row_times x p.node (class_row p p.chain) false (ids p.node))
  own_times kind.FormalParameter p e l = omega (arith, parameters_times p.path p, bound_of kind.FormalParameter p.node e refl)
  own_times kind.FormalParameterRest p e l = omega (arith, parameters_times p.path p, bound_of kind.FormalParameterRest p.node e refl)
  own_times kind.BindingRestElement p e l = omega (arith, rest_times p, bound_of kind.BindingRestElement p.node e refl)
  own_times kind.CatchParameter p e l = omega (arith, catch_times p (children_of role.Pattern p.node.children), at_reached x role.Pattern p.node)
  own_times kind.ImportSpecifier p e l = omega (arith, here_times x p (import_flags p) symbol.ImportBindingExcludes.bits (names_at role.Local p.node), at_reached x role.Local p.node)
  own_times kind.ImportDefaultSpecifier p e l = omega (arith, here_times x p (import_flags p) symbol.ImportBindingExcludes.bits (names_at role.Local p.node), at_reached x role.Local p.node)
  own_times kind.ImportNamespaceSpecifier p e l = omega (arith, here_times x p (import_flags p) symbol.ImportBindingExcludes.bits (names_at role.Local p.node), at_reached x role.Local p.node)
  own_times kind.TSImportEqualsDeclaration p e l = omega (arith, here_times x p symbol.Import.bits symbol.ImportBindingExcludes.bits (ids p.node), at_reached x role.Id p.node)
  own_times kind.TSTypeAliasDeclaration p e l = omega (arith, here_times x p (union symbol.TypeAlias.bits (marked_ambient p.node)) symbol.TypeAliasExcludes.bits (ids p.node), at_reached x role.Id p.node)
  own_times kind.TSInterfaceDeclaration p e l = omega (arith, here_times x p (union symbol.Interface.bits (marked_ambient p.node)) symbol.InterfaceExcludes.bits (ids p.node), at_reached x role.Id p.node)
  own_times kind.TSEnumDeclaration p e l = omega (arith, enums_times p, at_reached x role.Id p.node)
  own_times kind.TSEnumMember p e l = omega (
    arith,
    here_times x p symbol.EnumMember.bits symbol.EnumMemberExcludes.bits (flat_map (member_named p.node) (children_of role.Id p.node.children)),
    member_times p.node (children_of role.Id p.node.children) l.0 l.1,
  )
  own_times kind.TSNamespaceDeclaration p e l = omega (arith, namespace_times (instance_state p.node p.path (nodes_around p.node p.path)) p, at_reached x role.Id p.node)
  own_times kind.TSTypeParameter p e l = omega (arith, row_times x p.node (type_parameter_row (type_parameter_route p)) false (names_at role.Name p.node), at_reached x role.Name p.node)
  own_times kind.TSMappedType p e l = omega (arith, at_reached x role.Key p.node)
  own_times _ p e l = omega arith

  -- a quiet node declares nothing
  quiet_times : (k : AstType) (p : Place) → is_quiet k ≡ true → parent_holds (is kind.FormalParameters) p.path ≡ false → declared_times x (declared_by k p) + opened_times k p.node ≡ 0
  quiet_times kind.VariableDeclarator p h e = absurd cc
  quiet_times kind.Function p h e = absurd cc
  quiet_times kind.Class p h e = absurd cc
  quiet_times kind.FormalParameter p h e = absurd cc
  quiet_times kind.FormalParameterRest p h e = absurd cc
  quiet_times kind.CatchParameter p h e = absurd cc
  quiet_times kind.ImportSpecifier p h e = absurd cc
  quiet_times kind.ImportDefaultSpecifier p h e = absurd cc
  quiet_times kind.ImportNamespaceSpecifier p h e = absurd cc
  quiet_times kind.TSImportEqualsDeclaration p h e = absurd cc
  quiet_times kind.TSTypeAliasDeclaration p h e = absurd cc
  quiet_times kind.TSInterfaceDeclaration p h e = absurd cc
  quiet_times kind.TSEnumDeclaration p h e = absurd cc
  quiet_times kind.TSEnumMember p h e = absurd cc
  quiet_times kind.TSNamespaceDeclaration p h e = absurd cc
  quiet_times kind.TSTypeParameter p h e = absurd cc
  quiet_times kind.TSMappedType p h e = absurd cc
  quiet_times kind.BindingRestElement p h e = rw e refl
  quiet_times _ p h e = refl

  -- the names of a quiet node
  quiet_names : (node : Node) → is_quiet node.kind ≡ true → times (bound_names node) ≤ counted node + reached x (name_roles node.kind) node.children
  quiet_names node h = by (cases_Bool (is kind.BindingIdentifier node))
    where
      by : (is kind.BindingIdentifier node ≡ true) ⊎ (is kind.BindingIdentifier node ≡ false) → times (bound_names node) ≤ counted node + reached x (name_roles node.kind) node.children
      by (inl e) = let own : times (bound_names node) ≡ counted node + 0 = rw e refl in omega (arith, own)
      by (inr e) = let all : times (bound_names node) ≡ reached x (name_roles node.kind) node.children = bound_reached x node e ∙ ap (λ rs. reached x rs node.children) (sym (quiet_roles node.kind h)) in omega (arith, all)

  -- what a child declares, and the names that it hands on to its parent
  pub child_times : (k : AstType) (r : Role) (p : Place) → names_quietly k r p.node.kind p.node.text ≡ true → parent_holds (is kind.FormalParameters) p.path ≡ same_kind k kind.FormalParameters → IsLone p.node.kind p.node.children
      → cond (is_role_of r (name_roles k)) (times (bound_names p.node)) 0 + declared_times x (declared_by p.node.kind p) + opened_times p.node.kind p.node ≤ counted p.node + reached x (name_roles p.node.kind) p.node.children
  child_times k r p q e l = by (is_role_of r (name_roles k)) refl q
    where
      no_list : (b : Bool) → same_kind k kind.FormalParameters ≡ b → is_role_of r (name_roles k) ≡ true → b ≡ false
      no_list false f h = refl
      no_list true f h = let w : false ≡ true = subst (λ m. is_role_of r (name_roles m) ≡ true) (kind_is k kind.FormalParameters f) h in absurd cc

      by : (b : Bool) → is_role_of r (name_roles k) ≡ b → (not b || is_quiet p.node.kind) ≡ true
          → cond b (times (bound_names p.node)) 0 + declared_times x (declared_by p.node.kind p) + opened_times p.node.kind p.node ≤ counted p.node + reached x (name_roles p.node.kind) p.node.children
      by true h f = omega (arith, quiet_names p.node f, quiet_times p.node.kind p f (e ∙ no_list (same_kind k kind.FormalParameters) refl h))
      by false h f = omega (arith, own_times p.node.kind p refl l)
