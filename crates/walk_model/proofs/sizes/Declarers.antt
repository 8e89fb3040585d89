-- What a node declares are binding identifiers below it, or it is an enum member.
use Rattle.std.proofs.Common.{◌≡◌, ℕ, ◌<◌, ◌≤◌, ◌==◌, List, [], ◌∷◌, Bool, true, false, cond, if◌then◌else◌, map, flat_map, refl, arith, inl, inr}
use Rattle.std.proofs.lemmas.Bool.{cases_Bool}
use Rattle.semantic_kinds.specs.declared.kind.AstType.{AstType}
use Rattle.semantic_kinds.specs.declared.kind.AstType.TheVariants as kind
use Rattle.semantic_kinds.specs.declared.role.Role.TheVariants as role
use Rattle.semantic_kinds.specs.declared.mark.Mark.TheVariants as mark
use Rattle.semantic_syntax.specs.declared.symbol_flags.TheConstants.SymbolFlags as symbol
use Rattle.semantic_syntax.specs.Sets.{union}
use Rattle.semantic_tree.specs.declared.node.Node.{Node}
use Rattle.semantic_tree.specs.Views.{is, has, children_of}
use Rattle.semantic_model.specs.Names.{bound_names, bound_below, names_at}
use Rattle.semantic_model.specs.Namespace.{InstanceState, non_instantiated, const_enum_only, instantiated, instance_state, nodes_around}
use Rattle.semantic_model.specs.Place.{Place, OpenScope, parent_holds}
use Rattle.semantic_model.specs.Declaration.{Declaration, here}
use Rattle.semantic_model.specs.Binder.{declaration_at, declare_here, variable_row, variables_under, function_row, own_function_row, class_row, is_pure_declarator, ids, marked_ambient, is_statement, parameter_excluded, parameters_under, catch_names, import_flags, enums, member_names, named_member, member_named, namespace_row, type_parameter_route, type_parameter_row, declared_by, declared_inside}
use Rattle.walk_model.proofs.once.NameTimes.{name_times, declared_times, names_append, declared_append, row_times, here_times}
use Rattle.walk_model.proofs.sizes.SymbolNodes.{symbol_times, node_symbols, names_symbols, role_symbols, at_symbols}

module _ (x : ℕ) where
  -- what is declared is the node or stands below it
  abbrev Within : Node → List Declaration → Type 0
  Within node ds = declared_times x ds ≤ node_symbols x node

  names_within : (p : Place) (ds : List Declaration) → declared_times x ds ≡ name_times x (bound_names p.node) → Within p.node ds
  names_within p ds e = omega (arith, e, names_symbols x p.node)

  variables_within : (path : List Node) (p : Place) → Within p.node (variables_under path p)
  variables_within [] p = omega arith
  variables_within (declaration ∷ path) p = names_within p (variables_under (declaration ∷ path) p) (row_times x p.node (variable_row declaration p.chain) (is_pure_declarator p.node) (bound_names p.node))

  parameters_within : (path : List Node) (p : Place) → Within p.node (parameters_under path p)
  parameters_within [] p = omega arith
  parameters_within (list ∷ path) p = names_within p (parameters_under (list ∷ path) p) (here_times x p symbol.FunctionScopedVariable.bits (parameter_excluded list p.chain) (bound_names p.node))

  if_within : (b : Bool) (node : Node) (ds : List Declaration) → Within node ds → Within node (cond b ds [])
  if_within true node ds h = h
  if_within false node ds h = omega arith

  ids_within : (p : Place) (ds : List Declaration) → declared_times x ds ≡ name_times x (ids p.node) → Within p.node ds
  ids_within p ds e = omega (arith, e, at_symbols x role.Id p.node)

  pattern_times : (p : Place) (q : Node) → declared_times x (catch_names p q) ≡ name_times x (bound_names q)
  pattern_times p q = by (is kind.BindingIdentifier q) refl
    where
      by : (b : Bool) → is kind.BindingIdentifier q ≡ b → declared_times x (catch_names p q) ≡ name_times x (bound_names q)
      by true e = rw e refl
      by false e = rw e (here_times x p (union symbol.BlockScopedVariable.bits symbol.CatchVariable.bits) symbol.BlockScopedVariableExcludes.bits (bound_below q.kind q.children))

  catch_times : (p : Place) (qs : List Node) → declared_times x (flat_map (catch_names p) qs) ≡ name_times x (flat_map bound_names qs)
  catch_times p [] = refl
  catch_times p (q ∷ qs) = omega (
    arith,
    declared_append x (catch_names p q) (flat_map (catch_names p) qs),
    pattern_times p q,
    catch_times p qs,
    names_append x (bound_names q) (flat_map bound_names qs),
  )

  enums_within : (p : Place) → Within p.node (enums p)
  enums_within p = by (has mark.Const p.node)
    where
      by : (b : Bool) → Within p.node (if b then declare_here p (union symbol.ConstEnum.bits (marked_ambient p.node)) symbol.ConstEnumExcludes.bits (ids p.node) else declare_here p (union symbol.RegularEnum.bits (marked_ambient p.node)) symbol.RegularEnumExcludes.bits (ids p.node))
      by true = ids_within p _ (here_times x p (union symbol.ConstEnum.bits (marked_ambient p.node)) symbol.ConstEnumExcludes.bits (ids p.node))
      by false = ids_within p _ (here_times x p (union symbol.RegularEnum.bits (marked_ambient p.node)) symbol.RegularEnumExcludes.bits (ids p.node))

  namespace_within : (s : InstanceState) (p : Place) → Within p.node (namespace_row s p)
  namespace_within non_instantiated p = ids_within p _ (here_times x p (union symbol.NamespaceModule.bits (marked_ambient p.node)) symbol.NamespaceModuleExcludes.bits (ids p.node))
  namespace_within const_enum_only p = ids_within p _ (here_times x p (union symbol.ValueModule.bits (marked_ambient p.node)) symbol.ValueModuleExcludes.bits (ids p.node))
  namespace_within instantiated p = ids_within p _ (here_times x p (union symbol.ValueModule.bits (marked_ambient p.node)) symbol.ValueModuleExcludes.bits (ids p.node))

  rest_within : (p : Place) → Within p.node (declared_by kind.BindingRestElement p)
  rest_within p =
      if_within (parent_holds (is kind.FormalParameters) p.path) p.node _
      (names_within p _ (here_times x p symbol.FunctionScopedVariable.bits (union symbol.FunctionScopedVariableExcludes.bits symbol.FunctionScopedVariable.bits) (bound_names p.node)))

  -- a member stands for its names
  other_members : (node : Node) (cs : List Node) → (node.node_id == x) ≡ false → name_times x (flat_map (member_named node) cs) ≡ 0
  other_members node [] e = refl
  other_members node (c ∷ cs) e = omega (arith, names_append x (member_named node c) (flat_map (member_named node) cs), own (member_names c), other_members node cs e)
    where
      own : (ns : List Node) → name_times x (map (named_member node c) ns) ≡ 0
      own [] = refl
      own (n ∷ ns) = rw e (omega (arith, own ns))

  -- some of them, if there is one
  abbrev pub SomeWithin : Node → List Declaration → Type 0
  SomeWithin node ds = 0 < declared_times x ds → 0 < node_symbols x node

  some : (node : Node) (ds : List Declaration) → Within node ds → SomeWithin node ds
  some node ds h l = omega (arith, h, l)

  members_within : (p : Place) → p.node.kind ≡ kind.TSEnumMember → SomeWithin p.node (declared_by kind.TSEnumMember p)
  members_within p e l =
      let cs : List Node = children_of role.Id p.node.children in
      let all = here_times x p symbol.EnumMember.bits symbol.EnumMemberExcludes.bits (flat_map (member_named p.node) cs) in
      elim (cases_Bool (p.node.node_id == x)) [
        | inl q ↦ rw (e, q) (omega arith)
        | inr q ↦ absurd (omega (arith, l, all, other_members p.node cs q))
      ]

  -- what a node declares on entering it
  pub entered_within : (k : AstType) (p : Place) → p.node.kind ≡ k → SomeWithin p.node (declared_by k p)
  entered_within kind.VariableDeclarator p e = some p.node _ (variables_within p.path p)
  entered_within kind.Function p e = some p.node _ (if_within (is_statement p.node) p.node _ (ids_within p _ (row_times x p.node (function_row p) (has mark.Pure p.node) (ids p.node))))
  entered_within kind.Class p e = some p.node _ (if_within (is_statement p.node) p.node _ (ids_within p _ (row_times x p.node (class_row p p.chain) false (ids p.node))))
  entered_within kind.FormalParameter p e = some p.node _ (parameters_within p.path p)
  entered_within kind.FormalParameterRest p e = some p.node _ (parameters_within p.path p)
  entered_within kind.BindingRestElement p e = some p.node _ (rest_within p)
  entered_within kind.CatchParameter p e = λ l. omega (arith, l, catch_times p (children_of role.Pattern p.node.children), role_symbols x role.Pattern p.node.children)
  entered_within kind.ImportSpecifier p e = λ l. omega (arith, l, here_times x p (import_flags p) symbol.ImportBindingExcludes.bits (names_at role.Local p.node), at_symbols x role.Local p.node)
  entered_within kind.ImportDefaultSpecifier p e = λ l. omega (arith, l, here_times x p (import_flags p) symbol.ImportBindingExcludes.bits (names_at role.Local p.node), at_symbols x role.Local p.node)
  entered_within kind.ImportNamespaceSpecifier p e = λ l. omega (arith, l, here_times x p (import_flags p) symbol.ImportBindingExcludes.bits (names_at role.Local p.node), at_symbols x role.Local p.node)
  entered_within kind.TSImportEqualsDeclaration p e = some p.node _ (ids_within p _ (here_times x p symbol.Import.bits symbol.ImportBindingExcludes.bits (ids p.node)))
  entered_within kind.TSTypeAliasDeclaration p e = some p.node _ (ids_within p _ (here_times x p (union symbol.TypeAlias.bits (marked_ambient p.node)) symbol.TypeAliasExcludes.bits (ids p.node)))
  entered_within kind.TSInterfaceDeclaration p e = some p.node _ (ids_within p _ (here_times x p (union symbol.Interface.bits (marked_ambient p.node)) symbol.InterfaceExcludes.bits (ids p.node)))
  entered_within kind.TSEnumDeclaration p e = some p.node _ (enums_within p)
  entered_within kind.TSEnumMember p e = members_within p e
  entered_within kind.TSNamespaceDeclaration p e = some p.node _ (namespace_within (instance_state p.node p.path (nodes_around p.node p.path)) p)
  entered_within kind.TSTypeParameter p e = λ l. omega (arith, l, row_times x p.node (type_parameter_row (type_parameter_route p)) false (names_at role.Name p.node), at_symbols x role.Name p.node)
  entered_within _ p e = λ l. absurd (omega (arith, l))

  -- what it declares in its own scope stands below it
  pub opened_within : (k : AstType) (p : Place) (own : OpenScope) → declared_times x (declared_inside k p own) ≤ symbol_times x p.node.children
  opened_within kind.Function p own = by (is_statement p.node)
    where
      by : (b : Bool) → declared_times x (cond b [] (map (declaration_at p.node (own_function_row p own) (has mark.Pure p.node)) (ids p.node))) ≤ symbol_times x p.node.children
      by true = omega arith
      by false = omega (arith, row_times x p.node (own_function_row p own) (has mark.Pure p.node) (ids p.node), at_symbols x role.Id p.node)
  opened_within kind.Class p own = by (is_statement p.node)
    where
      by : (b : Bool) → declared_times x (cond b [] (map (declaration_at p.node (class_row p (own ∷ [])) false) (ids p.node))) ≤ symbol_times x p.node.children
      by true = omega arith
      by false = omega (arith, row_times x p.node (class_row p (own ∷ [])) false (ids p.node), at_symbols x role.Id p.node)
  opened_within kind.TSMappedType p own = omega (arith, row_times x p.node (type_parameter_row (here (own ∷ []))) false (names_at role.Key p.node), at_symbols x role.Key p.node)
  opened_within _ p own = omega arith
