-- What holds of the declarations of a node, by the routes that they take.
use Rattle.std.proofs.Common.{◌≡◌, ℕ, List, [], ◌∷◌, ◌++◌, Bool, true, false, cond, refl, map, flat_map, if◌then◌else◌, codes}
use Rattle.semantic_tree.specs.declared.node.Node.{Node}
use Rattle.semantic_kinds.specs.Kinds.{same_kind}
use Rattle.semantic_kinds.specs.declared.kind.AstType.{AstType}
use Rattle.semantic_kinds.specs.declared.kind.AstType.TheVariants as kind
use Rattle.semantic_kinds.specs.declared.role.Role.TheVariants as role
use Rattle.semantic_kinds.specs.declared.mark.Mark.TheVariants as mark
use Rattle.semantic_syntax.specs.declared.symbol_flags.TheConstants.SymbolFlags as symbol
use Rattle.semantic_syntax.specs.Sets.{union}
use Rattle.semantic_tree.specs.Views.{is, has, is_with_text, children_of}
use Rattle.semantic_model.specs.Names.{bound_names, names_at}
use Rattle.semantic_model.specs.Namespace.{InstanceState, non_instantiated, const_enum_only, instantiated, instance_state, nodes_around}
use Rattle.semantic_model.specs.Place.{Place, OpenScope, parent_holds}
use Rattle.semantic_model.specs.Declaration.{How, plain, caught, hoisted, moved, Declaration, Route, here, outward_to, outward_past}
use Rattle.semantic_model.specs.Binder.{BinderRow, declaration_at, declare_here, is_var, is_conditional, is_statement, is_block_function, variable_row, variables_under, function_row, own_function_row, class_row, is_pure_declarator, ids, parameter_excluded, parameters_under, catch_names, import_flags, enums, marked_ambient, member_named, namespace_row, type_parameter_route, type_parameter_row, declared_by, declared_inside}

module _ (P : Declaration → Type 0) where
  abbrev pub EachDeclared : List Declaration → Type 0
  EachDeclared [] = Unit {0}
  EachDeclared (d ∷ ds) = P d × EachDeclared ds

  declared-append : (ds es : List Declaration) → EachDeclared ds → EachDeclared es → EachDeclared (ds ++ es)
  declared-append [] es h k = k
  declared-append (d ∷ ds) es h k = (h.0, declared-append ds es h.1 k)

  -- of the names of a row by its route
  module _ (R : How → Route → Type 0) (one : (node : Node) (row : BinderRow) (is_pure : Bool) (name : Node) → R row.how row.route → P (declaration_at node row is_pure name)) where
    pub each_of_row : (node : Node) (row : BinderRow) (is_pure : Bool) (names : List Node) → R row.how row.route → EachDeclared (map (declaration_at node row is_pure) names)
    each_of_row node row is_pure [] h = tt
    each_of_row node row is_pure (x ∷ xs) h = (one node row is_pure x h, each_of_row node row is_pure xs h)

    -- the routes that a node's declarations take
    pub record HoldRoutes (k : AstType) (p : Place) : Type 0 where
      pub at_home : R plain (here p.chain)
      pub when_caught : R caught (here p.chain)
      pub when_hoisted : k ≡ kind.VariableDeclarator → R hoisted (outward_to is_var p.chain)
      pub when_moved : k ≡ kind.Function → is_statement p.node ≡ true → is_block_function p ≡ true → R moved (outward_past is_var p.chain)
      pub when_inferred : R plain (outward_to is_conditional p.chain)

    module _ (k : AstType) (p : Place) (h : HoldRoutes k p) where
      names_here : (flags excluded : ℕ) (names : List Node) → EachDeclared (declare_here p flags excluded names)
      names_here flags excluded names = each_of_row p.node (record { flags = flags; excluded = excluded; how = plain; route = here p.chain }) false names h.at_home

      variables : k ≡ kind.VariableDeclarator → (path : List Node) → EachDeclared (variables_under path p)
      variables e [] = tt
      variables e (declaration ∷ path) = each_of_row p.node (variable_row declaration p.chain) (is_pure_declarator p.node) (bound_names p.node) (by (is_with_text kind.VariableDeclaration (codes "var") declaration) refl)
        where
          by : (b : Bool) → is_with_text kind.VariableDeclaration (codes "var") declaration ≡ b → R (variable_row declaration p.chain).how (variable_row declaration p.chain).route
          by true q = rw q (h.when_hoisted e)
          by false q = rw q h.at_home

      functions : k ≡ kind.Function → EachDeclared (cond (is_statement p.node) (map (declaration_at p.node (function_row p) (has mark.Pure p.node)) (ids p.node)) [])
      functions e = by (is_statement p.node) refl
        where
          route : is_statement p.node ≡ true → (b : Bool) → is_block_function p ≡ b → R (function_row p).how (function_row p).route
          route s true q = rw q (h.when_moved e s q)
          route s false q = rw q h.at_home

          by : (b : Bool) → is_statement p.node ≡ b → EachDeclared (cond b (map (declaration_at p.node (function_row p) (has mark.Pure p.node)) (ids p.node)) [])
          by true s = each_of_row p.node (function_row p) (has mark.Pure p.node) (ids p.node) (route s (is_block_function p) refl)
          by false s = tt

      classes : EachDeclared (cond (is_statement p.node) (map (declaration_at p.node (class_row p p.chain) false) (ids p.node)) [])
      classes = by (is_statement p.node)
        where
          by : (b : Bool) → EachDeclared (cond b (map (declaration_at p.node (class_row p p.chain) false) (ids p.node)) [])
          by true = each_of_row p.node (class_row p p.chain) false (ids p.node) h.at_home
          by false = tt

      parameters : (path : List Node) → EachDeclared (parameters_under path p)
      parameters [] = tt
      parameters (l ∷ path) = names_here symbol.FunctionScopedVariable.bits (parameter_excluded l p.chain) (bound_names p.node)

      rest_names : EachDeclared (declared_by kind.BindingRestElement p)
      rest_names = by (parent_holds (is kind.FormalParameters) p.path)
        where
          by : (b : Bool) → EachDeclared (cond b (declare_here p symbol.FunctionScopedVariable.bits (union symbol.FunctionScopedVariableExcludes.bits symbol.FunctionScopedVariable.bits) (bound_names p.node)) [])
          by true = names_here symbol.FunctionScopedVariable.bits (union symbol.FunctionScopedVariableExcludes.bits symbol.FunctionScopedVariable.bits) (bound_names p.node)
          by false = tt

      catches : (patterns : List Node) → EachDeclared (flat_map (catch_names p) patterns)
      catches [] = tt
      catches (x ∷ xs) = declared-append (catch_names p x) (flat_map (catch_names p) xs) (by (is kind.BindingIdentifier x)) (catches xs)
        where
          row : BinderRow
          row = record { flags = union symbol.FunctionScopedVariable.bits symbol.CatchVariable.bits; excluded = 0; how = caught; route = here p.chain }

          by : (b : Bool) → EachDeclared (if b then declaration_at p.node row false x ∷ [] else declare_here p (union symbol.BlockScopedVariable.bits symbol.CatchVariable.bits) symbol.BlockScopedVariableExcludes.bits (bound_names x))
          by true = each_of_row p.node row false (x ∷ []) h.when_caught
          by false = names_here (union symbol.BlockScopedVariable.bits symbol.CatchVariable.bits) symbol.BlockScopedVariableExcludes.bits (bound_names x)

      enum_names : EachDeclared (enums p)
      enum_names = by (has mark.Const p.node)
        where
          by : (b : Bool) → EachDeclared (if b then declare_here p (union symbol.ConstEnum.bits (marked_ambient p.node)) symbol.ConstEnumExcludes.bits (ids p.node) else declare_here p (union symbol.RegularEnum.bits (marked_ambient p.node)) symbol.RegularEnumExcludes.bits (ids p.node))
          by true = names_here (union symbol.ConstEnum.bits (marked_ambient p.node)) symbol.ConstEnumExcludes.bits (ids p.node)
          by false = names_here (union symbol.RegularEnum.bits (marked_ambient p.node)) symbol.RegularEnumExcludes.bits (ids p.node)

      namespace_names : (s : InstanceState) → EachDeclared (namespace_row s p)
      namespace_names non_instantiated = names_here (union symbol.NamespaceModule.bits (marked_ambient p.node)) symbol.NamespaceModuleExcludes.bits (ids p.node)
      namespace_names const_enum_only = names_here (union symbol.ValueModule.bits (marked_ambient p.node)) symbol.ValueModuleExcludes.bits (ids p.node)
      namespace_names instantiated = names_here (union symbol.ValueModule.bits (marked_ambient p.node)) symbol.ValueModuleExcludes.bits (ids p.node)

      type_parameter : EachDeclared (declared_by kind.TSTypeParameter p)
      type_parameter = each_of_row p.node (type_parameter_row (type_parameter_route p)) false (names_at role.Name p.node) (by (parent_holds (is kind.TSInferType) p.path))
        where
          by : (b : Bool) → R plain (cond b (outward_to is_conditional p.chain) (here p.chain))
          by true = h.when_inferred
          by false = h.at_home

    -- of what a node declares on entering it
    pub each_on_entering : (k : AstType) (p : Place) → HoldRoutes k p → EachDeclared (declared_by k p)
    each_on_entering kind.VariableDeclarator p h = variables kind.VariableDeclarator p h refl p.path
    each_on_entering kind.Function p h = functions kind.Function p h refl
    each_on_entering kind.Class p h = classes kind.Class p h
    each_on_entering kind.FormalParameter p h = parameters kind.FormalParameter p h p.path
    each_on_entering kind.FormalParameterRest p h = parameters kind.FormalParameterRest p h p.path
    each_on_entering kind.BindingRestElement p h = rest_names kind.BindingRestElement p h
    each_on_entering kind.CatchParameter p h = catches kind.CatchParameter p h (children_of role.Pattern p.node.children)
    each_on_entering kind.ImportSpecifier p h = names_here kind.ImportSpecifier p h (import_flags p) symbol.ImportBindingExcludes.bits (names_at role.Local p.node)
    each_on_entering kind.ImportDefaultSpecifier p h = names_here kind.ImportDefaultSpecifier p h (import_flags p) symbol.ImportBindingExcludes.bits (names_at role.Local p.node)
    each_on_entering kind.ImportNamespaceSpecifier p h = names_here kind.ImportNamespaceSpecifier p h (import_flags p) symbol.ImportBindingExcludes.bits (names_at role.Local p.node)
    each_on_entering kind.TSImportEqualsDeclaration p h = names_here kind.TSImportEqualsDeclaration p h symbol.Import.bits symbol.ImportBindingExcludes.bits (ids p.node)
    each_on_entering kind.TSTypeAliasDeclaration p h = names_here kind.TSTypeAliasDeclaration p h (union symbol.TypeAlias.bits (marked_ambient p.node)) symbol.TypeAliasExcludes.bits (ids p.node)
    each_on_entering kind.TSInterfaceDeclaration p h = names_here kind.TSInterfaceDeclaration p h (union symbol.Interface.bits (marked_ambient p.node)) symbol.InterfaceExcludes.bits (ids p.node)
    each_on_entering kind.TSEnumDeclaration p h = enum_names kind.TSEnumDeclaration p h
    each_on_entering kind.TSEnumMember p h = names_here kind.TSEnumMember p h symbol.EnumMember.bits symbol.EnumMemberExcludes.bits (flat_map (member_named p.node) (children_of role.Id p.node.children))
    each_on_entering kind.TSNamespaceDeclaration p h = namespace_names kind.TSNamespaceDeclaration p h (instance_state p.node p.path (nodes_around p.node p.path))
    each_on_entering kind.TSTypeParameter p h = type_parameter kind.TSTypeParameter p h
    each_on_entering _ p h = tt

    -- of what it declares in its own scope, which is no clause's
    pub each_on_opening : (k : AstType) (p : Place) (own : OpenScope) → (same_kind k kind.CatchClause ≡ false → R plain (here (own ∷ []))) → EachDeclared (declared_inside k p own)
    each_on_opening kind.Function p own h = by (is_statement p.node)
      where
        by : (b : Bool) → EachDeclared (cond b [] (map (declaration_at p.node (own_function_row p own) (has mark.Pure p.node)) (ids p.node)))
        by true = tt
        by false = each_of_row p.node (own_function_row p own) (has mark.Pure p.node) (ids p.node) (h refl)
    each_on_opening kind.Class p own h = by (is_statement p.node)
      where
        by : (b : Bool) → EachDeclared (cond b [] (map (declaration_at p.node (class_row p (own ∷ [])) false) (ids p.node)))
        by true = tt
        by false = each_of_row p.node (class_row p (own ∷ [])) false (ids p.node) (h refl)
    each_on_opening kind.TSMappedType p own h = each_of_row p.node (type_parameter_row (here (own ∷ []))) false (names_at role.Key p.node) (h refl)
    each_on_opening _ p own h = tt
