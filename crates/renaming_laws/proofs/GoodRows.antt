-- In a program of signed names each declaration tells by its name whether its node is chosen.
use Rattle.std.proofs.Common.{◌≡◌, ℕ, List, [], ◌∷◌, Bool, true, false, cond, if◌then◌else◌, inl, inr, refl, sym, ap, subst, ◌∙◌, map, flat_map}
use Rattle.semantic_kinds.specs.declared.kind.AstType.{AstType}
use Rattle.semantic_kinds.specs.declared.kind.AstType.TheVariants as kind
use Rattle.semantic_kinds.specs.declared.mark.Mark.TheVariants as mark
use Rattle.semantic_kinds.specs.declared.role.Role.{Role}
use Rattle.semantic_kinds.specs.declared.role.Role.TheVariants as role
use Rattle.semantic_syntax.specs.Sets.{union}
use Rattle.semantic_syntax.specs.Tables.{Name}
use Rattle.semantic_syntax.specs.declared.symbol_flags.TheConstants.SymbolFlags as symbol
use Rattle.semantic_tree.specs.Views.{is, has, children_of}
use Rattle.semantic_tree.specs.declared.node.Node.{Node}
use Rattle.semantic_model.specs.Binder.{BinderRow, declaration_at, declare_here, ids, is_statement, marked_ambient, function_row, own_function_row, class_row, variable_row, variables_under, is_pure_declarator, parameter_excluded, parameters_under, catch_names, import_flags, enums, member_names, named_member, member_named, namespace_row, type_parameter_route, type_parameter_row, declared_by, declared_inside}
use Rattle.semantic_model.specs.Declaration.{Declaration, plain, caught, here}
use Rattle.semantic_model.specs.Entries.{Among}
use Rattle.semantic_model.specs.Names.{bound_names, bound_below, names_at}
use Rattle.semantic_model.specs.Namespace.{InstanceState, non_instantiated, const_enum_only, instantiated, instance_state, nodes_around}
use Rattle.semantic_model.specs.Place.{Place, OpenScope}
use Rattle.program_laws.proofs.DeclaredNodes.{among_map, among_flat, Binds, bound_of}
use Rattle.program_laws.proofs.TreeNodes.{nodes_from, child_in}
use Rattle.renaming_laws.proofs.Signed.{unsigned, given, Good, IsKept}

among_if : {A : Type 0} → (b : Bool) (xs : List A) (x : A) → Among x (cond b xs []) → Among x xs
among_if true xs x a = a
among_if false xs x a = absurd a

among_unless : {A : Type 0} → (b : Bool) (xs : List A) (x : A) → Among x (cond b [] xs) → Among x xs
among_unless true xs x a = absurd a
among_unless false xs x a = a

module _ (chosen : ℕ → Bool) (new : Name) where
  -- the name of the declaration tells whether its node is chosen
  abbrev pub TellsChosen : Declaration → Type 0
  TellsChosen d = given new d.naming.name ≡ cond (chosen d.naming.identifier) new (unsigned d.naming.name)

  row_good : (node : Node) (row : BinderRow) (is_pure : Bool) (xs : List Node) → ((x : Node) → Among x xs → Good chosen new x) → (d : Declaration) → Among d (map (declaration_at node row is_pure) xs) → TellsChosen d
  row_good node row is_pure xs h d a = let (x, b, e) = among_map (declaration_at node row is_pure) xs d a in subst TellsChosen e (h x b)

  -- what is known of a place
  pub record KnownPlace (p : Place) : Type 0 where
    pub names : (x : Node) → Among x (nodes_from p.node) → x.kind ≡ kind.BindingIdentifier → Good chosen new x
    pub labels : p.node.kind ≡ kind.TSEnumMember → (id : Node) → Among id (children_of role.Id p.node.children) → (x : Node) → Among x (member_names id) → IsKept chosen new x
    pub unchosen : p.node.kind ≡ kind.TSEnumMember → chosen p.node.node_id ≡ false

  module _ (p : Place) (known : KnownPlace p) where
    own : (x : Node) → Among x (bound_names p.node) → Good chosen new x
    own x a = let b : Binds (nodes_from p.node) x = bound_of p.node x a in known.names x b.among b.binds

    of_child : (r : Role) (child x : Node) → Among child (children_of r p.node.children) → Among x (bound_names child) → Good chosen new x
    of_child r child x a b = let w : Binds (nodes_from child) x = bound_of child x b in known.names x (inr (child_in r p.node.children child a x w.among)) w.binds

    in_role : (r : Role) (x : Node) → Among x (names_at r p.node) → Good chosen new x
    in_role r x a = let (child, b, c) = among_flat bound_names (children_of r p.node.children) x a in of_child r child x b c

    abbrev row_here : ℕ → ℕ → BinderRow
    row_here flags excluded = record { flags = flags; excluded = excluded; how = plain; route = here p.chain }

    own_row : (row : BinderRow) (is_pure : Bool) (d : Declaration) → Among d (map (declaration_at p.node row is_pure) (bound_names p.node)) → TellsChosen d
    own_row row is_pure d a = row_good p.node row is_pure (bound_names p.node) own d a

    role_row : (r : Role) (row : BinderRow) (is_pure : Bool) (d : Declaration) → Among d (map (declaration_at p.node row is_pure) (names_at r p.node)) → TellsChosen d
    role_row r row is_pure d a = row_good p.node row is_pure (names_at r p.node) (in_role r) d a

    role_here : (r : Role) (flags excluded : ℕ) (d : Declaration) → Among d (declare_here p flags excluded (names_at r p.node)) → TellsChosen d
    role_here r flags excluded d a = role_row r (row_here flags excluded) false d a

    variables_good : (path : List Node) (d : Declaration) → Among d (variables_under path p) → TellsChosen d
    variables_good [] d a = absurd a
    variables_good (x ∷ xs) d a = own_row (variable_row x p.chain) (is_pure_declarator p.node) d a

    parameters_good : (path : List Node) (d : Declaration) → Among d (parameters_under path p) → TellsChosen d
    parameters_good [] d a = absurd a
    parameters_good (x ∷ xs) d a = own_row (row_here symbol.FunctionScopedVariable.bits (parameter_excluded x p.chain)) false d a

    catch_good : (pattern : Node) (d : Declaration) → Among pattern (children_of role.Pattern p.node.children) → Among d (catch_names p pattern) → TellsChosen d
    catch_good pattern d b a = go (is kind.BindingIdentifier pattern) refl a
      where
        itself : is kind.BindingIdentifier pattern ≡ true → Among pattern (bound_names pattern)
        itself e = subst (λ t. Among pattern (cond t (pattern ∷ []) (bound_below pattern.kind pattern.children))) (sym e) (inl refl)

        go : (t : Bool) → is kind.BindingIdentifier pattern ≡ t → Among d (if t then declaration_at p.node (record { flags = union symbol.FunctionScopedVariable.bits symbol.CatchVariable.bits; excluded = 0; how = caught; route = here p.chain }) false pattern ∷ [] else declare_here p (union symbol.BlockScopedVariable.bits symbol.CatchVariable.bits) symbol.BlockScopedVariableExcludes.bits (bound_names pattern)) → TellsChosen d
        go true e (inl q) = subst TellsChosen q (of_child role.Pattern pattern pattern b (itself e))
        go true e (inr q) = absurd q
        go false e q = row_good p.node (row_here (union symbol.BlockScopedVariable.bits symbol.CatchVariable.bits) symbol.BlockScopedVariableExcludes.bits) false (bound_names pattern) (λ x c. of_child role.Pattern pattern x b c) d q

    namespace_good : (s : InstanceState) (d : Declaration) → Among d (namespace_row s p) → TellsChosen d
    namespace_good non_instantiated d a = role_here role.Id (union symbol.NamespaceModule.bits (marked_ambient p.node)) symbol.NamespaceModuleExcludes.bits d a
    namespace_good const_enum_only d a = role_here role.Id (union symbol.ValueModule.bits (marked_ambient p.node)) symbol.ValueModuleExcludes.bits d a
    namespace_good instantiated d a = role_here role.Id (union symbol.ValueModule.bits (marked_ambient p.node)) symbol.ValueModuleExcludes.bits d a

    enum_good : (d : Declaration) → Among d (enums p) → TellsChosen d
    enum_good d a = go (has mark.Const p.node) a
      where
        go : (b : Bool) → Among d (if b then declare_here p (union symbol.ConstEnum.bits (marked_ambient p.node)) symbol.ConstEnumExcludes.bits (ids p.node) else declare_here p (union symbol.RegularEnum.bits (marked_ambient p.node)) symbol.RegularEnumExcludes.bits (ids p.node)) → TellsChosen d
        go true q = role_here role.Id (union symbol.ConstEnum.bits (marked_ambient p.node)) symbol.ConstEnumExcludes.bits d q
        go false q = role_here role.Id (union symbol.RegularEnum.bits (marked_ambient p.node)) symbol.RegularEnumExcludes.bits d q

    -- a member has its own node, and the name of its label
    label_good : p.node.kind ≡ kind.TSEnumMember → (x : Node) → Among x (flat_map (member_named p.node) (children_of role.Id p.node.children)) → Good chosen new x
    label_good k x a =
        let (id, b, c) = among_flat (member_named p.node) (children_of role.Id p.node.children) x a in
        let (name, e, f) = among_map (named_member p.node id) (member_names id) x c in
        subst (Good chosen new) f (known.labels k id b name e ∙ sym (ap (λ t. cond t new (unsigned name.text)) (known.unchosen k)))

    pub declared_good : (k : AstType) → p.node.kind ≡ k → (d : Declaration) → Among d (declared_by k p) → TellsChosen d
    declared_good kind.VariableDeclarator e d a = variables_good p.path d a
    declared_good kind.Function e d a = role_row role.Id (function_row p) (has mark.Pure p.node) d (among_if (is_statement p.node) (map (declaration_at p.node (function_row p) (has mark.Pure p.node)) (ids p.node)) d a)
    declared_good kind.Class e d a = role_row role.Id (class_row p p.chain) false d (among_if (is_statement p.node) (map (declaration_at p.node (class_row p p.chain) false) (ids p.node)) d a)
    declared_good kind.FormalParameter e d a = parameters_good p.path d a
    declared_good kind.FormalParameterRest e d a = parameters_good p.path d a
    declared_good kind.BindingRestElement e d a =
        let row : BinderRow = row_here symbol.FunctionScopedVariable.bits (union symbol.FunctionScopedVariableExcludes.bits symbol.FunctionScopedVariable.bits) in
        own_row row false d (among_if _ (map (declaration_at p.node row false) (bound_names p.node)) d a)
    declared_good kind.CatchParameter e d a = let (x, b, c) = among_flat (catch_names p) (children_of role.Pattern p.node.children) d a in catch_good x d b c
    declared_good kind.ImportSpecifier e d a = role_here role.Local (import_flags p) symbol.ImportBindingExcludes.bits d a
    declared_good kind.ImportDefaultSpecifier e d a = role_here role.Local (import_flags p) symbol.ImportBindingExcludes.bits d a
    declared_good kind.ImportNamespaceSpecifier e d a = role_here role.Local (import_flags p) symbol.ImportBindingExcludes.bits d a
    declared_good kind.TSImportEqualsDeclaration e d a = role_here role.Id symbol.Import.bits symbol.ImportBindingExcludes.bits d a
    declared_good kind.TSTypeAliasDeclaration e d a = role_here role.Id (union symbol.TypeAlias.bits (marked_ambient p.node)) symbol.TypeAliasExcludes.bits d a
    declared_good kind.TSInterfaceDeclaration e d a = role_here role.Id (union symbol.Interface.bits (marked_ambient p.node)) symbol.InterfaceExcludes.bits d a
    declared_good kind.TSEnumDeclaration e d a = enum_good d a
    declared_good kind.TSEnumMember e d a = row_good p.node (row_here symbol.EnumMember.bits symbol.EnumMemberExcludes.bits) false (flat_map (member_named p.node) (children_of role.Id p.node.children)) (label_good e) d a
    declared_good kind.TSNamespaceDeclaration e d a = namespace_good (instance_state p.node p.path (nodes_around p.node p.path)) d a
    declared_good kind.TSTypeParameter e d a = role_row role.Name (type_parameter_row (type_parameter_route p)) false d a
    declared_good _ e d a = absurd a

    pub inside_good : (k : AstType) (at : OpenScope) (d : Declaration) → Among d (declared_inside k p at) → TellsChosen d
    inside_good kind.Function at d a = role_row role.Id (own_function_row p at) (has mark.Pure p.node) d (among_unless (is_statement p.node) (map (declaration_at p.node (own_function_row p at) (has mark.Pure p.node)) (ids p.node)) d a)
    inside_good kind.Class at d a = role_row role.Id (class_row p (at ∷ [])) false d (among_unless (is_statement p.node) (map (declaration_at p.node (class_row p (at ∷ [])) false) (ids p.node)) d a)
    inside_good kind.TSMappedType at d a = role_row role.Key (type_parameter_row (here (at ∷ []))) false d a
    inside_good _ at d a = absurd a
