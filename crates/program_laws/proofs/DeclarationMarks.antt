-- A place with other marks declares the same, if those that are read are kept.
use Rattle.std.proofs.Common.{◌≡◌, ℕ, List, [], ◌∷◌, ◌++◌, cond, Bool, true, false, not, ◌&&◌, ◌||◌, refl, sym, ap, ◌∙◌, map, flat_map, if◌then◌else◌, codes}
use Rattle.std.specs.Prelude.{filter}
use Rattle.bitflags.specs.Sets.{without}
use Rattle.semantic_kinds.specs.Classes.{holds_kind}
use Rattle.semantic_kinds.specs.declared.kind.AstType.{AstType}
use Rattle.semantic_kinds.specs.declared.kind.AstType.TheVariants as kind
use Rattle.semantic_kinds.specs.declared.mark.Mark.TheVariants as mark
use Rattle.semantic_kinds.specs.declared.marks.Marks.{Marks}
use Rattle.semantic_kinds.specs.declared.role.Role.{Role}
use Rattle.semantic_kinds.specs.declared.role.Role.TheVariants as role
use Rattle.semantic_syntax.specs.Sets.{union}
use Rattle.semantic_syntax.specs.SourceTypes.{is_typescript}
use Rattle.semantic_syntax.specs.declared.symbol_flags.TheConstants.SymbolFlags as symbol
use Rattle.semantic_tree.specs.declared.node.Node.{Node}
use Rattle.semantic_model.specs.Binder.{BinderRow, declaration_at, declare_here, ids, ambient_if, marked_ambient, is_var, is_conditional, is_pure_function, is_pure_declarator, lexical_flags, variable_row, variables_under, is_statement, is_special, function_flags, is_clause, function_row, own_function_row, class_row, parameter_excluded, parameters_under, catch_names, import_flags, import_declarations, enums, member_names, named_member, member_named, member_declarations, namespace_row, type_parameter_row, declared_by, declared_inside}
use Rattle.semantic_model.specs.Declaration.{plain, hoisted, moved, caught, here, outward_to, outward_past}
use Rattle.semantic_model.specs.Names.{bound_names, names_at}
use Rattle.semantic_model.specs.Namespace.{InstanceState, non_instantiated, const_enum_only, instantiated, instance_state, nodes_around}
use Rattle.semantic_tree.specs.Views.{is, has, is_with_text, children_of}
use Rattle.semantic_model.specs.Place.{Place, OpenScope, innermost, is_strict, parent_holds}
use Rattle.program_laws.specs.ReadMarks.{KeepsRead}
use Rattle.program_laws.proofs.Children.{children_same, child_holds}
use Rattle.program_laws.proofs.NameMarks.{bound_same, names_same, simple_same}
use Rattle.program_laws.proofs.NamespaceMarks.{state_same}
use Rattle.program_laws.proofs.ScopeMarks.{remarked_place}
use Rattle.semantic_model.proofs.swapped.Alike.{map_append}
use Rattle.program_laws.specs.Remarked.{remarked_node}

module _ (f : Node → Marks) where
  -- names that are declared at a node
  pub rows_same : (node : Node) (row : BinderRow) (is_pure : Bool) (xs : List Node) → map (declaration_at (remarked_node f node) row is_pure) (map (remarked_node f) xs) ≡ map (declaration_at node row is_pure) xs
  rows_same node row is_pure [] = refl
  rows_same node row is_pure (x ∷ xs) = ap (λ ds. declaration_at node row is_pure x ∷ ds) (rows_same node row is_pure xs)

  pub at_role : (r : Role) (node : Node) (row : BinderRow) (is_pure : Bool) → map (declaration_at (remarked_node f node) row is_pure) (names_at r (remarked_node f node)) ≡ map (declaration_at node row is_pure) (names_at r node)
  at_role r node row is_pure = ap (map (declaration_at (remarked_node f node) row is_pure)) (names_same f r node) ∙ rows_same node row is_pure (names_at r node)

  bound_rows : (node : Node) (row : BinderRow) (is_pure : Bool) → map (declaration_at (remarked_node f node) row is_pure) (bound_names (remarked_node f node)) ≡ map (declaration_at node row is_pure) (bound_names node)
  bound_rows node row is_pure = ap (map (declaration_at (remarked_node f node) row is_pure)) (bound_same f node) ∙ rows_same node row is_pure (bound_names node)

  abbrev here_row : Place → ℕ → ℕ → BinderRow
  here_row p flags excluded = record { flags = flags; excluded = excluded; how = plain; route = here p.chain }

  -- a test of the parent
  parent_same : (test : Node → Bool) → ((n : Node) → test (remarked_node f n) ≡ test n) → (path : List Node) → parent_holds test (map (remarked_node f) path) ≡ parent_holds test path
  parent_same test same [] = refl
  parent_same test same (x ∷ xs) = same x

  pub parent_kind : (k : AstType) (path : List Node) → parent_holds (is k) (map (remarked_node f) path) ≡ parent_holds (is k) path
  parent_kind k path = parent_same (is k) (λ n. refl) path

  -- a parameter
  excluded_by : Bool → Bool → Bool → Bool → ℕ
  excluded_by a u s l = if a || u || s || not l then union symbol.FunctionScopedVariableExcludes.bits symbol.FunctionScopedVariable.bits else symbol.FunctionScopedVariableExcludes.bits

  parameter_same : (x : Node) (chain : List OpenScope) → parameter_excluded (remarked_node f x) chain ≡ parameter_excluded x chain
  unfolding excluded_by
  parameter_same x chain = ap (excluded_by (is_with_text kind.FormalParameters (codes "arrow") x) (is_with_text kind.FormalParameters (codes "unique") x) (is_strict chain)) (simple_same f x)

  parameters_same : (p : Place) (path : List Node) → parameters_under (map (remarked_node f) path) (remarked_place f p) ≡ parameters_under path p
  parameters_same p [] = refl
  parameters_same p (x ∷ xs) =
      ap (λ n. declare_here (remarked_place f p) symbol.FunctionScopedVariable.bits n (bound_names (remarked_node f p.node))) (parameter_same x p.chain)
      ∙ bound_rows p.node (here_row p symbol.FunctionScopedVariable.bits (parameter_excluded x p.chain)) false

  -- the names of a catch clause
  catch_same : (p : Place) (x : Node) → catch_names (remarked_place f p) (remarked_node f x) ≡ catch_names p x
  catch_same p x = go (is kind.BindingIdentifier x)
    where
      row : BinderRow
      row = record { flags = union symbol.FunctionScopedVariable.bits symbol.CatchVariable.bits; excluded = 0; how = caught; route = here p.chain }

      flags : ℕ
      flags = union symbol.BlockScopedVariable.bits symbol.CatchVariable.bits

      go : (b : Bool) → (if b then declaration_at (remarked_node f p.node) (record { flags = union symbol.FunctionScopedVariable.bits symbol.CatchVariable.bits; excluded = 0; how = caught; route = here p.chain }) false (remarked_node f x) ∷ [] else declare_here (remarked_place f p) (union symbol.BlockScopedVariable.bits symbol.CatchVariable.bits) symbol.BlockScopedVariableExcludes.bits (bound_names (remarked_node f x))) ≡ (if b then declaration_at p.node (record { flags = union symbol.FunctionScopedVariable.bits symbol.CatchVariable.bits; excluded = 0; how = caught; route = here p.chain }) false x ∷ [] else declare_here p (union symbol.BlockScopedVariable.bits symbol.CatchVariable.bits) symbol.BlockScopedVariableExcludes.bits (bound_names x))
      go true = refl
      go false = ap (declare_here (remarked_place f p) (union symbol.BlockScopedVariable.bits symbol.CatchVariable.bits) symbol.BlockScopedVariableExcludes.bits) (bound_same f x) ∙ rows_same p.node (here_row p (union symbol.BlockScopedVariable.bits symbol.CatchVariable.bits) symbol.BlockScopedVariableExcludes.bits) false (bound_names x)

  catches_same : (p : Place) (xs : List Node) → flat_map (catch_names (remarked_place f p)) (map (remarked_node f) xs) ≡ flat_map (catch_names p) xs
  catches_same p [] = refl
  catches_same p (x ∷ xs) = λ i. catch_same p x i ++ catches_same p xs i

  -- the members of an enum
  named_same : (member id : Node) (xs : List Node) → map (named_member (remarked_node f member) (remarked_node f id)) (map (remarked_node f) xs) ≡ map (λ name. record (remarked_node f member) { text = name.text; span = id.span }) xs
  named_same member id [] = refl
  named_same member id (x ∷ xs) = ap (λ ns. record (remarked_node f member) { text = x.text; span = id.span } ∷ ns) (named_same member id xs)

  pieces_same : (xs : List Node) → filter (is kind.TemplateElement) (map (remarked_node f) xs) ≡ map (remarked_node f) (filter (is kind.TemplateElement) xs)
  pieces_same [] = refl
  pieces_same (x ∷ xs) = go (is kind.TemplateElement x) (pieces_same xs)
    where
      go : (b : Bool) → filter (is kind.TemplateElement) (map (remarked_node f) xs) ≡ map (remarked_node f) (filter (is kind.TemplateElement) xs) → cond b (remarked_node f x ∷ filter (is kind.TemplateElement) (map (remarked_node f) xs)) (filter (is kind.TemplateElement) (map (remarked_node f) xs)) ≡ map (remarked_node f) (cond b (x ∷ filter (is kind.TemplateElement) xs) (filter (is kind.TemplateElement) xs))
      go true h = ap (λ ns. remarked_node f x ∷ ns) h
      go false h = h

  member_names_same : (id : Node) → member_names (remarked_node f id) ≡ map (remarked_node f) (member_names id)
  member_names_same id = go (holds_kind (kind.IdentifierName ∷ kind.StringLiteral ∷ []) id.kind) (is kind.TemplateLiteral id)
    where
      go : (x y : Bool) → cond x (remarked_node f id ∷ []) (cond y (filter (is kind.TemplateElement) (children_of role.Quasis (remarked_node f id).children)) []) ≡ map (remarked_node f) (cond x (id ∷ []) (cond y (filter (is kind.TemplateElement) (children_of role.Quasis id.children)) []))
      go true y = refl
      go false true = ap (filter (is kind.TemplateElement)) (children_same f role.Quasis id.children) ∙ pieces_same (children_of role.Quasis id.children)
      go false false = refl

  member_rows : (member id : Node) (row : BinderRow) (xs : List Node) → map (declaration_at (remarked_node f member) row false) (map (named_member (remarked_node f member) (remarked_node f id)) (map (remarked_node f) xs)) ≡ map (declaration_at member row false) (map (named_member member id) xs)
  member_rows member id row [] = refl
  member_rows member id row (x ∷ xs) = ap (λ ds. declaration_at member row false (named_member member id x) ∷ ds) (member_rows member id row xs)

  all_members : (member : Node) (row : BinderRow) (xs : List Node) → map (declaration_at (remarked_node f member) row false) (flat_map (member_named (remarked_node f member)) (map (remarked_node f) xs)) ≡ map (declaration_at member row false) (flat_map (member_named member) xs)
  all_members member row [] = refl
  all_members member row (x ∷ xs) =
      map_append (declaration_at (remarked_node f member) row false) (member_named (remarked_node f member) (remarked_node f x)) (flat_map (member_named (remarked_node f member)) (map (remarked_node f) xs))
      ∙ (λ i. (ap (λ ns. map (declaration_at (remarked_node f member) row false) (map (named_member (remarked_node f member) (remarked_node f x)) ns)) (member_names_same x) ∙ member_rows member x row (member_names x)) i ++ all_members member row xs i)
      ∙ sym (map_append (declaration_at member row false) (member_named member x) (flat_map (member_named member) xs))

  members_same : (p : Place) → member_declarations (remarked_place f p) ≡ member_declarations p
  members_same p =
      let row : BinderRow = here_row p symbol.EnumMember.bits symbol.EnumMemberExcludes.bits in
      ap (λ ns. map (declaration_at (remarked_node f p.node) row false) (flat_map (member_named (remarked_node f p.node)) ns)) (children_same f role.Id p.node.children)
      ∙ all_members p.node row (children_of role.Id p.node.children)

  module _ (keeps : KeepsRead f) where
    ambient_same : (node : Node) → marked_ambient (remarked_node f node) ≡ marked_ambient node
    ambient_same node = ap ambient_if (keeps node mark.Declare refl)

    -- names declared here with flags of the node
    flagged : (r : Role) (p : Place) (flags flags' excluded : ℕ) → flags' ≡ flags → declare_here (remarked_place f p) flags' excluded (names_at r (remarked_node f p.node)) ≡ declare_here p flags excluded (names_at r p.node)
    flagged r p flags flags' excluded e = ap (λ n. declare_here (remarked_place f p) n excluded (names_at r (remarked_node f p.node))) e ∙ at_role r p.node (here_row p flags excluded) false

    -- a function or arrow without side effects
    pure_function_same : (node : Node) → is_pure_function (remarked_node f node) ≡ is_pure_function node
    pure_function_same node = ap (λ b. holds_kind (kind.Function ∷ kind.ArrowFunctionExpression ∷ []) node.kind && b) (keeps node mark.Pure refl)

    pure_same : (node : Node) → is_pure_declarator (remarked_node f node) ≡ is_pure_declarator node
    pure_same node = λ i. child_holds f role.Id (is kind.BindingIdentifier) (λ n. refl) node i && child_holds f role.Init is_pure_function pure_function_same node i

    variable_by : Node → List OpenScope → ℕ → BinderRow
    variable_by x chain ambient =
        if is_with_text kind.VariableDeclaration (codes "var") x
        then record { flags = union symbol.FunctionScopedVariable.bits ambient; excluded = symbol.FunctionScopedVariableExcludes.bits; how = hoisted; route = outward_to is_var chain }
        else record { flags = union (lexical_flags x) ambient; excluded = symbol.BlockScopedVariableExcludes.bits; how = plain; route = here chain }

    variable_same : (x : Node) (chain : List OpenScope) → variable_row (remarked_node f x) chain ≡ variable_row x chain
    unfolding variable_by
    variable_same x chain = ap (variable_by x chain) (ambient_same x)

    variables_same : (p : Place) (path : List Node) → variables_under (map (remarked_node f) path) (remarked_place f p) ≡ variables_under path p
    variables_same p [] = refl
    variables_same p (x ∷ xs) =
        (λ i. map (declaration_at (remarked_node f p.node) (variable_same x p.chain i) (pure_same p.node i)) (bound_names (remarked_node f p.node)))
        ∙ bound_rows p.node (variable_row x p.chain) (is_pure_declarator p.node)

    -- a function
    special_same : (node : Node) → is_special (remarked_node f node) ≡ is_special node
    special_same node = λ i. keeps node mark.Async refl i || keeps node mark.Generator refl i

    function_flags_same : (node : Node) → function_flags (remarked_node f node) ≡ function_flags node
    function_flags_same node = λ i. union (union symbol.Function.bits (ambient_same node i)) (union (cond (is_statement node) 0 symbol.FunctionExpression.bits) (cond (special_same node i) symbol.AsyncOrGeneratorFunction.bits 0))

    excluded_for : Place → Bool → ℕ
    excluded_for p b =
        if is_typescript p.source_type then symbol.FunctionExcludes.bits
        else if is_statement p.node && not (is_strict p.chain) && b then 0
        else without 32 symbol.FunctionExcludes.bits symbol.FunctionScopedVariable.bits

    function_by : Place → Bool → ℕ → Bool → BinderRow
    function_by p special flags b =
        if not special && not (is_typescript p.source_type) && not (is_strict p.chain) && not (is_var (innermost p.chain) || is_clause (innermost p.chain))
        then record { flags = flags; excluded = excluded_for p b; how = moved; route = outward_past is_var p.chain }
        else record { flags = flags; excluded = excluded_for p b; how = plain; route = here p.chain }

    function_same : (p : Place) → function_row (remarked_place f p) ≡ function_row p
    unfolding function_by excluded_for
    function_same p = λ i. function_by p (special_same p.node i) (function_flags_same p.node i) (parent_kind kind.IfStatement p.path i)

    pub own_function_same : (p : Place) (own : OpenScope) → own_function_row (remarked_place f p) own ≡ own_function_row p own
    unfolding excluded_for
    own_function_same p own = λ i. record { flags = function_flags_same p.node i; excluded = excluded_for p (parent_kind kind.IfStatement p.path i); how = plain; route = here (own ∷ []) }

    pub class_same : (p : Place) (chain : List OpenScope) → class_row (remarked_place f p) chain ≡ class_row p chain
    class_same p chain = λ i. record { flags = union symbol.Class.bits (ambient_same p.node i); excluded = symbol.ClassExcludes.bits; how = plain; route = here chain }

    namespace_same : (s : InstanceState) (p : Place) → namespace_row s (remarked_place f p) ≡ namespace_row s p
    namespace_same non_instantiated p = flagged role.Id p (union symbol.NamespaceModule.bits (marked_ambient p.node)) (union symbol.NamespaceModule.bits (marked_ambient (remarked_node f p.node))) symbol.NamespaceModuleExcludes.bits (ap (union symbol.NamespaceModule.bits) (ambient_same p.node))
    namespace_same const_enum_only p = flagged role.Id p (union symbol.ValueModule.bits (marked_ambient p.node)) (union symbol.ValueModule.bits (marked_ambient (remarked_node f p.node))) symbol.ValueModuleExcludes.bits (ap (union symbol.ValueModule.bits) (ambient_same p.node))
    namespace_same instantiated p = flagged role.Id p (union symbol.ValueModule.bits (marked_ambient p.node)) (union symbol.ValueModule.bits (marked_ambient (remarked_node f p.node))) symbol.ValueModuleExcludes.bits (ap (union symbol.ValueModule.bits) (ambient_same p.node))

    enums_same : (p : Place) → enums (remarked_place f p) ≡ enums p
    enums_same p = ap (λ b. if b then declare_here (remarked_place f p) (union symbol.ConstEnum.bits (marked_ambient (remarked_node f p.node))) symbol.ConstEnumExcludes.bits (ids (remarked_node f p.node)) else declare_here (remarked_place f p) (union symbol.RegularEnum.bits (marked_ambient (remarked_node f p.node))) symbol.RegularEnumExcludes.bits (ids (remarked_node f p.node))) (keeps p.node mark.Const refl) ∙ go (has mark.Const p.node)
      where
        go : (b : Bool) → (if b then declare_here (remarked_place f p) (union symbol.ConstEnum.bits (marked_ambient (remarked_node f p.node))) symbol.ConstEnumExcludes.bits (ids (remarked_node f p.node)) else declare_here (remarked_place f p) (union symbol.RegularEnum.bits (marked_ambient (remarked_node f p.node))) symbol.RegularEnumExcludes.bits (ids (remarked_node f p.node))) ≡ (if b then declare_here p (union symbol.ConstEnum.bits (marked_ambient p.node)) symbol.ConstEnumExcludes.bits (ids p.node) else declare_here p (union symbol.RegularEnum.bits (marked_ambient p.node)) symbol.RegularEnumExcludes.bits (ids p.node))
        go true = flagged role.Id p (union symbol.ConstEnum.bits (marked_ambient p.node)) (union symbol.ConstEnum.bits (marked_ambient (remarked_node f p.node))) symbol.ConstEnumExcludes.bits (ap (union symbol.ConstEnum.bits) (ambient_same p.node))
        go false = flagged role.Id p (union symbol.RegularEnum.bits (marked_ambient p.node)) (union symbol.RegularEnum.bits (marked_ambient (remarked_node f p.node))) symbol.RegularEnumExcludes.bits (ap (union symbol.RegularEnum.bits) (ambient_same p.node))

    imports_same : (p : Place) → import_declarations (remarked_place f p) ≡ import_declarations p
    imports_same p = flagged role.Local p (import_flags p) (import_flags (remarked_place f p)) symbol.ImportBindingExcludes.bits
        (λ i. cond (keeps p.node mark.TypeOnly refl i || parent_same (has mark.TypeOnly) (λ n. keeps n mark.TypeOnly refl) p.path i) symbol.TypeImport.bits symbol.Import.bits)

    pub declared_same : (k : AstType) (p : Place) → declared_by k (remarked_place f p) ≡ declared_by k p
    declared_same kind.VariableDeclarator p = variables_same p p.path
    declared_same kind.Function p = ap (λ ds. cond (is_statement p.node) ds [])
        ((λ i. map (declaration_at (remarked_node f p.node) (function_same p i) (keeps p.node mark.Pure refl i)) (ids (remarked_node f p.node))) ∙ at_role role.Id p.node (function_row p) (has mark.Pure p.node))
    declared_same kind.Class p = ap (λ ds. cond (is_statement p.node) ds []) (ap (λ row. map (declaration_at (remarked_node f p.node) row false) (ids (remarked_node f p.node))) (class_same p p.chain) ∙ at_role role.Id p.node (class_row p p.chain) false)
    declared_same kind.FormalParameter p = parameters_same p p.path
    declared_same kind.FormalParameterRest p = parameters_same p p.path
    declared_same kind.BindingRestElement p =
        let excluded : ℕ = union symbol.FunctionScopedVariableExcludes.bits symbol.FunctionScopedVariable.bits in
        λ i. cond (parent_kind kind.FormalParameters p.path i) (bound_rows p.node (here_row p symbol.FunctionScopedVariable.bits excluded) false i) []
    declared_same kind.CatchParameter p = ap (flat_map (catch_names (remarked_place f p))) (children_same f role.Pattern p.node.children) ∙ catches_same p (children_of role.Pattern p.node.children)
    declared_same kind.ImportSpecifier p = imports_same p
    declared_same kind.ImportDefaultSpecifier p = imports_same p
    declared_same kind.ImportNamespaceSpecifier p = imports_same p
    declared_same kind.TSImportEqualsDeclaration p = flagged role.Id p symbol.Import.bits symbol.Import.bits symbol.ImportBindingExcludes.bits refl
    declared_same kind.TSTypeAliasDeclaration p = flagged role.Id p (union symbol.TypeAlias.bits (marked_ambient p.node)) (union symbol.TypeAlias.bits (marked_ambient (remarked_node f p.node))) symbol.TypeAliasExcludes.bits (ap (union symbol.TypeAlias.bits) (ambient_same p.node))
    declared_same kind.TSInterfaceDeclaration p = flagged role.Id p (union symbol.Interface.bits (marked_ambient p.node)) (union symbol.Interface.bits (marked_ambient (remarked_node f p.node))) symbol.InterfaceExcludes.bits (ap (union symbol.Interface.bits) (ambient_same p.node))
    declared_same kind.TSEnumDeclaration p = enums_same p
    declared_same kind.TSEnumMember p = members_same p
    declared_same kind.TSNamespaceDeclaration p = ap (λ s. namespace_row s (remarked_place f p)) (state_same f keeps p.node p.path) ∙ namespace_same (instance_state p.node p.path (nodes_around p.node p.path)) p
    declared_same kind.TSTypeParameter p =
        ap (λ b. map (declaration_at (remarked_node f p.node) (type_parameter_row (cond b (outward_to is_conditional p.chain) (here p.chain))) false) (names_at role.Name (remarked_node f p.node))) (parent_kind kind.TSInferType p.path)
        ∙ at_role role.Name p.node (type_parameter_row (cond (parent_holds (is kind.TSInferType) p.path) (outward_to is_conditional p.chain) (here p.chain))) false
    declared_same _ p = refl

    pub inside_same : (k : AstType) (p : Place) (own : OpenScope) → declared_inside k (remarked_place f p) own ≡ declared_inside k p own
    inside_same kind.Function p own = ap (λ ds. cond (is_statement p.node) [] ds)
        ((λ i. map (declaration_at (remarked_node f p.node) (own_function_same p own i) (keeps p.node mark.Pure refl i)) (ids (remarked_node f p.node))) ∙ at_role role.Id p.node (own_function_row p own) (has mark.Pure p.node))
    inside_same kind.Class p own = ap (λ ds. cond (is_statement p.node) [] ds) (ap (λ row. map (declaration_at (remarked_node f p.node) row false) (ids (remarked_node f p.node))) (class_same p (own ∷ [])) ∙ at_role role.Id p.node (class_row p (own ∷ [])) false)
    inside_same kind.TSMappedType p own = at_role role.Key p.node (type_parameter_row (here (own ∷ []))) false
    inside_same _ p own = refl
