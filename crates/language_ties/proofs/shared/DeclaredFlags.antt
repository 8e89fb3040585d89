-- What holds of the flags of all declarations of ECMAScript, row by row.
use Rattle.std.proofs.Common.{◌≡◌, ℕ, List, [], ◌∷◌, ◌++◌, Bool, true, false, refl, sym, subst, cond, map, flat_map, if◌then◌else◌, codes}
use Rattle.semantic_kinds.specs.declared.kind.AstType.{AstType}
use Rattle.semantic_kinds.specs.declared.kind.AstType.TheVariants as kind
use Rattle.semantic_kinds.specs.declared.mark.Mark.TheVariants as mark
use Rattle.semantic_kinds.specs.declared.role.Role.TheVariants as role
use Rattle.semantic_syntax.specs.Sets.{union}
use Rattle.semantic_syntax.specs.declared.symbol_flags.TheConstants.SymbolFlags as symbol
use Rattle.semantic_tree.specs.Views.{is, has, is_with_text, children_of}
use Rattle.semantic_tree.specs.declared.node.Node.{Node}
use Rattle.semantic_model.specs.Binder.{BinderRow, declaration_at, declare_here, variable_row, ambient_if, variables_under, is_pure_declarator, is_statement, is_special, function_row, is_block_function, own_function_row, class_row, ids, parameter_excluded, parameters_under, catch_names, import_flags, declared_by, declared_inside}
use Rattle.semantic_model.specs.Declaration.{caught, Declaration, here}
use Rattle.semantic_model.specs.Declaration as declaration
use Rattle.semantic_model.specs.Names.{bound_names, names_at}
use Rattle.semantic_model.specs.Place.{Place, OpenScope, parent_holds}
use Rattle.semantic_model.proofs.fold.EachDeclared.{EachDeclared}
use Rattle.language_ties.specs.EcmaScript.{is_ecmascript_kind}
use Rattle.language_ties.proofs.shared.PlainNodes.{IsPlainPlace, imports_values}

-- of a variable: by `var`, by `let`, and by the rest
abbrev pub variable_flags : Bool → Bool → Bool → ℕ
variable_flags is_var is_let ambient =
    union (cond is_var symbol.FunctionScopedVariable.bits (cond is_let symbol.BlockScopedVariable.bits (union symbol.BlockScopedVariable.bits symbol.ConstVariable.bits))) (ambient_if ambient)

-- of a function, as a statement or not
abbrev pub flags_of_function : Bool → Bool → Bool → ℕ
flags_of_function ambient statement special =
    union (union symbol.Function.bits (ambient_if ambient)) (union (cond statement 0 symbol.FunctionExpression.bits) (cond special symbol.AsyncOrGeneratorFunction.bits 0))

module _ (F : ℕ → Type 0) where
  -- it holds of each row's flags
  pub record HoldsOfRows : Type 0 where
    pub variable : (v l a : Bool) → F (variable_flags v l a)
    pub parameter : F symbol.FunctionScopedVariable.bits
    pub function : (a s : Bool) → F (flags_of_function a true s)
    pub of_class : (a : Bool) → F (union symbol.Class.bits (ambient_if a))
    pub catch_name : F (union symbol.FunctionScopedVariable.bits symbol.CatchVariable.bits)
    pub catch_pattern : F (union symbol.BlockScopedVariable.bits symbol.CatchVariable.bits)
    pub of_import : F symbol.Import.bits

  abbrev pub HasFlags : Declaration → Type 0
  HasFlags d = F d.naming.flags

  abbrev pub AllHaveFlags : List Declaration → Type 0
  AllHaveFlags = EachDeclared HasFlags

  flags-append : (ds es : List Declaration) → AllHaveFlags ds → AllHaveFlags es → AllHaveFlags (ds ++ es)
  flags-append [] es h k = k
  flags-append (d ∷ ds) es h k = (h.0, flags-append ds es h.1 k)

  pub flags_of_names : (node : Node) (row : BinderRow) (is_pure : Bool) (names : List Node) → F row.flags → AllHaveFlags (map (declaration_at node row is_pure) names)
  flags_of_names node row is_pure [] h = tt
  flags_of_names node row is_pure (x ∷ xs) h = (h, flags_of_names node row is_pure xs h)

  module _ (h : HoldsOfRows) where
    names_here : (p : Place) (flags excluded : ℕ) (names : List Node) → F flags → AllHaveFlags (declare_here p flags excluded names)
    names_here p flags excluded names f = flags_of_names p.node (record { flags = flags; excluded = excluded; how = declaration.plain; route = here p.chain }) false names f

    variables : (path : List Node) (p : Place) → AllHaveFlags (variables_under path p)
    variables [] p = tt
    variables (declaration ∷ path) p = flags_of_names p.node (variable_row declaration p.chain) (is_pure_declarator p.node) (bound_names p.node) (go (is_with_text kind.VariableDeclaration (codes "var") declaration) refl)
      where
        go : (b : Bool) → is_with_text kind.VariableDeclaration (codes "var") declaration ≡ b → F (variable_row declaration p.chain).flags
        go true q = rw q (h.variable true true (has mark.Declare declaration))
        go false q = rw q (h.variable false (is_with_text kind.VariableDeclaration (codes "let") declaration) (has mark.Declare declaration))

    parameters : (path : List Node) (p : Place) → AllHaveFlags (parameters_under path p)
    parameters [] p = tt
    parameters (list ∷ path) p = names_here p symbol.FunctionScopedVariable.bits (parameter_excluded list p.chain) (bound_names p.node) h.parameter

    catches : (p : Place) (patterns : List Node) → AllHaveFlags (flat_map (catch_names p) patterns)
    catches p [] = tt
    catches p (x ∷ xs) = flags-append (catch_names p x) (flat_map (catch_names p) xs) (go (is kind.BindingIdentifier x)) (catches p xs)
      where
        row : BinderRow
        row = record { flags = union symbol.FunctionScopedVariable.bits symbol.CatchVariable.bits; excluded = 0; how = caught; route = here p.chain }

        go : (b : Bool) → AllHaveFlags (if b then declaration_at p.node row false x ∷ [] else declare_here p (union symbol.BlockScopedVariable.bits symbol.CatchVariable.bits) symbol.BlockScopedVariableExcludes.bits (bound_names x))
        go true = (h.catch_name, tt)
        go false = names_here p (union symbol.BlockScopedVariable.bits symbol.CatchVariable.bits) symbol.BlockScopedVariableExcludes.bits (bound_names x) h.catch_pattern

    functions : (p : Place) → AllHaveFlags (declared_by kind.Function p)
    functions p = go (is_statement p.node) refl
      where
        flags : is_statement p.node ≡ true → (b : Bool) → is_block_function p ≡ b → F (function_row p).flags
        flags s true q = rw (q, s) (h.function (has mark.Declare p.node) (is_special p.node))
        flags s false q = rw (q, s) (h.function (has mark.Declare p.node) (is_special p.node))

        go : (b : Bool) → is_statement p.node ≡ b → AllHaveFlags (cond b (map (declaration_at p.node (function_row p) (has mark.Pure p.node)) (ids p.node)) [])
        go true s = flags_of_names p.node (function_row p) (has mark.Pure p.node) (ids p.node) (flags s (is_block_function p) refl)
        go false s = tt

    classes : (p : Place) → AllHaveFlags (declared_by kind.Class p)
    classes p = go (is_statement p.node)
      where
        go : (b : Bool) → AllHaveFlags (cond b (map (declaration_at p.node (class_row p p.chain) false) (ids p.node)) [])
        go true = flags_of_names p.node (class_row p p.chain) false (ids p.node) (h.of_class (has mark.Declare p.node))
        go false = tt

    rests : (p : Place) → AllHaveFlags (declared_by kind.BindingRestElement p)
    rests p = go (parent_holds (is kind.FormalParameters) p.path)
      where
        go : (b : Bool) → AllHaveFlags (cond b (declare_here p symbol.FunctionScopedVariable.bits (union symbol.FunctionScopedVariableExcludes.bits symbol.FunctionScopedVariable.bits) (bound_names p.node)) [])
        go true = names_here p symbol.FunctionScopedVariable.bits (union symbol.FunctionScopedVariableExcludes.bits symbol.FunctionScopedVariable.bits) (bound_names p.node) h.parameter
        go false = tt

    imports : (p : Place) → IsPlainPlace p → AllHaveFlags (declared_by kind.ImportSpecifier p)
    imports p i = names_here p (import_flags p) symbol.ImportBindingExcludes.bits (names_at role.Local p.node) (subst F (sym (imports_values p i)) h.of_import)

    -- on entering a node
    pub flags_entering : (k : AstType) (p : Place) → IsPlainPlace p → is_ecmascript_kind k ≡ true → AllHaveFlags (declared_by k p)
    flags_entering kind.VariableDeclarator p plain i = variables p.path p
    flags_entering kind.Function p plain i = functions p
    flags_entering kind.Class p plain i = classes p
    flags_entering kind.FormalParameter p plain i = parameters p.path p
    flags_entering kind.FormalParameterRest p plain i = parameters p.path p
    flags_entering kind.BindingRestElement p plain i = rests p
    flags_entering kind.CatchParameter p plain i = catches p (children_of role.Pattern p.node.children)
    flags_entering kind.ImportSpecifier p plain i = imports p plain
    flags_entering kind.ImportDefaultSpecifier p plain i = imports p plain
    flags_entering kind.ImportNamespaceSpecifier p plain i = imports p plain
    flags_entering kind.TSImportEqualsDeclaration p plain i = absurd cc
    flags_entering kind.TSTypeAliasDeclaration p plain i = absurd cc
    flags_entering kind.TSInterfaceDeclaration p plain i = absurd cc
    flags_entering kind.TSEnumDeclaration p plain i = absurd cc
    flags_entering kind.TSEnumMember p plain i = absurd cc
    flags_entering kind.TSNamespaceDeclaration p plain i = absurd cc
    flags_entering kind.TSTypeParameter p plain i = absurd cc
    flags_entering _ p plain i = tt

    -- in a scope that opens, where it holds of the names of functions too
    pub flags_opening : ((a s : Bool) → F (flags_of_function a false s)) → (k : AstType) (p : Place) (own : OpenScope) → is_ecmascript_kind k ≡ true → AllHaveFlags (declared_inside k p own)
    flags_opening f kind.Function p own i = go (is_statement p.node) refl
      where
        go : (b : Bool) → is_statement p.node ≡ b → AllHaveFlags (cond b [] (map (declaration_at p.node (own_function_row p own) (has mark.Pure p.node)) (ids p.node)))
        go true e = tt
        go false e = flags_of_names p.node (own_function_row p own) (has mark.Pure p.node) (ids p.node) (rw e (f (has mark.Declare p.node) (is_special p.node)))
    flags_opening f kind.Class p own i = go (is_statement p.node)
      where
        go : (b : Bool) → AllHaveFlags (cond b [] (map (declaration_at p.node (class_row p (own ∷ [])) false) (ids p.node)))
        go true = tt
        go false = flags_of_names p.node (class_row p (own ∷ [])) false (ids p.node) (h.of_class (has mark.Declare p.node))
    flags_opening f kind.TSMappedType p own i = absurd cc
    flags_opening f _ p own i = tt
