-- A declaration ends in the scope of the environment that binds its name: both in the innermost, or both where variables go.
use Rattle.std.proofs.Common.{◌≡◌, ℕ, List, [], ◌∷◌, Bool, true, false, cond, map, flat_map, inl, inr, ◌⊎◌, refl, sym, ap, ◌∙◌, codes, if◌then◌else◌}
use Rattle.semantic_kinds.specs.declared.kind.AstType.{AstType}
use Rattle.semantic_kinds.specs.declared.kind.AstType.TheVariants as kind
use Rattle.semantic_kinds.specs.declared.mark.Mark.TheVariants as mark
use Rattle.semantic_kinds.specs.declared.role.Role.TheVariants as role
use Rattle.semantic_syntax.specs.Sets.{union}
use Rattle.semantic_syntax.specs.declared.source_type.SourceType.{SourceType}
use Rattle.semantic_syntax.specs.declared.symbol_flags.TheConstants.SymbolFlags as symbol
use Rattle.semantic_tree.specs.Views.{is, has, is_with_text, children_of}
use Rattle.semantic_tree.specs.declared.node.Node.{Node}
use Rattle.semantic_model.specs.Binder.{BinderRow, declaration_at, declare_here, variable_row, variables_under, is_pure_declarator, is_statement, is_var, is_block_function, function_row, class_row, ids, parameter_excluded, parameters_under, import_flags, catch_names, declared_by}
use Rattle.semantic_model.specs.Declaration.{Declaration, plain, moved, caught, here, outward_to}
use Rattle.semantic_model.specs.Entries.{Among}
use Rattle.semantic_model.specs.Names.{bound_names, names_at}
use Rattle.semantic_model.specs.Place.{Place}
use Rattle.program_laws.proofs.DeclaredNodes.{among_map, among_flat}
use Rattle.language_ties.specs.Bound as language
use Rattle.language_ties.specs.Bound.{Bound, bound_identifier, bound_here, bound_outward, bound_by_declarator, bound_by_declaration, bound_by_class, bound_by_catch, bound_by_node}
use Rattle.language_ties.specs.Environments.{Environment, environments, innermost, passed, variable_environment}
use Rattle.language_ties.specs.declared.bound_as.BoundAs.{BoundAs}
use Rattle.language_ties.specs.declared.bound_as.BoundAs.TheVariants as bound
use Rattle.language_ties.specs.declared.environment_kind.EnvironmentKind.TheVariants as environment

module _ (s : SourceType) (q : Place) where
  abbrev pub es : List Environment
  es = environments q.node q.path

  -- in the innermost, or where variables go
  abbrev pub Paired : Declaration → Bound → Type 0
  Paired d b = ((d.route ≡ here q.chain) × (b.environment ≡ innermost es)) ⊎ ((d.route ≡ outward_to is_var q.chain) × (b.environment ≡ variable_environment es) × (b.passed ≡ passed es))

  module _ (d : Declaration) (b : Bound) where
    of_row : (row : BinderRow) (is_pure : Bool) (names : List Node) → Among d (map (declaration_at q.node row is_pure) names) → (d.route ≡ row.route) × (d.how ≡ row.how)
    of_row row is_pure names a = let (n, c, i) = among_map (declaration_at q.node row is_pure) names d a in (sym (ap (λ z. z.route) i), sym (ap (λ z. z.how) i))

    declared_here : (flags excluded : ℕ) (names : List Node) → Among d (declare_here q flags excluded names) → d.route ≡ here q.chain
    declared_here flags excluded names a = (of_row (record { flags = flags; excluded = excluded; how = plain; route = here q.chain }) false names a).0

    bound_at_home : (way : BoundAs) (names : List Node) → Among b (map (bound_here way es) names) → b.environment ≡ innermost es
    bound_at_home way names a = let (n, c, i) = among_map (bound_here way es) names b a in sym (ap (λ z. z.environment) i)

    variables : (path : List Node) → q.path ≡ path → Among d (variables_under path q) → Among b (bound_by_declarator q.node path) → Paired d b
    variables [] e a c = absurd a
    variables (declaration ∷ path) e a c = go (is_with_text kind.VariableDeclaration (codes "var") declaration) refl c
      where
        fs : List Environment
        fs = environments q.node (declaration ∷ path)

        same : fs ≡ es
        same = ap (λ l. environments q.node l) (sym e)

        route : d.route ≡ (variable_row declaration q.chain).route
        route = (of_row (variable_row declaration q.chain) (is_pure_declarator q.node) (bound_names q.node) a).0

        go : (t : Bool) → is_with_text kind.VariableDeclaration (codes "var") declaration ≡ t → Among b (map (cond t (bound_outward fs) (bound_here bound.Lexical fs)) (bound_names q.node)) → Paired d b
        go true w i =
            let (n, j, v) = among_map (bound_outward fs) (bound_names q.node) b i in
            inr (route ∙ rw w refl, sym (ap (λ z. z.environment) v) ∙ ap variable_environment same, sym (ap (λ z. z.passed) v) ∙ ap passed same)
        go false w i =
            let (n, j, v) = among_map (bound_here bound.Lexical fs) (bound_names q.node) b i in
            inl (route ∙ rw w refl, sym (ap (λ z. z.environment) v) ∙ ap innermost same)

    -- a function that is a statement is bound by the innermost environment, whether it has a variable beside or not
    declaration_at_home : (names : List Node) → Among b (map (bound_by_declaration s q.node q.path) names) → b.environment ≡ innermost es
    declaration_at_home names a = let (n, c, i) = among_map (bound_by_declaration s q.node q.path) names b a in sym (ap (λ z. z.environment) i) ∙ go (language.is_block_function s q.node q.path) n
      where
        go : (t : Bool) (n : Node) → (cond t (bound_identifier bound.Function (innermost es) (variable_environment es ∷ []) (passed es) n) (bound_here bound.Function es n)).environment ≡ innermost es
        go true n = refl
        go false n = refl

    functions : (d.how ≡ moved → ⊥) → Among d (declared_by kind.Function q) → Among b (bound_by_node kind.Function s q.node q.path) → Paired d b
    functions stays a c = go (is_statement q.node) a c
      where
        by : (t : Bool) → is_block_function q ≡ t → (d.route ≡ (function_row q).route) × (d.how ≡ (function_row q).how) → d.route ≡ here q.chain
        by true w r = absurd (stays (r.1 ∙ rw w refl))
        by false w r = r.0 ∙ rw w refl

        go : (t : Bool) → Among d (cond t (map (declaration_at q.node (function_row q) (has mark.Pure q.node)) (ids q.node)) []) → Among b (map (cond t (bound_by_declaration s q.node q.path) (bound_identifier bound.OwnName (record { kind = environment.OwnName; maker = q.node.node_id }) [] [])) (names_at role.Id q.node)) → Paired d b
        go true i j = inl (by (is_block_function q) refl (of_row (function_row q) (has mark.Pure q.node) (ids q.node) i), declaration_at_home (names_at role.Id q.node) j)
        go false i j = absurd i

    classes : Among d (declared_by kind.Class q) → Among b (bound_by_class q.node q.path) → Paired d b
    classes a c = go (is_statement q.node) a c
      where
        own : Environment
        own = record { kind = environment.Class; maker = q.node.node_id }

        go : (t : Bool) → Among d (cond t (map (declaration_at q.node (class_row q q.chain) false) (ids q.node)) []) → Among b (map (cond t (bound_identifier bound.Lexical (innermost es) (own ∷ []) []) (bound_identifier bound.OwnName own [] [])) (names_at role.Id q.node)) → Paired d b
        go true i j =
            let (n, k, v) = among_map (bound_identifier bound.Lexical (innermost es) (own ∷ []) []) (names_at role.Id q.node) b j in
            inl ((of_row (class_row q q.chain) false (ids q.node) i).0, sym (ap (λ z. z.environment) v))
        go false i j = absurd i

    parameters : (path : List Node) → Among d (parameters_under path q) → Among b (map (bound_here bound.Parameter es) (bound_names q.node)) → Paired d b
    parameters [] a c = absurd a
    parameters (list ∷ path) a c = inl (declared_here symbol.FunctionScopedVariable.bits (parameter_excluded list q.chain) (bound_names q.node) a, bound_at_home bound.Parameter (bound_names q.node) c)

    caught_here : (pattern : Node) → Among d (catch_names q pattern) → d.route ≡ here q.chain
    caught_here pattern a = go (is kind.BindingIdentifier pattern) a
      where
        row : BinderRow
        row = record { flags = union symbol.FunctionScopedVariable.bits symbol.CatchVariable.bits; excluded = 0; how = caught; route = here q.chain }

        go : (t : Bool) → Among d (if t then declaration_at q.node row false pattern ∷ [] else declare_here q (union symbol.BlockScopedVariable.bits symbol.CatchVariable.bits) symbol.BlockScopedVariableExcludes.bits (bound_names pattern)) → d.route ≡ here q.chain
        go true (inl i) = sym (ap (λ z. z.route) i)
        go true (inr i) = absurd i
        go false i = declared_here (union symbol.BlockScopedVariable.bits symbol.CatchVariable.bits) symbol.BlockScopedVariableExcludes.bits (bound_names pattern) i

    catches : (patterns : List Node) → Among d (flat_map (catch_names q) patterns) → Among b (flat_map (bound_by_catch es) patterns) → Paired d b
    catches patterns a c =
        let (n, i, j) = among_flat (catch_names q) patterns d a in
        let (m, k, l) = among_flat (bound_by_catch es) patterns b c in
        inl (caught_here n j, bound_at_home (cond (is kind.BindingIdentifier m) bound.CatchName bound.Lexical) (bound_names m) l)

    imports : Among d (declared_by kind.ImportSpecifier q) → Among b (map (bound_here bound.Lexical es) (names_at role.Local q.node)) → Paired d b
    imports a c = inl (declared_here (import_flags q) symbol.ImportBindingExcludes.bits (names_at role.Local q.node) a, bound_at_home bound.Lexical (names_at role.Local q.node) c)

    pub by_kind : (k : AstType) → (d.how ≡ moved → ⊥) → Among d (declared_by k q) → Among b (bound_by_node k s q.node q.path) → Paired d b
    by_kind kind.VariableDeclarator stays a c = variables q.path refl a c
    by_kind kind.Function stays a c = functions stays a c
    by_kind kind.Class stays a c = classes a c
    by_kind kind.FormalParameter stays a c = parameters q.path a c
    by_kind kind.FormalParameterRest stays a c = parameters q.path a c
    by_kind kind.CatchParameter stays a c = catches (children_of role.Pattern q.node.children) a c
    by_kind kind.ImportSpecifier stays a c = imports a c
    by_kind kind.ImportDefaultSpecifier stays a c = imports a c
    by_kind kind.ImportNamespaceSpecifier stays a c = imports a c
    by_kind _ stays a c = absurd c
