-- How what binds a name is declared: variables as `var` does, plain catch names always anew.
use Rattle.std.proofs.Common.{◌≡◌, ℕ, List, [], ◌∷◌, Bool, true, false, ◌&&◌, ◌||◌, not, cond, map, flat_map, inl, inr, ◌⊎◌, refl, sym, ap, subst, ◌∙◌, codes, if◌then◌else◌}
use Rattle.std.proofs.lemmas.Bool.{cases_Bool, and_from}
use Rattle.semantic_syntax.proofs.Truth.{or_true}
use Rattle.semantic_kinds.specs.declared.kind.AstType.{AstType}
use Rattle.semantic_kinds.specs.declared.kind.AstType.TheVariants as kind
use Rattle.semantic_kinds.specs.declared.mark.Mark.TheVariants as mark
use Rattle.semantic_kinds.specs.declared.role.Role.TheVariants as role
use Rattle.semantic_syntax.specs.Sets.{union}
use Rattle.semantic_syntax.specs.Tables.{Name}
use Rattle.semantic_syntax.specs.declared.source_type.SourceType.{SourceType}
use Rattle.semantic_syntax.specs.declared.symbol_flags.TheConstants.SymbolFlags as symbol
use Rattle.semantic_tree.specs.Views.{is, has, is_with_text, children_of}
use Rattle.semantic_tree.specs.declared.node.Node.{Node}
use Rattle.semantic_model.specs.Binder.{BinderRow, declaration_at, declare_here, variable_row, variables_under, is_pure_declarator, is_statement, is_var, is_block_function, function_row, class_row, ids, parameter_excluded, parameters_under, import_flags, catch_names, declared_by, declared_on_entering}
use Rattle.semantic_model.specs.Declaration.{Declaration, How, plain, hoisted, moved, caught, path, here, outward_to}
use Rattle.semantic_model.specs.Entries.{Among}
use Rattle.semantic_model.specs.Names.{bound_names, bound_below, names_at}
use Rattle.semantic_model.specs.Place.{Place, parent_holds}
use Rattle.semantic_model.specs.Step.{Step, entering}
use Rattle.semantic_model.proofs.fold.EachDeclared.{EachDeclared, each_on_entering}
use Rattle.semantic_model.proofs.form.ParameterShape.{is_parameter}
use Rattle.semantic_model.proofs.lists.Members.{among_left, among_right, among_cases}
use Rattle.program_laws.proofs.DeclaredNodes.{among_map, among_flat}
use Rattle.binding_laws.proofs.ListLaws.{each_declared}
use Rattle.binding_laws.proofs.SmallLaws.{never}
use Rattle.language_ties.specs.Bound as language
use Rattle.language_ties.specs.Bound.{Bound, bound_identifier, bound_here, bound_outward, bound_by_declarator, bound_by_declaration, bound_by_function, bound_by_class, bound_by_catch, bound_by_node, bound_at, is_bound_as, written}
use Rattle.language_ties.specs.EcmaScript.{is_ecmascript_kind}
use Rattle.language_ties.specs.Environments.{Environment, same_environment, environments, innermost, passed, takes_variables, variable_environment}
use Rattle.language_ties.specs.Moved.{is_lexical_in}
use Rattle.language_ties.specs.declared.bound_as.BoundAs.TheVariants as bound
use Rattle.language_ties.specs.declared.environment_kind.EnvironmentKind.TheVariants as environment
use Rattle.language_ties.proofs.agree.FamiliarPlaces.{ParentsFit}
use Rattle.language_ties.proofs.agree.Identifiers.{same_again}
use Rattle.language_ties.proofs.agree.MadeEnvironments.{EndsAtProgram}
use Rattle.language_ties.proofs.clear.ParameterPlaces.{parameter_takes}
use Rattle.language_ties.proofs.clear.PassedScopes.{variables_taken}

-- ---- how a declaration is made

-- only declarators of `var` declare as it does
pub record IsVariable (q : Place) (d : Declaration) : Type 0 where
  pub declaration : Node
  pub path : List Node
  pub above : q.path ≡ declaration ∷ path
  pub var : is_with_text kind.VariableDeclaration (codes "var") declaration ≡ true
  pub route : d.route ≡ outward_to is_var q.chain

variable_of : (q : Place) (path : List Node) → q.path ≡ path → (d : Declaration) → Among d (variables_under path q) → d.how ≡ hoisted → IsVariable q d
variable_of q [] e d a h = absurd a
variable_of q (declaration ∷ path) e d a h = go (is_with_text kind.VariableDeclaration (codes "var") declaration) refl
  where
    go : (b : Bool) → is_with_text kind.VariableDeclaration (codes "var") declaration ≡ b → IsVariable q d
    go true w =
        let (n, c, i) = among_map (declaration_at q.node (variable_row declaration q.chain) (is_pure_declarator q.node)) (bound_names q.node) d a in
        record { declaration = declaration; path = path; above = e; var = w; route = sym (ap (λ z. z.route) i) ∙ rw w refl }
    go false w =
        let (n, c, i) = among_map (declaration_at q.node (variable_row declaration q.chain) (is_pure_declarator q.node)) (bound_names q.node) d a in
        let plainly : (variable_row declaration q.chain).how ≡ plain = rw w refl in
        absurd (different (sym h ∙ sym (ap (λ z. z.how) i) ∙ plainly))
      where
        different : hoisted ≡ plain → ⊥
        different z = absurd cc

pub hoisted_kind : (q : Place) → EachDeclared (λ d. d.how ≡ hoisted → q.node.kind ≡ kind.VariableDeclarator) (declared_by q.node.kind q)
hoisted_kind q = each_on_entering (λ d. d.how ≡ hoisted → q.node.kind ≡ kind.VariableDeclarator) (λ how r. how ≡ hoisted → q.node.kind ≡ kind.VariableDeclarator) (λ node row is_pure name r. r) q.node.kind q (record {
  at_home = λ w. absurd cc;
  when_caught = λ w. absurd cc;
  when_hoisted = λ e w. e;
  when_moved = λ e s b w. absurd cc;
  when_inferred = λ w. absurd cc;
})

pub hoisted_is : (q : Place) (d : Declaration) → Among d (declared_on_entering q) → d.how ≡ hoisted → IsVariable q d
hoisted_is q d a h =
    let k : q.node.kind ≡ kind.VariableDeclarator = each_declared (λ z. z.how ≡ hoisted → q.node.kind ≡ kind.VariableDeclarator) (declared_on_entering q) d (hoisted_kind q) a h in
    variable_of q q.path refl d (subst (λ j. Among d (declared_by j q)) k a) h

-- what it binds is a variable
pub variable_bound : (s : SourceType) (q : Place) (d : Declaration) (v : IsVariable q d) (b : Bound) → q.node.kind ≡ kind.VariableDeclarator → Among b (bound_by_node q.node.kind s q.node q.path) → (is_bound_as bound.Var b ≡ true) × (b.passed ≡ passed (environments q.node q.path))
variable_bound s q d v b k a =
    let es : List Environment = environments q.node (v.declaration ∷ v.path) in
    let there : Among b (bound_by_declarator q.node (v.declaration ∷ v.path)) = subst (λ l. Among b (bound_by_declarator q.node l)) v.above (subst (λ j. Among b (bound_by_node j s q.node q.path)) k a) in
    let outward : Among b (map (bound_outward es) (bound_names q.node)) = subst (λ t. Among b (map (cond t (bound_outward es) (bound_here bound.Lexical es)) (bound_names q.node))) v.var there in
    let (n, c, i) = among_map (bound_outward es) (bound_names q.node) b outward in
    (sym (ap (is_bound_as bound.Var) i), sym (ap (λ z. z.passed) i) ∙ ap (λ l. passed (environments q.node l)) (sym v.above))

-- a plain catch name is bound as one, and nothing else is caught
row_how : (node : Node) (row : BinderRow) (b : Bool) (names : List Node) (d : Declaration) → Among d (map (declaration_at node row b) names) → d.how ≡ row.how
row_how node row b names d a = let (n, c, i) = among_map (declaration_at node row b) names d a in sym (ap (λ z. z.how) i)

never_caught : (w : How) → (w ≡ caught → ⊥) → (d : Declaration) → d.how ≡ w → d.how ≡ caught → ⊥
never_caught w n d h c = n (sym h ∙ c)

pub plain_never : plain ≡ caught → ⊥
plain_never h = absurd cc

hoisted_never : hoisted ≡ caught → ⊥
hoisted_never h = absurd cc

pub moved_never : moved ≡ caught → ⊥
moved_never h = absurd cc

module _ (s : SourceType) (q : Place) (x : Name) (none : (b : Bound) → Among b (bound_by_node q.node.kind s q.node q.path) → b.name ≡ x → is_bound_as bound.CatchName b ≡ false) where
  caught_here : (flags excluded : ℕ) (names : List Node) (d : Declaration) → Among d (declare_here q flags excluded names) → d.how ≡ caught → ⊥
  caught_here flags excluded names d a = never_caught plain plain_never d (row_how q.node (record { flags = flags; excluded = excluded; how = plain; route = here q.chain }) false names d a)

  caught_variable : (path : List Node) (d : Declaration) → Among d (variables_under path q) → d.how ≡ caught → ⊥
  caught_variable [] d a = absurd a
  caught_variable (y ∷ path) d a = go (is_with_text kind.VariableDeclaration (codes "var") y) refl (row_how q.node (variable_row y q.chain) (is_pure_declarator q.node) (bound_names q.node) d a)
    where
      go : (b : Bool) → is_with_text kind.VariableDeclaration (codes "var") y ≡ b → d.how ≡ (variable_row y q.chain).how → d.how ≡ caught → ⊥
      go true w r = never_caught hoisted hoisted_never d (r ∙ rw w refl)
      go false w r = never_caught plain plain_never d (r ∙ rw w refl)

  caught_function : (d : Declaration) → Among d (declared_by kind.Function q) → d.how ≡ caught → ⊥
  caught_function d a = go (is_statement q.node) a
    where
      by : (b : Bool) → is_block_function q ≡ b → d.how ≡ (function_row q).how → d.how ≡ caught → ⊥
      by true w r = never_caught moved moved_never d (r ∙ rw w refl)
      by false w r = never_caught plain plain_never d (r ∙ rw w refl)

      go : (b : Bool) → Among d (cond b (map (declaration_at q.node (function_row q) (has mark.Pure q.node)) (ids q.node)) []) → d.how ≡ caught → ⊥
      go true c = by (is_block_function q) refl (row_how q.node (function_row q) (has mark.Pure q.node) (ids q.node) d c)
      go false c = absurd c

  caught_class : (d : Declaration) → Among d (declared_by kind.Class q) → d.how ≡ caught → ⊥
  caught_class d a = go (is_statement q.node) a
    where
      go : (b : Bool) → Among d (cond b (map (declaration_at q.node (class_row q q.chain) false) (ids q.node)) []) → d.how ≡ caught → ⊥
      go true c = never_caught plain plain_never d (row_how q.node (class_row q q.chain) false (ids q.node) d c)
      go false c = absurd c

  caught_parameter : (path : List Node) (d : Declaration) → Among d (parameters_under path q) → d.how ≡ caught → ⊥
  caught_parameter [] d a = absurd a
  caught_parameter (y ∷ path) d a = caught_here symbol.FunctionScopedVariable.bits (parameter_excluded y q.chain) (bound_names q.node) d a

  caught_rest : (d : Declaration) → Among d (declared_by kind.BindingRestElement q) → d.how ≡ caught → ⊥
  caught_rest d a = go (parent_holds (is kind.FormalParameters) q.path) a
    where
      go : (b : Bool) → Among d (cond b (declare_here q symbol.FunctionScopedVariable.bits (union symbol.FunctionScopedVariableExcludes.bits symbol.FunctionScopedVariable.bits) (bound_names q.node)) []) → d.how ≡ caught → ⊥
      go true c = caught_here symbol.FunctionScopedVariable.bits (union symbol.FunctionScopedVariableExcludes.bits symbol.FunctionScopedVariable.bits) (bound_names q.node) d c
      go false c = absurd c

  caught_catch : (patterns : List Node) → ((b : Bound) → Among b (flat_map (bound_by_catch (environments q.node q.path)) patterns) → b.name ≡ x → is_bound_as bound.CatchName b ≡ false) → (d : Declaration) → Among d (flat_map (catch_names q) patterns) → d.naming.name ≡ x → d.how ≡ caught → ⊥
  caught_catch [] k d a n = absurd a
  caught_catch (y ∷ ys) k d a n = elim (among_cases d (catch_names q y) (flat_map (catch_names q) ys) a) [
    | inl c ↦ go (is kind.BindingIdentifier y) refl c
    | inr c ↦ caught_catch ys (λ b i. k b (among_right b (bound_by_catch (environments q.node q.path) y) (flat_map (bound_by_catch (environments q.node q.path)) ys) i)) d c n
  ]
    where
      row : BinderRow
      row = record { flags = union symbol.FunctionScopedVariable.bits symbol.CatchVariable.bits; excluded = 0; how = caught; route = here q.chain }

      go : (t : Bool) → is kind.BindingIdentifier y ≡ t → Among d (if t then declaration_at q.node row false y ∷ [] else declare_here q (union symbol.BlockScopedVariable.bits symbol.CatchVariable.bits) symbol.BlockScopedVariableExcludes.bits (bound_names y)) → d.how ≡ caught → ⊥
      go true w (inl c) =
          let f : Bound = bound_here bound.CatchName (environments q.node q.path) y in
          let there : Among f (bound_by_catch (environments q.node q.path) y) = subst (λ t. Among f (map (bound_here (cond t bound.CatchName bound.Lexical) (environments q.node q.path)) (cond t (y ∷ []) (bound_below y.kind y.children)))) (sym w) (inl refl) in
          let v : is_bound_as bound.CatchName f ≡ false = k f (among_left f (bound_by_catch (environments q.node q.path) y) (flat_map (bound_by_catch (environments q.node q.path)) ys) there) (ap (λ z. z.naming.name) c ∙ n) in
          λ z. never v
      go true w (inr c) = absurd c
      go false w c = caught_here (union symbol.BlockScopedVariable.bits symbol.CatchVariable.bits) symbol.BlockScopedVariableExcludes.bits (bound_names y) d c

  pub none_caught : (k : AstType) → q.node.kind ≡ k → is_ecmascript_kind k ≡ true → (d : Declaration) → Among d (declared_by k q) → d.naming.name ≡ x → d.how ≡ caught → ⊥
  none_caught kind.VariableDeclarator w i d a n = caught_variable q.path d a
  none_caught kind.Function w i d a n = caught_function d a
  none_caught kind.Class w i d a n = caught_class d a
  none_caught kind.FormalParameter w i d a n = caught_parameter q.path d a
  none_caught kind.FormalParameterRest w i d a n = caught_parameter q.path d a
  none_caught kind.BindingRestElement w i d a n = caught_rest d a
  none_caught kind.CatchParameter w i d a n = caught_catch (children_of role.Pattern q.node.children) (λ b c. none b (subst (λ j. Among b (bound_by_node j s q.node q.path)) (sym w) c)) d a n
  none_caught kind.ImportSpecifier w i d a n = caught_here (import_flags q) symbol.ImportBindingExcludes.bits (names_at role.Local q.node) d a
  none_caught kind.ImportDefaultSpecifier w i d a n = caught_here (import_flags q) symbol.ImportBindingExcludes.bits (names_at role.Local q.node) d a
  none_caught kind.ImportNamespaceSpecifier w i d a n = caught_here (import_flags q) symbol.ImportBindingExcludes.bits (names_at role.Local q.node) d a
  none_caught kind.TSImportEqualsDeclaration w i d a n = absurd (never (sym i))
  none_caught kind.TSTypeAliasDeclaration w i d a n = absurd (never (sym i))
  none_caught kind.TSInterfaceDeclaration w i d a n = absurd (never (sym i))
  none_caught kind.TSEnumDeclaration w i d a n = absurd (never (sym i))
  none_caught kind.TSEnumMember w i d a n = absurd (never (sym i))
  none_caught kind.TSNamespaceDeclaration w i d a n = absurd (never (sym i))
  none_caught kind.TSTypeParameter w i d a n = absurd (never (sym i))
  none_caught _ w i d a n = absurd a

-- ---- as what a plain name is bound

-- lexically, where variables go, or as a plain catch name
abbrev pub LexicalOrTaken : Bound → Type 0
LexicalOrTaken b = (is_lexical_in b.environment b ≡ true) ⊎ ((takes_variables b.environment ≡ true) ⊎ (is_bound_as bound.CatchName b ≡ true))

by_lexical : (b : Bound) → is_bound_as bound.Lexical b ≡ true → LexicalOrTaken b
by_lexical b l = inl (and_from (same_environment b.environment b.environment) _ (same_again b.environment) (ap (λ t. t || (is_bound_as bound.Function b && not (takes_variables b.environment))) l))

by_function : (b : Bound) → is_bound_as bound.Function b ≡ true → LexicalOrTaken b
by_function b f = elim (cases_Bool (takes_variables b.environment)) [
  | inl t ↦ inr (inl t)
  | inr t ↦ inl (and_from (same_environment b.environment b.environment) _ (same_again b.environment) (ap (λ u. is_bound_as bound.Lexical b || u) (rw (f, t) refl) ∙ or_true (is_bound_as bound.Lexical b)))
]

module _ (s : SourceType) (q : Place) (f : ParentsFit q.node.kind q.path) (rooted : EndsAtProgram q.node q.path) (b : Bound) (no_own : is_bound_as bound.OwnName b ≡ false) where
  lexical_names : (es : List Environment) (names : List Node) → Among b (map (bound_here bound.Lexical es) names) → LexicalOrTaken b
  lexical_names es names a = let (n, c, i) = among_map (bound_here bound.Lexical es) names b a in by_lexical b (sym (ap (is_bound_as bound.Lexical) i))

  declarator : (path : List Node) → q.path ≡ path → Among b (bound_by_declarator q.node path) → LexicalOrTaken b
  declarator [] e a = absurd a
  declarator (y ∷ path) e a = go (is_with_text kind.VariableDeclaration (codes "var") y) a
    where
      go : (t : Bool) → Among b (map (cond t (bound_outward (environments q.node (y ∷ path))) (bound_here bound.Lexical (environments q.node (y ∷ path)))) (bound_names q.node)) → LexicalOrTaken b
      go true c =
          let (n, d, i) = among_map (bound_outward (environments q.node (y ∷ path))) (bound_names q.node) b c in
          inr (inl (subst (λ z. takes_variables z ≡ true) (ap (λ z. z.environment) i) (variables_taken q.node y path (subst (EndsAtProgram q.node) e rooted))))
      go false c = lexical_names (environments q.node (y ∷ path)) (bound_names q.node) c

  function_sort : (n : Node) → is_bound_as bound.Function (bound_by_declaration s q.node q.path n) ≡ true
  function_sort n = either (language.is_block_function s q.node q.path)
    where
      either : (t : Bool) → is_bound_as bound.Function (cond t (bound_identifier bound.Function (innermost (environments q.node q.path)) (variable_environment (environments q.node q.path) ∷ []) (passed (environments q.node q.path)) n) (bound_here bound.Function (environments q.node q.path) n)) ≡ true
      either true = refl
      either false = refl

  function : Among b (bound_by_function s q.node q.path) → LexicalOrTaken b
  function a = go (is_statement q.node) a
    where
      go : (t : Bool) → Among b (map (cond t (bound_by_declaration s q.node q.path) (bound_identifier bound.OwnName (record { kind = environment.OwnName; maker = q.node.node_id }) [] [])) (names_at role.Id q.node)) → LexicalOrTaken b
      go true c =
          let (n, d, i) = among_map (bound_by_declaration s q.node q.path) (names_at role.Id q.node) b c in
          by_function b (sym (ap (is_bound_as bound.Function) i) ∙ function_sort n)
      go false c =
          let (n, d, i) = among_map (bound_identifier bound.OwnName (record { kind = environment.OwnName; maker = q.node.node_id }) [] []) (names_at role.Id q.node) b c in
          absurd (never (ap (is_bound_as bound.OwnName) i ∙ no_own))

  class : Among b (bound_by_class q.node q.path) → LexicalOrTaken b
  class a = go (is_statement q.node) a
    where
      go : (t : Bool) → Among b (map (cond t (bound_identifier bound.Lexical (innermost (environments q.node q.path)) (record { kind = environment.Class; maker = q.node.node_id } ∷ []) []) (bound_identifier bound.OwnName (record { kind = environment.Class; maker = q.node.node_id }) [] [])) (names_at role.Id q.node)) → LexicalOrTaken b
      go true c =
          let (n, d, i) = among_map (bound_identifier bound.Lexical (innermost (environments q.node q.path)) (record { kind = environment.Class; maker = q.node.node_id } ∷ []) []) (names_at role.Id q.node) b c in
          by_lexical b (sym (ap (is_bound_as bound.Lexical) i))
      go false c =
          let (n, d, i) = among_map (bound_identifier bound.OwnName (record { kind = environment.Class; maker = q.node.node_id }) [] []) (names_at role.Id q.node) b c in
          absurd (never (ap (is_bound_as bound.OwnName) i ∙ no_own))

  parameter : is_parameter q.node.kind ≡ true → Among b (map (bound_here bound.Parameter (environments q.node q.path)) (bound_names q.node)) → LexicalOrTaken b
  parameter k a =
      let (n, c, i) = among_map (bound_here bound.Parameter (environments q.node q.path)) (bound_names q.node) b a in
      inr (inl (subst (λ z. takes_variables z ≡ true) (ap (λ z. z.environment) i) (parameter_takes q.node q.path k f rooted)))

  catch : (patterns : List Node) → Among b (flat_map (bound_by_catch (environments q.node q.path)) patterns) → LexicalOrTaken b
  catch patterns a =
      let (n, c, d) = among_flat (bound_by_catch (environments q.node q.path)) patterns b a in
      go (is kind.BindingIdentifier n) n d
    where
      go : (t : Bool) (n : Node) → Among b (map (bound_here (cond t bound.CatchName bound.Lexical) (environments q.node q.path)) (bound_names n)) → LexicalOrTaken b
      go true n c =
          let (m, d, i) = among_map (bound_here bound.CatchName (environments q.node q.path)) (bound_names n) b c in
          inr (inr (sym (ap (is_bound_as bound.CatchName) i)))
      go false n c = lexical_names (environments q.node q.path) (bound_names n) c

  pub lexical_or_taken : (k : AstType) → q.node.kind ≡ k → Among b (bound_by_node k s q.node q.path) → LexicalOrTaken b
  lexical_or_taken kind.VariableDeclarator w a = declarator q.path refl a
  lexical_or_taken kind.Function w a = function a
  lexical_or_taken kind.Class w a = class a
  lexical_or_taken kind.FormalParameter w a = parameter (ap is_parameter w) a
  lexical_or_taken kind.FormalParameterRest w a = parameter (ap is_parameter w) a
  lexical_or_taken kind.CatchParameter w a = catch (children_of role.Pattern q.node.children) a
  lexical_or_taken kind.ImportSpecifier w a = lexical_names (environments q.node q.path) (names_at role.Local q.node) a
  lexical_or_taken kind.ImportDefaultSpecifier w a = lexical_names (environments q.node q.path) (names_at role.Local q.node) a
  lexical_or_taken kind.ImportNamespaceSpecifier w a = lexical_names (environments q.node q.path) (names_at role.Local q.node) a
  lexical_or_taken _ w a = absurd a

pub among_written : (s : SourceType) (b : Bound) (q : Place) (ss : List Step) → Among (entering q) ss → Among b (bound_by_node q.node.kind s q.node q.path) → Among b (written s ss)
among_written s b q [] i j = absurd i
among_written s b q (y ∷ ss) (inl i) j = among_left b (bound_at s y) (written s ss) (subst (λ z. Among b (bound_at s z)) (sym i) j)
among_written s b q (y ∷ ss) (inr i) j = among_right b (bound_at s y) (written s ss) (among_written s b q ss i j)
