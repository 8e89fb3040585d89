-- Where a plain catch name has a name, no other identifier binds it by the clause.
use Rattle.std.proofs.Common.{◌≡◌, ℕ, ◌≤◌, List, [], ◌∷◌, ◌++◌, Some, None, Bool, true, false, ◌&&◌, ◌||◌, not, cond, map, if◌then◌else◌, inl, inr, refl, sym, ap, subst, ◌∙◌, codes, length, take, drop, arith}
use Rattle.std.specs.Prelude.{nat_le}
use Rattle.std.proofs.lemmas.Bool.{cases_Bool}
use Rattle.std.proofs.lemmas.List.{take-append-drop}
use Rattle.semantic_syntax.proofs.Truth.{and_first, and_second}
use Rattle.semantic_kinds.specs.Kinds.{same_kind}
use Rattle.semantic_kinds.specs.Parts.{parts}
use Rattle.semantic_kinds.specs.Roles.{same_role}
use Rattle.semantic_kinds.specs.declared.class.Class.TheVariants as class
use Rattle.semantic_kinds.specs.declared.kind.AstType.{AstType}
use Rattle.semantic_kinds.specs.declared.kind.AstType.TheVariants as kind
use Rattle.semantic_kinds.specs.declared.role.Role.{Role}
use Rattle.semantic_kinds.specs.declared.role.Role.TheVariants as role
use Rattle.semantic_syntax.specs.Tables.{Name}
use Rattle.semantic_tree.specs.Faults.{first_fault}
use Rattle.semantic_tree.specs.Fit.{all_of, fit, lead}
use Rattle.semantic_tree.specs.Nodes.{nodes_in, trees}
use Rattle.semantic_tree.specs.Tree.{Tree, IsNumbered}
use Rattle.semantic_tree.specs.Views.{is, is_with_text, children_of}
use Rattle.semantic_tree.specs.declared.node.Node.{Node}
use Rattle.semantic_model.specs.Binder.{is_statement}
use Rattle.semantic_model.specs.Entries.{Among}
use Rattle.semantic_model.specs.Event.{is_catch_body}
use Rattle.semantic_model.specs.Names.{bound_names, bound_below, names_at}
use Rattle.semantic_model.specs.Place as place
use Rattle.semantic_model.specs.Place.{Place, OpenScope}
use Rattle.semantic_model.specs.Step.{entering, steps}
use Rattle.semantic_model.proofs.form.Clauses.{role_is}
use Rattle.semantic_model.proofs.form.ParameterShape.{is_parameter}
use Rattle.walk_model.proofs.headers.NoStatements.{is_loose, is_statement_text}
use Rattle.walk_model.proofs.once.NamesInRole.{AtMostOne, one_pattern}
use Rattle.program_laws.proofs.DeclaredNodes.{among_map, among_flat}
use Rattle.binding_laws.proofs.EnteredOnce.{entered_once}
use Rattle.binding_laws.proofs.ListLaws.{each_at, same_of_one}
use Rattle.binding_laws.proofs.SmallLaws.{never, some_is}
use Rattle.language_ties.specs.Bound.{Bound, bound_identifier, bound_here, bound_outward, bound_by_declarator, bound_by_declaration, bound_by_function, bound_by_class, bound_by_catch, bound_by_node, is_block_function, is_bound_as, written}
use Rattle.language_ties.specs.EcmaScript.{is_ecmascript}
use Rattle.language_ties.specs.Environments.{Environment, made_by, environments, innermost, passed, takes_variables, variable_environment}
use Rattle.language_ties.specs.Scopes.{Maker, maker_of_scope, makers}
use Rattle.language_ties.specs.declared.bound_as.BoundAs.TheVariants as bound
use Rattle.language_ties.specs.declared.environment_kind.EnvironmentKind.{EnvironmentKind}
use Rattle.language_ties.specs.declared.environment_kind.EnvironmentKind.TheVariants as environment
use Rattle.language_ties.proofs.EnvironmentsRound.{IsKnown, KnownAt, known_program}
use Rattle.language_ties.proofs.agree.FamiliarPlaces.{IsFamiliar, known_among, familiar_at}
use Rattle.language_ties.proofs.agree.KnownNodes.{node_at}
use Rattle.language_ties.proofs.agree.MadeEnvironments.{environment_kind_is, may_make, IsMadeBy, made_in, EndsAtProgram, innermost_among, variable_among}
use Rattle.language_ties.proofs.agree.PlainBounds.{IsBoundAt, bound_at_place}
use Rattle.language_ties.proofs.caught.CalmPlaces.{is_import_name, IsCalm, IsChild, IsQuietPlace, QuietAt, quiet_program}
use Rattle.language_ties.proofs.caught.CaughtNames.{catch_environment, catch_kind}
use Rattle.language_ties.proofs.caught.ClausePlaces.{IsClausal, ClausalAt, clausal_program, body_kind}
use Rattle.language_ties.proofs.caught.InClauses.{IsInClause, in_clause}
use Rattle.language_ties.proofs.clear.PassedScopes.{variables_taken}
use Rattle.language_ties.proofs.clear.ParameterPlaces.{parameter_takes}
use Rattle.language_ties.proofs.own_names.OwnIds.{is_at_most, none_of_parts, later_parts, fit_at}

-- ---- one parameter, and one pattern

one_first : (r : Role) (own rest : List (Role × Node)) → nat_le (length own) 1 ≡ true → nodes_in r rest ≡ [] → AtMostOne (nodes_in r (own ++ rest))
one_first r [] rest l e = subst AtMostOne (sym e) tt
one_first r (c ∷ []) rest l e = by (same_role c.0 r)
  where
    by : (b : Bool) → AtMostOne (if b then c.1 ∷ nodes_in r rest else nodes_in r rest)
    by true = subst (λ ns. AtMostOne (c.1 ∷ ns)) (sym e) tt
    by false = subst AtMostOne (sym e) tt
one_first r (c ∷ d ∷ more) rest l e = let w : length (c ∷ d ∷ more) ≤ 1 = is_at_most (length (c ∷ d ∷ more)) 1 l in absurd (omega arith)

clause_parameter : (cs : List (Role × Node)) → fit (parts kind.CatchClause) cs ≡ true → AtMostOne (nodes_in role.Param cs)
clause_parameter cs f =
    let n : ℕ = lead role.Param cs in
    let run : (nat_le (length (take n cs)) 1 && all_of (class.Only kind.CatchParameter) (take n cs)) ≡ true = and_first (nat_le (length (take n cs)) 1 && all_of (class.Only kind.CatchParameter) (take n cs)) (fit (later_parts (parts kind.CatchClause)) (drop n cs)) f in
    let rest : fit (later_parts (parts kind.CatchClause)) (drop n cs) ≡ true = and_second (nat_le (length (take n cs)) 1 && all_of (class.Only kind.CatchParameter) (take n cs)) (fit (later_parts (parts kind.CatchClause)) (drop n cs)) f in
    subst (λ xs. AtMostOne (nodes_in role.Param xs)) (take-append-drop n cs)
    (one_first role.Param (take n cs) (drop n cs) (and_first (nat_le (length (take n cs)) 1) _ run) (none_of_parts role.Param (later_parts (parts kind.CatchClause)) (drop n cs) refl rest))

-- ---- the environment of a clause

no_taker : (m : ℕ) (d : Environment) → d ≡ record { kind = environment.Catch; maker = m } → takes_variables d ≡ true → ⊥
no_taker m d w t = never (sym t ∙ ap takes_variables w)

no_block : (m : ℕ) → innermost [] ≡ record { kind = environment.Catch; maker = m } → ⊥
no_block m h = different (ap (λ d. d.kind) h)
  where
    different : environment.Block ≡ environment.Catch → ⊥
    different i = absurd cc

first_maker : (es : List Environment) (m : ℕ) → innermost es ≡ record { kind = environment.Catch; maker = m } → (ms : List Maker) × (makers es ≡ record { node = m; takes_variables = false } ∷ ms)
first_maker [] m h = absurd (no_block m h)
first_maker (e ∷ es) m h = (makers es, ap (λ d. makers (d ∷ es)) h)

opener_is : (chain : List OpenScope) (m : Maker) (ms : List Maker) → map maker_of_scope chain ≡ m ∷ ms → (place.innermost chain).opener ≡ m.node
opener_is [] m ms h = absurd cc
opener_is (s ∷ ss) m ms h = let w : maker_of_scope s ≡ m = cc in ap (λ z. z.node) w

module _ (p : Tree) (h : first_fault p ≡ None) (e : is_ecmascript p ≡ true) (numbered : IsNumbered p.root) (name : Name) where
  quiet_at : (q : Place) → Among (entering q) (steps p) → IsQuietPlace (node_at p) q
  quiet_at q a = each_at (QuietAt (node_at p)) (steps p) (entering q) (quiet_program p h e numbered) a

  module _ (clause : Node) (found : node_at p clause.node_id ≡ Some clause) (caught : clause.kind ≡ kind.CatchClause) (r : Place) (entered : Among (entering r) (steps p)) (c : Bound) (binds : Among c (bound_by_node r.node.kind p.source_type r.node r.path)) (named : c.name ≡ name) (maker : c.environment.maker ≡ clause.node_id) where
    abbrev es : List Environment
    es = environments r.node r.path

    abbrev Clause : Environment
    Clause = record { kind = environment.Catch; maker = clause.node_id }

    -- an environment of the place that the clause makes is the clause's
    made : Among c.environment es → c.environment ≡ Clause
    made a =
        let m : IsMadeBy (r.node ∷ r.path) c.environment = made_in r.node r.path c.environment a in
        let familiar : IsFamiliar (node_at p) r = familiar_at p h e numbered r entered in
        let same : m.maker ≡ clause = some_is m.maker clause (sym (known_among (node_at p) (r.node ∷ r.path) m.maker (familiar.node, familiar.path) m.among) ∙ ap (node_at p) (sym m.is ∙ maker) ∙ found) in
        let kinds : c.environment.kind ≡ environment.Catch = environment_kind_is c.environment.kind environment.Catch (subst (λ k. may_make k c.environment.kind ≡ true) (ap (λ z. z.kind) same ∙ caught) m.makes) in
        λ i. record { kind = kinds i; maker = maker i }

    -- where the innermost is, the place is calm
    calm : innermost es ≡ Clause → is_catch_body r ≡ false → IsCalm r.node
    calm w b =
        let known : IsKnown r = each_at KnownAt (steps p) (entering r) (known_program p h e) entered in
        let (ms, makers_are) = first_maker es clause.node_id w in
        let opener : (place.innermost r.chain).opener ≡ clause.node_id = opener_is r.chain (record { node = clause.node_id; takes_variables = false }) ms (known.round ∙ makers_are) in
        let clausal : IsClausal (node_at p) r = each_at (ClausalAt (node_at p)) (steps p) (entering r) (clausal_program p h e numbered) entered in
        elim (clausal.stands clause (ap (node_at p) opener ∙ found) caught) [
          | inl v ↦ (quiet_at r entered).calm clause (ap (node_at p) opener ∙ found) caught v
          | inr v ↦ absurd (never (sym v ∙ b))
        ]

    -- what it binds in the innermost
    inner_there : (y : Node) (l : List Node) → r.path ≡ y ∷ l → c.environment ≡ innermost es → innermost es ≡ Clause
    inner_there y l w i =
        let rooted : EndsAtProgram y l = subst (EndsAtProgram r.node) w (familiar_at p h e numbered r entered).rooted in
        let there : Among (innermost es) es = subst (λ k. Among (innermost (environments r.node k)) (environments r.node k)) (sym w) (innermost_among r.node y l rooted) in
        sym i ∙ made (subst (λ d. Among d es) (sym i) there)

    at_root : r.path ≡ [] → r.node.kind ≡ kind.Program
    at_root w = subst (EndsAtProgram r.node) w (familiar_at p h e numbered r entered).rooted

    -- the root binds nothing
    not_root : (k : AstType) → same_kind k kind.Program ≡ false → r.node.kind ≡ k → r.path ≡ [] → ⊥
    not_root k n w i = never (sym (ap (λ j. same_kind j kind.Program) (at_root i)) ∙ ap (λ j. same_kind j kind.Program) w ∙ n)

    inner_calm : (k : AstType) → same_kind k kind.Program ≡ false → same_kind k kind.BlockStatement ≡ false → r.node.kind ≡ k → c.environment ≡ innermost es → IsCalm r.node
    inner_calm k n b w i = go r.path refl
      where
        not_body : is_catch_body r ≡ false
        not_body = elim (cases_Bool (is_catch_body r)) [
          | inr q ↦ q
          | inl q ↦ absurd (never (sym (ap (λ j. same_kind j kind.BlockStatement) (body_kind r q)) ∙ ap (λ j. same_kind j kind.BlockStatement) w ∙ b))
        ]

        go : (l : List Node) → r.path ≡ l → IsCalm r.node
        go [] v = absurd (not_root k n w v)
        go (y ∷ l) v = calm (inner_there y l v i) not_body

    inner_names : (f : Node → Bound) (names : List Node) → ((n : Node) → (f n).environment ≡ innermost es) → Among c (map f names) → c.environment ≡ innermost es
    inner_names f names g a = let (n, i, j) = among_map f names c a in ap (λ z. z.environment) (sym j) ∙ g n

    -- the own name of an expression is bound by the expression
    own_names : (k : EnvironmentKind) (names : List Node) → Among c (map (bound_identifier bound.OwnName (record { kind = k; maker = r.node.node_id }) [] []) names) → r.node.kind ≡ kind.CatchClause
    own_names k names a =
        let (n, i, j) = among_map (bound_identifier bound.OwnName (record { kind = k; maker = r.node.node_id }) [] []) names c a in
        let node : r.node.node_id ≡ clause.node_id = ap (λ z. z.environment.maker) j ∙ maker in
        ap (λ z. z.kind) (some_is r.node clause (sym (familiar_at p h e numbered r entered).node ∙ ap (node_at p) node ∙ found)) ∙ caught

    -- ---- kind by kind

    open_kind : (k : AstType) → is_loose k ≡ true → r.node.kind ≡ k → IsCalm r.node → ⊥
    open_kind k l w x = never (sym (and_first (not (is_loose r.node.kind)) _ x.closed) ∙ ap not (ap is_loose w ∙ l))

    declarator : r.node.kind ≡ kind.VariableDeclarator → (l : List Node) → r.path ≡ l → Among c (bound_by_declarator r.node l) → ⊥
    declarator w [] v a = a
    declarator w (y ∷ l) v a = go (is_with_text kind.VariableDeclaration (codes "var") y) a
      where
        rooted : EndsAtProgram y l
        rooted = subst (EndsAtProgram r.node) v (familiar_at p h e numbered r entered).rooted

        go : (t : Bool) → Among c (map (cond t (bound_outward (environments r.node (y ∷ l))) (bound_here bound.Lexical (environments r.node (y ∷ l)))) (bound_names r.node)) → ⊥
        go true i =
            let (n, j, k) = among_map (bound_outward (environments r.node (y ∷ l))) (bound_names r.node) c i in
            let is : c.environment ≡ variable_environment es = ap (λ z. z.environment) (sym k) ∙ ap (λ d. variable_environment (environments r.node d)) (sym v) in
            let inner : Among (innermost es) es = subst (λ d. Among (innermost (environments r.node d)) (environments r.node d)) (sym v) (innermost_among r.node y l rooted) in
            let taken : takes_variables (variable_environment es) ≡ true = subst (λ d. takes_variables (variable_environment (environments r.node d)) ≡ true) (sym v) (variables_taken r.node y l rooted) in
            no_taker clause.node_id (variable_environment es) (sym is ∙ made (subst (λ d. Among d es) (sym is) (variable_among es inner))) taken
        go false i =
            let inner : c.environment ≡ innermost es = inner_names (bound_here bound.Lexical (environments r.node (y ∷ l))) (bound_names r.node) (λ n. ap (λ d. innermost (environments r.node d)) (sym v)) i in
            open_kind kind.VariableDeclarator refl w (inner_calm kind.VariableDeclarator refl refl w inner)

    of_declaration : (n : Node) → (bound_by_declaration p.source_type r.node r.path n).environment ≡ innermost es
    of_declaration n = go (is_block_function p.source_type r.node r.path)
      where
        go : (t : Bool) → (cond t (bound_identifier bound.Function (innermost es) (variable_environment es ∷ []) (passed es) n) (bound_here bound.Function es n)).environment ≡ innermost es
        go true = refl
        go false = refl

    no_function : kind.Function ≡ kind.CatchClause → ⊥
    no_function i = absurd cc

    no_class : kind.Class ≡ kind.CatchClause → ⊥
    no_class i = absurd cc

    function : r.node.kind ≡ kind.Function → Among c (bound_by_function p.source_type r.node r.path) → ⊥
    function w a = go (is_statement r.node) refl a
      where
        go : (t : Bool) → is_statement r.node ≡ t → Among c (map (cond t (bound_by_declaration p.source_type r.node r.path) (bound_identifier bound.OwnName (record { kind = environment.OwnName; maker = r.node.node_id }) [] [])) (names_at role.Id r.node)) → ⊥
        go true v i =
            let x : IsCalm r.node = inner_calm kind.Function refl refl w (inner_names (bound_by_declaration p.source_type r.node r.path) (names_at role.Id r.node) of_declaration i) in
            let closed : not (same_kind r.node.kind kind.Function && is_statement_text r.node.text) ≡ true = and_second (not (is_loose r.node.kind)) (not (same_kind r.node.kind kind.Function && is_statement_text r.node.text)) x.closed in
            never (sym closed ∙ ap (λ k. not (same_kind k kind.Function && is_statement_text r.node.text)) w ∙ ap not v)
        go false v i = no_function (sym w ∙ own_names environment.OwnName (names_at role.Id r.node) i)

    of_class : r.node.kind ≡ kind.Class → Among c (bound_by_class r.node r.path) → ⊥
    of_class w a = go (is_statement r.node) refl a
      where
        go : (t : Bool) → is_statement r.node ≡ t → Among c (map (cond t (bound_identifier bound.Lexical (innermost es) (record { kind = environment.Class; maker = r.node.node_id } ∷ []) []) (bound_identifier bound.OwnName (record { kind = environment.Class; maker = r.node.node_id }) [] [])) (names_at role.Id r.node)) → ⊥
        go true v i =
            let x : IsCalm r.node = inner_calm kind.Class refl refl w (inner_names (bound_identifier bound.Lexical (innermost es) (record { kind = environment.Class; maker = r.node.node_id } ∷ []) []) (names_at role.Id r.node) (λ n. refl) i) in
            never (sym v ∙ sym (ap (λ k. same_kind k kind.Class && is_statement_text r.node.text) w) ∙ x.no_class_statement)
        go false v i = no_class (sym w ∙ own_names environment.Class (names_at role.Id r.node) i)

    parameter : (k : AstType) → is_parameter k ≡ true → same_kind k kind.Program ≡ false → r.node.kind ≡ k → Among c (map (bound_here bound.Parameter es) (bound_names r.node)) → ⊥
    parameter k i n w a = go r.path refl
      where
        inner : c.environment ≡ innermost es
        inner = inner_names (bound_here bound.Parameter es) (bound_names r.node) (λ n. refl) a

        go : (l : List Node) → r.path ≡ l → ⊥
        go [] v = not_root k n w v
        go (y ∷ l) v = no_taker clause.node_id (innermost es) (inner_there y l v inner) (parameter_takes r.node r.path (ap is_parameter w ∙ i) (familiar_at p h e numbered r entered).parents (familiar_at p h e numbered r entered).rooted)

    import_name : (k : AstType) → is_import_name k ≡ true → same_kind k kind.Program ≡ false → same_kind k kind.BlockStatement ≡ false → r.node.kind ≡ k → Among c (map (bound_here bound.Lexical es) (names_at role.Local r.node)) → ⊥
    import_name k i n b w a = never (sym i ∙ sym (ap is_import_name w) ∙ (inner_calm k n b w (inner_names (bound_here bound.Lexical es) (names_at role.Local r.node) (λ n. refl) a)).no_import_name)

    -- only the parameter of a clause binds by it
    pub by_parameter : (k : AstType) → r.node.kind ≡ k → Among c (bound_by_node k p.source_type r.node r.path) → k ≡ kind.CatchParameter
    by_parameter kind.CatchParameter w a = refl
    by_parameter kind.VariableDeclarator w a = absurd (declarator w r.path refl a)
    by_parameter kind.Function w a = absurd (function w a)
    by_parameter kind.Class w a = absurd (of_class w a)
    by_parameter kind.FormalParameter w a = absurd (parameter kind.FormalParameter refl refl w a)
    by_parameter kind.FormalParameterRest w a = absurd (parameter kind.FormalParameterRest refl refl w a)
    by_parameter kind.ImportSpecifier w a = absurd (import_name kind.ImportSpecifier refl refl refl w a)
    by_parameter kind.ImportDefaultSpecifier w a = absurd (import_name kind.ImportDefaultSpecifier refl refl refl w a)
    by_parameter kind.ImportNamespaceSpecifier w a = absurd (import_name kind.ImportNamespaceSpecifier refl refl refl w a)
    by_parameter _ w a = absurd a

  -- ---- one identifier

  clausal_at : (q : Place) → Among (entering q) (steps p) → IsClausal (node_at p) q
  clausal_at q a = each_at (ClausalAt (node_at p)) (steps p) (entering q) (clausal_program p h e numbered) a

  -- the parameter stands in its role below the clause
  parameter_below : (q : Place) (c : IsInClause p h e numbered q) → Among (entering q) (steps p) → q.node.kind ≡ kind.CatchParameter → Among q.node (nodes_in role.Param (trees c.clause.node.children))
  parameter_below q c a k =
      subst (λ r. Among q.node (nodes_in r (trees c.clause.node.children))) (role_is q.role role.Param (in_param (same_role q.role role.Param) ((clausal_at q a).header k)))
      (subst (IsChild (node_at p) q) c.under (quiet_at q a).child)
    where
      in_param : (b : Bool) → (b || false) ≡ true → b ≡ true
      in_param true v = refl
      in_param false v = v

  made_by_clause : (q : Place) (c : IsInClause p h e numbered q) (b : Bound) → Among b (bound_by_node kind.CatchParameter p.source_type q.node q.path) → b.environment.maker ≡ c.clause.node.node_id
  made_by_clause q c b a =
      ap (λ d. d.maker) (catch_environment p.source_type q.node q.path b a)
      ∙ ap (λ l. (innermost (environments q.node l)).maker) c.under
      ∙ ap (λ k. (innermost (made_by k c.clause.node q.node ++ environments c.clause.node c.clause.path)).maker) c.caught

  -- the pattern that binds it, and the identifier
  record IsOfPattern (q : Place) (b : Bound) : Type 0 where
    pattern : Node
    among : Among pattern (children_of role.Pattern q.node.children)
    name_node : Node
    named : Among name_node (bound_names pattern)
    identifier : name_node.node_id ≡ b.identifier
    plainly : is_bound_as bound.CatchName b ≡ true → is kind.BindingIdentifier pattern ≡ true

  of_pattern : (q : Place) (b : Bound) → Among b (bound_by_node kind.CatchParameter p.source_type q.node q.path) → IsOfPattern q b
  of_pattern q b a =
      let (m, i, d) = among_flat (bound_by_catch (environments q.node q.path)) (children_of role.Pattern q.node.children) b a in
      let (n, j, k) = among_map (bound_here (cond (is kind.BindingIdentifier m) bound.CatchName bound.Lexical) (environments q.node q.path)) (bound_names m) b d in
      record { pattern = m; among = i; name_node = n; named = j; identifier = ap (λ z. z.identifier) k; plainly = λ caught. by_sort m n k caught (is kind.BindingIdentifier m) refl }
    where
      by_sort : (m n : Node) → bound_here (cond (is kind.BindingIdentifier m) bound.CatchName bound.Lexical) (environments q.node q.path) n ≡ b → is_bound_as bound.CatchName b ≡ true → (t : Bool) → is kind.BindingIdentifier m ≡ t → is kind.BindingIdentifier m ≡ true
      by_sort m n k caught true w = w
      by_sort m n k caught false w = absurd (never (sym caught ∙ sym (ap (is_bound_as bound.CatchName) k) ∙ ap (λ t. is_bound_as bound.CatchName (bound_here (cond t bound.CatchName bound.Lexical) (environments q.node q.path) n)) w))

  -- a plain pattern has one name
  only_name : (m n : Node) → is kind.BindingIdentifier m ≡ true → Among n (bound_names m) → m ≡ n
  only_name m n w a = by (subst (λ t. Among n (cond t (m ∷ []) (bound_below m.kind m.children))) w a)
    where
      by : Among n (m ∷ []) → m ≡ n
      by (inl i) = i
      by (inr i) = absurd i

  pub caught_once : (b c : Bound) → Among b (written p.source_type (steps p)) → Among c (written p.source_type (steps p)) → b.name ≡ name → c.name ≡ name → is_bound_as bound.CatchName b ≡ true → c.environment.maker ≡ b.environment.maker → c.identifier ≡ b.identifier
  caught_once b c b_among c_among b_named c_named plainly maker =
      let at_b : IsBoundAt p.source_type (steps p) b = bound_at_place p.source_type (steps p) b b_among in
      let at_c : IsBoundAt p.source_type (steps p) c = bound_at_place p.source_type (steps p) c c_among in
      let parameter : at_b.place.node.kind ≡ kind.CatchParameter = catch_kind p.source_type at_b.place.node at_b.place.path b plainly at_b.place.node.kind at_b.binds in
      of_both at_b.place at_c.place b c at_b.entered at_c.entered parameter (subst (λ k. Among b (bound_by_node k p.source_type at_b.place.node at_b.place.path)) parameter at_b.binds) at_c.binds c_named plainly maker
    where
      of_both : (q r : Place) (b c : Bound) → Among (entering q) (steps p) → Among (entering r) (steps p) → q.node.kind ≡ kind.CatchParameter → Among b (bound_by_node kind.CatchParameter p.source_type q.node q.path) → Among c (bound_by_node r.node.kind p.source_type r.node r.path) → c.name ≡ name → is_bound_as bound.CatchName b ≡ true → c.environment.maker ≡ b.environment.maker → c.identifier ≡ b.identifier
      of_both q r b c i j parameter b_binds c_binds named plainly maker =
          let clause : IsInClause p h e numbered q = in_clause p h e numbered q i parameter in
          let to_clause : c.environment.maker ≡ clause.clause.node.node_id = maker ∙ made_by_clause q clause b b_binds in
          let too : r.node.kind ≡ kind.CatchParameter = by_parameter clause.clause.node clause.known clause.caught r j c c_binds named to_clause r.node.kind refl c_binds in
          let other : IsInClause p h e numbered r = in_clause p h e numbered r j too in
          let binds : Among c (bound_by_node kind.CatchParameter p.source_type r.node r.path) = subst (λ k. Among c (bound_by_node k p.source_type r.node r.path)) too c_binds in
          let one_clause : other.clause ≡ clause.clause = entered_once p numbered other.clause clause.clause other.entered clause.entered (sym (made_by_clause r other c binds) ∙ to_clause) in
          let once : AtMostOne (nodes_in role.Param (trees clause.clause.node.children)) = clause_parameter (trees clause.clause.node.children) (subst (λ k. fit (parts k) (trees clause.clause.node.children) ≡ true) clause.caught (fit_at p h clause.clause.node.node_id clause.clause.node clause.known)) in
          let node : r.node ≡ q.node = same_of_one (nodes_in role.Param (trees clause.clause.node.children)) r.node q.node once (subst (λ (z : Place). Among r.node (nodes_in role.Param (trees z.node.children))) one_clause (parameter_below r other j too)) (parameter_below q clause i parameter) in
          let same : r ≡ q = entered_once p numbered r q j i (ap (λ z. z.node_id) node) in
          one_place q b c i parameter b_binds (subst (λ (z : Place). Among c (bound_by_node kind.CatchParameter p.source_type z.node z.path)) same binds) plainly
        where
          one_place : (q : Place) (b c : Bound) → Among (entering q) (steps p) → q.node.kind ≡ kind.CatchParameter → Among b (bound_by_node kind.CatchParameter p.source_type q.node q.path) → Among c (bound_by_node kind.CatchParameter p.source_type q.node q.path) → is_bound_as bound.CatchName b ≡ true → c.identifier ≡ b.identifier
          one_place q b c i parameter b_binds c_binds plainly =
              let first : IsOfPattern q b = of_pattern q b b_binds in
              let second : IsOfPattern q c = of_pattern q c c_binds in
              let once : AtMostOne (children_of role.Pattern q.node.children) = one_pattern (trees q.node.children) (subst (λ k. fit (parts k) (trees q.node.children) ≡ true) parameter (fit_at p h q.node.node_id q.node (familiar_at p h e numbered q i).node)) in
              let same : second.pattern ≡ first.pattern = same_of_one (children_of role.Pattern q.node.children) second.pattern first.pattern once second.among first.among in
              let plain : is kind.BindingIdentifier first.pattern ≡ true = first.plainly plainly in
              let of_b : first.pattern ≡ first.name_node = only_name first.pattern first.name_node plain first.named in
              let of_c : first.pattern ≡ second.name_node = only_name first.pattern second.name_node plain (subst (λ m. Among second.name_node (bound_names m)) same second.named) in
              sym second.identifier ∙ ap (λ z. z.node_id) (sym of_c ∙ of_b) ∙ first.identifier
