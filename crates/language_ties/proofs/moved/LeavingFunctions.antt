-- How the tables declare a function that leaves its block: along the scopes that its variable passes, to the one that takes it.
use Rattle.std.proofs.Common.{◌≡◌, List, [], ◌∷◌, Option, Some, None, Bool, true, false, ◌&&◌, ◌||◌, not, cond, map, flat_map, option_map, inl, inr, ◌⊎◌, refl, sym, ap, subst, ◌∙◌, codes}
use Rattle.std.proofs.lemmas.Bool.{cases_Bool, not-true}
use Rattle.semantic_syntax.proofs.Truth.{and_first, and_second}
use Rattle.semantic_kinds.specs.declared.kind.AstType.{AstType}
use Rattle.semantic_kinds.specs.declared.kind.AstType.TheVariants as kind
use Rattle.semantic_kinds.specs.declared.mark.Mark.TheVariants as mark
use Rattle.semantic_kinds.specs.declared.role.Role.TheVariants as role
use Rattle.semantic_syntax.specs.SourceTypes.{is_typescript}
use Rattle.semantic_syntax.specs.declared.source_type.SourceType.{SourceType}
use Rattle.semantic_tree.specs.Faults.{first_fault}
use Rattle.semantic_tree.specs.Tree.{Tree, IsNumbered}
use Rattle.semantic_tree.specs.Views.{is, has, is_with_text, children_of}
use Rattle.semantic_tree.specs.declared.node.Node.{Node}
use Rattle.semantic_model.specs.Binder.{declaration_at, is_block_function, is_clause, is_special, is_statement, is_var, function_row, ids, declared_by, declared_on_entering}
use Rattle.semantic_model.specs.Declaration.{Declaration, plain, moved, first_with, passed_before, route_from, outward_past}
use Rattle.semantic_model.specs.Entries.{Among}
use Rattle.semantic_model.specs.Names.{bound_names, names_at}
use Rattle.semantic_model.specs.Place as place
use Rattle.semantic_model.specs.Place.{Place, OpenScope}
use Rattle.semantic_model.specs.Step.{entering, steps}
use Rattle.program_laws.proofs.DeclaredNodes.{among_map, among_flat}
use Rattle.walk_model.proofs.written.OwnOpeners.{IsListed, openers_of, all_listed}
use Rattle.walk_model.proofs.written.ScopesAround.{IsStepHeld}
use Rattle.binding_laws.proofs.ListLaws.{of_map, each_at}
use Rattle.binding_laws.proofs.SmallLaws.{never, some_is, none_is}
use Rattle.language_ties.specs.AgreeingNames.{leaves_block}
use Rattle.language_ties.specs.Bound as language
use Rattle.language_ties.specs.Bound.{Bound, bound_identifier, bound_here, bound_outward, bound_by_declarator, bound_by_declaration, bound_by_function, bound_by_class, bound_by_catch, bound_by_node, is_bound_as}
use Rattle.language_ties.specs.EcmaScript.{is_ecmascript_forest, is_ecmascript}
use Rattle.language_ties.specs.Environments.{Environment, environments, innermost, passed, takes_variables, first_taking, environment_or, variable_environment}
use Rattle.language_ties.specs.StrictCode.{IsStrictAlike}
use Rattle.language_ties.specs.ToldNames.{LeavingAreTold}
use Rattle.language_ties.specs.declared.bound_as.BoundAs.TheVariants as bound
use Rattle.language_ties.specs.declared.environment_kind.EnvironmentKind.TheVariants as environment
use Rattle.language_ties.proofs.EnvironmentsRound.{IsKnown, KnownAt, known_program}
use Rattle.language_ties.proofs.Innermost.{maker_of, opener_of, takers_made}
use Rattle.language_ties.proofs.agree.FamiliarPlaces.{IsFamiliar, FamiliarAt, familiar_program}
use Rattle.language_ties.proofs.agree.KnownNodes.{node_at}
use Rattle.language_ties.proofs.agree.MadeEnvironments.{EndsAtProgram}
use Rattle.language_ties.proofs.block_functions.StrictScopes.{strictness_agrees}
use Rattle.language_ties.proofs.clear.PassedScopes.{takes_some}
use Rattle.language_ties.proofs.moved.ClauseFlags.{stands_in_no_clause}
use Rattle.language_ties.proofs.moved.Settled.{leaves_function}

-- ---- as the language binds it

-- a declaration in a block of sloppy code, by its name
pub record LeavesAt (s : SourceType) (q : Place) (c : Bound) : Type 0 where
  pub function : q.node.kind ≡ kind.Function
  pub statement : is_statement q.node ≡ true
  pub ours : language.is_block_function s q.node q.path ≡ true
  pub name_node : Node
  pub among : Among name_node (names_at role.Id q.node)
  pub is_it : c ≡ bound_identifier bound.Function (innermost (environments q.node q.path)) (variable_environment (environments q.node q.path) ∷ []) (passed (environments q.node q.path)) name_node

module _ (s : SourceType) (q : Place) (c : Bound) (leaves : leaves_block c ≡ true) where
  abbrev es : List Environment
  es = environments q.node q.path

  function : is_bound_as bound.Function c ≡ true
  function = leaves_function c leaves

  other : (f : Node → Bound) (names : List Node) → ((n : Node) → is_bound_as bound.Function (f n) ≡ false) → Among c (map f names) → ⊥
  other f names g a = let (n, i, j) = among_map f names c a in never (sym function ∙ sym (ap (is_bound_as bound.Function) j) ∙ g n)

  declarator : (path : List Node) → Among c (bound_by_declarator q.node path) → ⊥
  declarator [] a = a
  declarator (y ∷ path) a = go (is_with_text kind.VariableDeclaration (codes "var") y) a
    where
      go : (t : Bool) → Among c (map (cond t (bound_outward (environments q.node (y ∷ path))) (bound_here bound.Lexical (environments q.node (y ∷ path)))) (bound_names q.node)) → ⊥
      go true i = other (bound_outward (environments q.node (y ∷ path))) (bound_names q.node) (λ n. refl) i
      go false i = other (bound_here bound.Lexical (environments q.node (y ∷ path))) (bound_names q.node) (λ n. refl) i

  class : Among c (bound_by_class q.node q.path) → ⊥
  class a = go (is_statement q.node) a
    where
      go : (t : Bool) → Among c (map (cond t (bound_identifier bound.Lexical (innermost es) (record { kind = environment.Class; maker = q.node.node_id } ∷ []) []) (bound_identifier bound.OwnName (record { kind = environment.Class; maker = q.node.node_id }) [] [])) (names_at role.Id q.node)) → ⊥
      go true i = other (bound_identifier bound.Lexical (innermost es) (record { kind = environment.Class; maker = q.node.node_id } ∷ []) []) (names_at role.Id q.node) (λ n. refl) i
      go false i = other (bound_identifier bound.OwnName (record { kind = environment.Class; maker = q.node.node_id }) [] []) (names_at role.Id q.node) (λ n. refl) i

  catch : Among c (flat_map (bound_by_catch es) (children_of role.Pattern q.node.children)) → ⊥
  catch a = let (n, i, d) = among_flat (bound_by_catch es) (children_of role.Pattern q.node.children) c a in go (is kind.BindingIdentifier n) n d
    where
      go : (t : Bool) (n : Node) → Among c (map (bound_here (cond t bound.CatchName bound.Lexical) es) (bound_names n)) → ⊥
      go true n i = other (bound_here bound.CatchName es) (bound_names n) (λ m. refl) i
      go false n i = other (bound_here bound.Lexical es) (bound_names n) (λ m. refl) i

  a_function : q.node.kind ≡ kind.Function → Among c (bound_by_function s q.node q.path) → LeavesAt s q c
  a_function k a = go (is_statement q.node) refl a
    where
      stays : (n : Node) → bound_here bound.Function es n ≡ c → ⊥
      stays n j = never (sym leaves ∙ sym (ap leaves_block j))

      by : (t : Bool) → language.is_block_function s q.node q.path ≡ t → is_statement q.node ≡ true → (n : Node) → Among n (names_at role.Id q.node) → cond t (bound_identifier bound.Function (innermost es) (variable_environment es ∷ []) (passed es) n) (bound_here bound.Function es n) ≡ c → LeavesAt s q c
      by true w st n i j = record { function = k; statement = st; ours = w; name_node = n; among = i; is_it = sym j }
      by false w st n i j = absurd (stays n j)

      go : (t : Bool) → is_statement q.node ≡ t → Among c (map (cond t (bound_by_declaration s q.node q.path) (bound_identifier bound.OwnName (record { kind = environment.OwnName; maker = q.node.node_id }) [] [])) (names_at role.Id q.node)) → LeavesAt s q c
      go true st i =
          let (n, j, v) = among_map (bound_by_declaration s q.node q.path) (names_at role.Id q.node) c i in
          by (language.is_block_function s q.node q.path) refl st n j v
      go false st i = absurd (other (bound_identifier bound.OwnName (record { kind = environment.OwnName; maker = q.node.node_id }) [] []) (names_at role.Id q.node) (λ n. refl) i)

  pub leaves_at : (k : AstType) → q.node.kind ≡ k → Among c (bound_by_node k s q.node q.path) → LeavesAt s q c
  leaves_at kind.VariableDeclarator w a = absurd (declarator q.path a)
  leaves_at kind.Function w a = a_function w a
  leaves_at kind.Class w a = absurd (class a)
  leaves_at kind.CatchParameter w a = absurd (catch a)
  leaves_at kind.FormalParameter w a = absurd (other (bound_here bound.Parameter es) (bound_names q.node) (λ n. refl) a)
  leaves_at kind.FormalParameterRest w a = absurd (other (bound_here bound.Parameter es) (bound_names q.node) (λ n. refl) a)
  leaves_at kind.ImportSpecifier w a = absurd (other (bound_here bound.Lexical es) (names_at role.Local q.node) (λ n. refl) a)
  leaves_at kind.ImportDefaultSpecifier w a = absurd (other (bound_here bound.Lexical es) (names_at role.Local q.node) (λ n. refl) a)
  leaves_at kind.ImportNamespaceSpecifier w a = absurd (other (bound_here bound.Lexical es) (names_at role.Local q.node) (λ n. refl) a)
  leaves_at _ w a = absurd a

-- ---- as the tables declare it

-- the declaration, before it is known what bars it: moved past the scope where it stands, or where that takes variables, there
pub record IsLeft (q : Place) (c : Bound) : Type 0 where
  pub declaration : Declaration
  pub told : Among declaration (declared_on_entering q)
  pub named : declaration.naming.name ≡ c.name
  pub identifier : declaration.naming.identifier ≡ c.identifier
  pub target : first_with is_var q.chain ≡ Some declaration.route.target
  pub variable : Environment
  pub taking : first_taking (environments q.node q.path) ≡ Some variable
  pub also : c.also ≡ variable ∷ []
  pub passing : c.passed ≡ passed (environments q.node q.path)
  pub opener : declaration.route.target.opener ≡ variable.maker
  pub how : ((declaration.how ≡ moved) × (is_var (place.innermost q.chain) ≡ false)) ⊎ (declaration.how ≡ plain)
  pub passes : declaration.route.passed ≡ passed_before is_var q.chain

module _ (p : Tree) (h : first_fault p ≡ None) (e : is_ecmascript p ≡ true) (numbered : IsNumbered p.root) (q : Place) (entered : Among (entering q) (steps p)) (c : Bound) (l : LeavesAt p.source_type q c) where
  abbrev round : List Environment
  round = environments q.node q.path

  no_program : kind.Program ≡ kind.Function → ⊥
  no_program i = absurd cc

  familiar : IsFamiliar (node_at p) q
  familiar = each_at (FamiliarAt (node_at p)) (steps p) (entering q) (familiar_program p h e numbered) entered

  known : IsKnown q
  known = each_at KnownAt (steps p) (entering q) (known_program p h e) entered

  rooted : q.path ≡ [] → ⊥
  rooted w = no_program (sym (subst (EndsAtProgram q.node) w familiar.rooted) ∙ l.function)

  taken : (d : Environment) × (first_taking round ≡ Some d)
  taken = go q.path refl
    where
      go : (path : List Node) → q.path ≡ path → (d : Environment) × (first_taking (environments q.node q.path) ≡ Some d)
      go [] w = absurd (rooted w)
      go (y ∷ path) w = subst (λ l. (d : Environment) × (first_taking (environments q.node l) ≡ Some d)) (sym w) (takes_some q.node y path (subst (EndsAtProgram q.node) w familiar.rooted))

  -- the scope that takes variables
  taker : (t : OpenScope) × (first_with is_var q.chain ≡ Some t) × (t.opener ≡ taken.0.maker)
  taker = go (first_with is_var q.chain) refl
    where
      both : option_map opener_of (first_with is_var q.chain) ≡ Some taken.0.maker
      both = takers_made q.chain q.node q.path known.round ∙ ap (option_map maker_of) taken.1

      go : (o : Option OpenScope) → first_with is_var q.chain ≡ o → (t : OpenScope) × (first_with is_var q.chain ≡ Some t) × (t.opener ≡ taken.0.maker)
      go None w = absurd (none_is taken.0.maker (sym (ap (option_map opener_of) w) ∙ both))
      go (Some t) w = (t, w, some_is t.opener taken.0.maker (sym (ap (option_map opener_of) w) ∙ both))

  -- of the tables' conditions the language has all but that of the scope
  sloppy : is_var (place.innermost q.chain) ≡ false → is_block_function q ≡ true
  sloppy w =
      let first : (not (takes_variables (innermost round)) && not (is_special q.node)) ≡ true = and_first (not (takes_variables (innermost round)) && not (is_special q.node)) (not (language.is_strict p.source_type q.path)) l.ours in
      let special : is_special q.node ≡ false = not-true (is_special q.node) (and_second (not (takes_variables (innermost round))) (not (is_special q.node)) first) in
      let strict : language.is_strict p.source_type q.path ≡ false = not-true (language.is_strict p.source_type q.path) (and_second (not (takes_variables (innermost round)) && not (is_special q.node)) (not (language.is_strict p.source_type q.path)) l.ours) in
      let alike : IsStrictAlike p.source_type (entering q) = each_at (IsStrictAlike p.source_type) (steps p) (entering q) (strictness_agrees p h e) entered in
      let tables : place.is_strict q.chain ≡ false = alike rooted ∙ strict in
      let source : q.source_type ≡ p.source_type = (each_at (IsStepHeld (IsListed (openers_of p)) p.source_type) (steps p) (entering q) (all_listed p) entered).0 in
      let script : is_typescript q.source_type ≡ false = ap is_typescript source ∙ not-true (is_typescript p.source_type) (and_first (not (is_typescript p.source_type)) (is_ecmascript_forest p.root.children) e) in
      rw (special, script, tables, w, stands_in_no_clause p h e numbered q entered l.function l.statement) refl

  abbrev row_declaration : Declaration
  row_declaration = declaration_at q.node (function_row q) (has mark.Pure q.node) l.name_node

  told_there : Among row_declaration (declared_on_entering q)
  told_there = subst (λ k. Among row_declaration (declared_by k q)) (sym l.function)
      (subst (λ t. Among row_declaration (cond t (map (declaration_at q.node (function_row q) (has mark.Pure q.node)) (ids q.node)) [])) (sym l.statement) (of_map (declaration_at q.node (function_row q) (has mark.Pure q.node)) (ids q.node) l.name_node l.among))

  record IsRouted : Type 0 where
    target : first_with is_var q.chain ≡ Some (function_row q).route.target
    how : (((function_row q).how ≡ moved) × (is_var (place.innermost q.chain) ≡ false)) ⊎ ((function_row q).how ≡ plain)
    passes : (function_row q).route.passed ≡ passed_before is_var q.chain

  -- past the scope where it stands
  past : (chain : List OpenScope) (t : OpenScope) → is_var (place.innermost chain) ≡ false → first_with is_var chain ≡ Some t → (first_with is_var chain ≡ Some (outward_past is_var chain).target) × ((outward_past is_var chain).passed ≡ passed_before is_var chain)
  past [] t w f = absurd (none_is t f)
  past (s ∷ ss) t w f =
      let inner : first_with is_var ss ≡ Some t = sym (ap (λ b. cond b (Some s) (first_with is_var ss)) w) ∙ f in
      let same : passed_before is_var (s ∷ ss) ≡ s ∷ passed_before is_var ss = ap (λ b. cond b [] (s ∷ passed_before is_var ss)) w in
      let route : route_from (s ∷ ss) (s ∷ passed_before is_var ss) (first_with is_var ss) ≡ record { passed = s ∷ passed_before is_var ss; target = t } = ap (route_from (s ∷ ss) (s ∷ passed_before is_var ss)) inner in
      (f ∙ ap Some (ap (λ r. r.target) (sym route)), ap (λ r. r.passed) route ∙ sym same)

  -- or in it, where it takes variables
  at_once : (chain : List OpenScope) → is_var (place.innermost chain) ≡ true → (first_with is_var chain ≡ Some (place.innermost chain)) × ([] ≡ passed_before is_var chain)
  at_once [] w = absurd (never (sym w))
  at_once (s ∷ ss) w = (ap (λ b. cond b (Some s) (first_with is_var ss)) w, sym (ap (λ b. cond b [] (s ∷ passed_before is_var ss)) w))

  routed : IsRouted
  routed = elim (cases_Bool (is_var (place.innermost q.chain))) [
    | inr w ↦ (let b : is_block_function q ≡ true = sloppy w in
        let (t, f, o) = taker in
        let two : (first_with is_var q.chain ≡ Some (outward_past is_var q.chain).target) × ((outward_past is_var q.chain).passed ≡ passed_before is_var q.chain) = past q.chain t w f in
        record { target = two.0 ∙ ap Some (rw b refl); how = inl (rw b refl, w); passes = rw b two.1 })
    | inl w ↦ (let b : is_block_function q ≡ false = no_scope (not (is_special q.node)) (not (is_typescript q.source_type)) (not (place.is_strict q.chain)) (is_var (place.innermost q.chain)) (is_clause (place.innermost q.chain)) w in
        let two : (first_with is_var q.chain ≡ Some (place.innermost q.chain)) × ([] ≡ passed_before is_var q.chain) = at_once q.chain w in
        record { target = two.0 ∙ ap Some (rw b refl); how = inr (rw b refl); passes = rw b two.1 })
  ]
    where
      no_scope : (a b c v w : Bool) → v ≡ true → (a && b && c && not (v || w)) ≡ false
      no_scope true true true true w i = refl
      no_scope true true false true w i = refl
      no_scope true false true true w i = refl
      no_scope true false false true w i = refl
      no_scope false true true true w i = refl
      no_scope false true false true w i = refl
      no_scope false false true true w i = refl
      no_scope false false false true w i = refl
      no_scope a b c false w i = absurd (never (sym i))

  pub is_left : IsLeft q c
  is_left =
      let (t, f, o) = taker in
      let r : IsRouted = routed in
      let variable_is : variable_environment round ≡ taken.0 = ap (environment_or (innermost round)) taken.1 in
      record {
        declaration = row_declaration;
        told = told_there;
        named = ap (λ z. z.name) (sym l.is_it);
        identifier = ap (λ z. z.identifier) (sym l.is_it);
        target = r.target;
        variable = taken.0;
        taking = taken.1;
        also = ap (λ z. z.also) l.is_it ∙ ap (λ d. d ∷ []) variable_is;
        passing = ap (λ z. z.passed) l.is_it;
        opener = ap (λ z. z.opener) (some_is (function_row q).route.target t (sym r.target ∙ f)) ∙ o;
        how = r.how;
        passes = r.passes;
      }

-- so its variable is told
pub leaving_are_told : (p : Tree) → first_fault p ≡ None → is_ecmascript p ≡ true → IsNumbered p.root → LeavingAreTold p
leaving_are_told p h e numbered q a b i leaves =
    let l : IsLeft q b = is_left p h e numbered q a b (leaves_at p.source_type q b leaves q.node.kind refl i) in
    record {
      declaration = l.declaration;
      told = l.told;
      variable = l.variable;
      also = l.also;
      is_it = λ j. record { identifier = l.identifier j; name = l.named j; maker = l.opener j };
    }
