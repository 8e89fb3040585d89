-- Place by place, the nearest scope that binds a plain name has the symbol of the identifiers by which the nearest environment binds it.
use Rattle.std.proofs.Common.{◌≡◌, ℕ, List, [], ◌∷◌, ◌++◌, Option, Some, None, Bool, true, false, ◌&&◌, ◌||◌, not, cond, map, inl, inr, refl, sym, ap, subst, ◌∙◌, bytes_eq, codes}
use Rattle.std.specs.Prelude.{slice_get}
use Rattle.std.proofs.lemmas.Bool.{not-true}
use Rattle.semantic_syntax.proofs.Truth.{and_first, and_second, and_false}
use Rattle.semantic_kinds.specs.Classes.{holds_kind}
use Rattle.semantic_kinds.specs.Kinds.{same_kind}
use Rattle.semantic_kinds.specs.declared.kind.AstType.{AstType}
use Rattle.semantic_kinds.specs.declared.kind.AstType.TheVariants as kind
use Rattle.semantic_kinds.specs.Roles.{same_role}
use Rattle.semantic_kinds.specs.declared.role.Role.TheVariants as role
use Rattle.semantic_syntax.specs.Tables.{Name}
use Rattle.semantic_tree.specs.Faults.{first_fault}
use Rattle.semantic_tree.specs.Forest.{Forest, nothing, tree}
use Rattle.semantic_tree.specs.Tree.{Tree, IsNumbered}
use Rattle.semantic_tree.specs.Views.{is}
use Rattle.semantic_tree.specs.declared.node.Node.{Node}
use Rattle.semantic_model.specs.Analysis.{analysis_of, symbol_at}
use Rattle.semantic_model.specs.Binder.{is_statement}
use Rattle.semantic_model.specs.Binding.{get}
use Rattle.semantic_model.specs.Cursor.{on_entering}
use Rattle.semantic_model.specs.EachStep.{EachStep}
use Rattle.semantic_model.specs.Entries.{Among}
use Rattle.semantic_model.specs.Event.{Event, declarations, events, is_catch_body}
use Rattle.semantic_model.specs.Fold.{State, start, or_else}
use Rattle.semantic_model.specs.Hoist.{run}
use Rattle.semantic_model.specs.Inside.{is_inside, is_in_header}
use Rattle.semantic_model.specs.Place as place
use Rattle.semantic_model.specs.Place.{Place, OpenScope, outside, parent_holds}
use Rattle.semantic_model.specs.Step.{Step, entering, leaving, steps_below, steps, root_place}
use Rattle.semantic_model.specs.Tie.{view_by, until_end_of}
use Rattle.semantic_model.proofs.fold.BodyChains.{AllInTable}
use Rattle.semantic_model.proofs.fold.Orders.{table_of}
use Rattle.semantic_model.proofs.form.Clauses.{kind_is}
use Rattle.semantic_model.proofs.form.ParameterChains.{is_open_inside}
use Rattle.semantic_model.proofs.steps.EachStep.{EachOfTurn, each_left, each_of_node, each_of_turn, turn_of_each}
use Rattle.semantic_model.proofs.steps.Turn.{Turn, turn_at}
use Rattle.semantic_model.proofs.steps.TurnCases.{opening_case, ending_case, last_case}
use Rattle.walk_model.proofs.places.Shapes.{holds_below}
use Rattle.binding_laws.proofs.ChildChains.{ChainOf, outer_chain, inner_chain, OwnOf, own_of, no_decorator, chain_of}
use Rattle.binding_laws.proofs.CutSteps.{WillAwait}
use Rattle.binding_laws.proofs.EnteredOnce.{entered_once}
use Rattle.binding_laws.proofs.ListLaws.{each_at}
use Rattle.binding_laws.proofs.ScopeOpeners.{openers, IsOpened, AllOpened}
use Rattle.binding_laws.proofs.SmallLaws.{cons_self, never, some_is}
use Rattle.language_ties.specs.AgreeingNames.{IsPlainName, StandsInExpressions}
use Rattle.language_ties.specs.Bound.{Bound, is_bound_as}
use Rattle.language_ties.specs.EcmaScript.{is_ecmascript}
use Rattle.language_ties.specs.Environments.{Environment, same_environment_kind, is_made_for, is_outside_body, has_parameter_expressions, is_body_of_with, made_by, environments, innermost}
use Rattle.language_ties.specs.Meaning.{Meaning, identifiers_in, meaning_past_objects as meaning}
use Rattle.language_ties.specs.NearestScopes.{nearest_symbol}
use Rattle.language_ties.specs.Scopes.{Maker, maker_of_scope, maker_of_environment, has_scope, makers}
use Rattle.language_ties.specs.SharedSymbols.{AllKeepClear}
use Rattle.language_ties.specs.declared.bound_as.BoundAs.TheVariants as way
use Rattle.language_ties.specs.declared.environment_kind.EnvironmentKind.{EnvironmentKind}
use Rattle.language_ties.specs.declared.environment_kind.EnvironmentKind.TheVariants as environment
use Rattle.language_ties.proofs.agree.FamiliarPlaces.{stands_well, is_function_kind, IsFamiliar, FamiliarAt, familiar_program}
use Rattle.language_ties.proofs.agree.FunctionKinds.{function_kinds, arrow_kinds, IsOrdinary}
use Rattle.language_ties.proofs.agree.Identifiers.{identifier_here, meaning_further, meaning_here}
use Rattle.language_ties.proofs.agree.KnownBounds.{KnownBound}
use Rattle.language_ties.proofs.agree.KnownNodes.{node_at}
use Rattle.language_ties.proofs.agree.MadeEnvironments.{may_make, environment_kind_is, EndsAtProgram, innermost_among}
use Rattle.language_ties.proofs.agree.PlainBounds.{no_class}
use Rattle.language_ties.proofs.caught.CaughtBounds.{IsTakenBy, not_taken}
use Rattle.language_ties.proofs.caught.ClausePlaces.{StandsInClause, body_kind}
use Rattle.language_ties.proofs.headers.HeaderAnswers.{silent, answers_too, own_answers, caught_answers, caught_in_header, awaits}
use Rattle.language_ties.proofs.headers.HeaderShape.{heads_parameters, tree_heads, header_list}
use Rattle.language_ties.proofs.headers.Sides.{is_parameters}
use Rattle.language_ties.proofs.moved.Settled.{settled_bounds, bound_as_settled}
use Rattle.language_ties.proofs.own_names.AnyBounds.{AnyBound, any_bound}
use Rattle.language_ties.proofs.own_names.OwnBounds.{IsOfExpression, OwnBound, own_maker}
use Rattle.language_ties.proofs.own_names.OwnSymbols.{HasSymbol, class_symbol}
use Rattle.language_ties.proofs.agree.ClauseBlocks.{body_agrees, round_child}
use Rattle.language_ties.proofs.agree.PlaceAgreement.{outside_innermost, AllAre, Matches, Agrees, AgreesRound, AgreesBy, AgreesAt}
use Rattle.language_ties.proofs.agree.ScopeAnswers as scopes
use Rattle.language_ties.proofs.agree.SeenPlaces.{IsSeen, SeenAt, seen_program}
use Rattle.language_ties.proofs.agree.ScopeAnswers.{arrow_rest, class_here, directly, environment_is, function, further, here, is_here, is_there, no_if_body, none_there, one, own_rest, unanswered, unusual, visible}

module _ (p : Tree) (h : first_fault p ≡ None) (e : is_ecmascript p ≡ true) (numbered : IsNumbered p.root) (x : Name) (not_arguments : bytes_eq x (codes "arguments") ≡ false) (clear : AllKeepClear x (declarations (events (steps p)))) (plain : IsPlainName p x) where
  abbrev es : List Event
  es = events (steps p)

  abbrev final : State
  final = run start es

  abbrev ws : List Bound
  ws = settled_bounds p

  abbrev bs : List Bound
  bs = bound_as_settled p

  abbrev Known : Bound → Type 0
  Known b = KnownBound p h e numbered x plain b

  abbrev Any : Bound → Type 0
  Any b = AnyBound p h e numbered x plain b

  abbrev IsHere : Environment → ℕ → Type 0
  IsHere d i = scopes.IsHere p h e numbered x not_arguments clear plain d i

  abbrev IsClassHere : Environment → Bound → Type 0
  IsClassHere d b = scopes.IsClassHere p h e numbered x not_arguments clear plain d b

  -- ---- a child of a place

  module _ (q c : Place) (agree : Agrees p x q) (open_body : is_catch_body q ≡ false) (seen : IsSeen p q) (seen_child : IsSeen p c) (path : c.path ≡ q.node ∷ q.path) (well : stands_well q.node.kind c.role c.node.kind [] ≡ true) (heads : heads_parameters q.node.kind c.role c.node.kind [] ≡ true) (no_identifier : is kind.BindingIdentifier c.node ≡ false) (open_child : is_catch_body c ≡ false) where
    abbrev N : Option ℕ
    N = nearest_symbol final es x q.chain

    abbrev E : List Environment
    E = environments q.node q.path

    abbrev M : List Maker
    M = makers E

    outer_round : map maker_of_scope q.chain ≡ M
    outer_round = seen.known.round

    child_round : map maker_of_scope c.chain ≡ makers (made_by q.node.kind q.node c.node ++ E)
    child_round = seen_child.known.round ∙ ap (λ l. makers (environments c.node l)) path

    -- what is to be shown of the environments that the parent makes
    abbrev Shows : List OpenScope → List Environment → Type 0
    Shows chain ds = StandsInExpressions ws x c.node (q.node ∷ q.path) → Matches p (nearest_symbol final es x chain) (meaning bs (ds ++ E) x)

    outer_shows : Shows q.chain []
    outer_shows = λ i. agree i.1

    -- where the place stands among parameters that bind the name, these have an expression
    abbrev Expressed : Type 0
    Expressed = is kind.FormalParameters c.node ≡ true → (b : Bound) → Among b ws → b.name ≡ x → b.environment.maker ≡ q.node.node_id → has_parameter_expressions q.node ≡ true

    -- one scope more
    module _ (s : OpenScope) (opener : s.opener ≡ q.node.node_id) (header : s.in_header ≡ is_in_header q.node.kind c.role) (chain : c.chain ≡ s ∷ q.chain) where
      s_opened : IsOpened (openers (steps p)) s
      s_opened = (subst (AllOpened (openers (steps p))) chain seen_child.opened).0

      s_entry : slice_get (table_of p) s.number ≡ Some s.body
      s_entry = (subst (AllInTable (table_of p)) chain seen_child.in_table).0.entry

      -- it takes no clause over
      whole : (b : Bound) → IsTakenBy p b s.number → ⊥
      whole = not_taken p numbered q seen.entered open_body s s_opened opener

      -- what the scope binds as its header ends
      abbrev H : Option ℕ
      H = get (run start (until_end_of s.number es)).bindings s.number x

      awaited : s.in_header ≡ true → WillAwait s.number [] (steps p)
      awaited v = awaits p h e numbered x clear plain c s seen_child.entered (subst (Among s) (sym chain) (inl refl)) no_identifier v

      -- in no header the scope is seen as it is in the end, in one as it stands when that ends
      seen_by : (ds : List Environment) → (s.in_header ≡ false → Matches p N (meaning bs E x) → Matches p (or_else (get final.bindings s.number x) N) (meaning bs (ds ++ E) x)) → (s.in_header ≡ true → Expressed → Matches p N (meaning bs E x) → Matches p (or_else H N) (meaning bs (ds ++ E) x)) → Shows (s ∷ q.chain) ds
      seen_by ds last ends i = by s.in_header refl
        where
          by : (t : Bool) → s.in_header ≡ t → Matches p (or_else (get (view_by s.in_header final es s.number).bindings s.number x) N) (meaning bs (ds ++ E) x)
          by false v = subst (λ b. Matches p (or_else (get (view_by b final es s.number).bindings s.number x) N) (meaning bs (ds ++ E) x)) (sym v) (last v (agree i.1))
          by true v = subst (λ b. Matches p (or_else (get (view_by b final es s.number).bindings s.number x) N) (meaning bs (ds ++ E) x)) (sym v) (ends v (λ k b a n m. i.0 k b b.environment a n (inl refl) m) (agree i.1))

      -- where the header sees nothing
      unseen : (m : Meaning) → H ≡ None → Matches p N m → Matches p (or_else H N) m
      unseen m g k = subst (λ t. Matches p (or_else t N) m) (sym g) k

      abbrev OfOpener : Type 0
      OfOpener = scopes.IsBoundThere p h e numbered x not_arguments clear plain s s_opened s_entry q.node opener seen.familiar.node

      abbrev IsBoundBy : Bound → Type 0
      IsBoundBy b = scopes.IsThere p h e numbered x not_arguments clear plain s s_opened s_entry q.node opener seen.familiar.node b

      -- what the clause binds, in its header
      module _ (v : s.in_header ≡ true) (caught : q.node.kind ≡ kind.CatchClause) where
        abbrev Clause : Environment
        Clause = record { kind = environment.Catch; maker = q.node.node_id }

        by_clause : (w : OfOpener) → w.bind.environment ≡ Clause
        by_clause w = environment_is p h e numbered x not_arguments clear plain s s_opened s_entry q.node opener seen.familiar.node w environment.Catch (environment_kind_is w.bind.environment.kind environment.Catch (subst (λ a. may_make a w.bind.environment.kind ≡ true) caught w.makes))

        no_name : (b : Bound) → OwnBound p h x b → b.environment.maker ≡ s.opener → ⊥
        no_name b o maker =
            let same : o.place ≡ q = entered_once p numbered o.place q o.entered seen.entered (sym (own_maker p h x b o) ∙ maker ∙ opener) in
            go o.named_by.sort (ap (λ (z : Place). z.node.kind) same ∙ caught)
          where
            function : kind.Function ≡ kind.CatchClause → ⊥
            function i = absurd cc

            class : kind.Class ≡ kind.CatchClause → ⊥
            class i = absurd cc

            go : IsOfExpression o.place.node b.environment → o.place.node.kind ≡ kind.CatchClause → ⊥
            go (inl w) i = function (sym w.0 ∙ i)
            go (inr w) i = class (sym w.0 ∙ i)

        caught_seen : (i : ℕ) → Among i (identifiers_in bs Clause x) → (y : ℕ) × (H ≡ Some y) × (symbol_at (analysis_of p) i ≡ Some y)
        caught_seen i a =
            let k : IsHere Clause i = is_here p h e numbered x not_arguments clear plain Clause i a in
            let there : k.bind.environment ≡ Clause = directly p h e numbered x not_arguments clear plain Clause i refl k in
            let known : Known k.bind = visible p h e numbered x not_arguments clear plain Clause k.bind k.known there refl refl in
            let maker : k.bind.environment.maker ≡ q.node.node_id = ap (λ z. z.maker) there in
            let (y, seen_too, symbol) = caught_answers p h e numbered x clear plain s s_opened (awaited v) whole k.bind known k.named (opener ∙ sym maker)
            (caught_in_header p h e numbered x clear plain k.bind k.named known (ap (is_made_for environment.Catch) there) q.node (ap (node_at p) maker ∙ seen.familiar.node) caught) no_name in
            (y, seen_too, subst (λ j. symbol_at (analysis_of p) j ≡ Some y) k.identifier symbol)

        all_caught : (y : ℕ) → H ≡ Some y → (is : List ℕ) → ((i : ℕ) → Among i is → Among i (identifiers_in bs Clause x)) → AllAre p is y
        all_caught y g [] f = tt
        all_caught y g (i ∷ is) f =
            let (z, there, symbol) = caught_seen i (f i (inl refl)) in
            (symbol ∙ ap Some (some_is z y (sym there ∙ g)), all_caught y g is (λ j a. f j (inr a)))

        clause_header : Matches p N (meaning bs E x) → Matches p (or_else H N) (meaning bs (Clause ∷ E) x)
        clause_header m = go (identifiers_in bs Clause x) refl
          where
            go : (is : List ℕ) → identifiers_in bs Clause x ≡ is → Matches p (or_else H N) (meaning bs (Clause ∷ E) x)
            go [] i =
                subst (Matches p (or_else H N)) (sym (meaning_further bs x not_arguments Clause E i))
                (unseen (meaning bs E x) (silent p h e numbered x clear plain s s_opened (awaited v) whole (λ b a n k body. (let t : IsBoundBy b = is_there p h e numbered x not_arguments clear plain s s_opened s_entry q.node opener seen.familiar.node b a n (k ∙ opener) in none_there p h e numbered x not_arguments clear plain s s_opened s_entry q.node opener seen.familiar.node Clause i t.there (by_clause t.there)))) m)
            go (i ∷ is) j =
                let (y, there, symbol) = caught_seen i (subst (Among i) (sym j) (inl refl)) in
                subst (Matches p (or_else H N)) (sym (meaning_here bs x not_arguments Clause E i is j))
                (y, ap (λ z. or_else z N) there, all_caught y there (i ∷ is) (λ k a. subst (Among k) (sym j) a))

      one_shows : (k : EnvironmentKind) → ((j : EnvironmentKind) → may_make q.node.kind j ≡ true → j ≡ k) → IsOrdinary k → (s.in_header ≡ true → ⊥) → Shows (s ∷ q.chain) (record { kind = k; maker = q.node.node_id } ∷ [])
      one_shows k only n no_header = seen_by (record { kind = k; maker = q.node.node_id } ∷ []) (λ v. one p h e numbered x not_arguments clear plain s s_opened s_entry q.node opener seen.familiar.node whole k E only n N) (λ v fits m. absurd (no_header v))

      -- outside of its body's environment a child of a function stands in its header
      in_header : is_function_kind q.node.kind ≡ true → is_outside_body c.node ≡ true → s.in_header ≡ false → ⊥
      in_header f out n =
          let list : same_kind c.node.kind kind.FormalParameters ≡ true = go (same_kind kind.BindingIdentifier c.node.kind) (same_kind kind.FormalParameters c.node.kind) refl refl out in
          let stands : (not (is_function_kind q.node.kind && same_kind c.node.kind kind.FormalParameters) || is_in_header q.node.kind c.role) ≡ true = and_second (not (same_kind q.node.kind kind.BindingIdentifier)) (not (is_function_kind q.node.kind && same_kind c.node.kind kind.FormalParameters) || is_in_header q.node.kind c.role) well in
          let inside : is_in_header q.node.kind c.role ≡ true = rw (f, list) at stands in
          never (sym inside ∙ sym header ∙ n)
        where
          flipped : (a b : AstType) → same_kind a b ≡ true → same_kind b a ≡ true
          flipped a b w = subst (λ k. same_kind k a ≡ true) (kind_is a b w) (subst (λ k. same_kind a k ≡ true) (sym (kind_is a b w)) w)

          go : (a b : Bool) → same_kind kind.BindingIdentifier c.node.kind ≡ a → same_kind kind.FormalParameters c.node.kind ≡ b → (a || (b || false)) ≡ true → same_kind c.node.kind kind.FormalParameters ≡ true
          go true b i j w = absurd (never (sym (flipped kind.BindingIdentifier c.node.kind i) ∙ no_identifier))
          go false true i j w = flipped kind.FormalParameters c.node.kind j
          go false false i j w = absurd cc

      -- what stands in the header of a function is its list of parameters
      list : is_function_kind q.node.kind ≡ true → s.in_header ≡ true → is kind.FormalParameters c.node ≡ true
      list f v = header_list q.node.kind c.role c.node.kind [] heads seen_child.familiar.ecmascript f (sym header ∙ v)

      list_outside : is kind.FormalParameters c.node ≡ true → is_outside_body c.node ≡ true
      list_outside v = subst (λ k. holds_kind (kind.BindingIdentifier ∷ kind.FormalParameters ∷ []) k ≡ true) (sym (kind_is c.node.kind kind.FormalParameters v)) refl

      -- in a function's header, where the parameters don't bind the name
      abbrev HeaderRest : EnvironmentKind → List Environment → Type 0
      HeaderRest k ds = ((w : OfOpener) → w.bind.environment ≡ record { kind = k; maker = q.node.node_id } → ⊥) → Matches p N (meaning bs E x) → Matches p (or_else H N) (meaning bs (ds ++ E) x)

      -- a function, seen from its header
      from_header : (k : EnvironmentKind) (n : IsOrdinary k) (ds : List Environment) → is_parameters (record { kind = k; maker = q.node.node_id }) ≡ true → s.in_header ≡ true → ((b : Bound) → Among b ws → b.name ≡ x → b.environment.maker ≡ q.node.node_id → has_parameter_expressions q.node ≡ true) → HeaderRest k ds
          → Matches p N (meaning bs E x) → Matches p (or_else H N) (meaning bs (record { kind = k; maker = q.node.node_id } ∷ (ds ++ E)) x)
      from_header k n ds parameters v fits rest m = go (identifiers_in bs Parameters x) refl
        where
          Parameters : Environment
          Parameters = record { kind = k; maker = q.node.node_id }

          go : (is : List ℕ) → identifiers_in bs Parameters x ≡ is → Matches p (or_else H N) (meaning bs (Parameters ∷ (ds ++ E)) x)
          go [] i = subst (Matches p (or_else H N)) (sym (meaning_further bs x not_arguments Parameters (ds ++ E) i)) (rest (λ w z. none_there p h e numbered x not_arguments clear plain s s_opened s_entry q.node opener seen.familiar.node Parameters i w z) m)
          go (i ∷ is) j =
              let w : IsHere Parameters i = is_here p h e numbered x not_arguments clear plain Parameters i (subst (Among i) (sym j) (inl refl)) in
              let env : w.bind.environment ≡ Parameters = directly p h e numbered x not_arguments clear plain Parameters i n.0 w in
              let known : Known w.bind = visible p h e numbered x not_arguments clear plain Parameters w.bind w.known env n.0 n.1 in
              let same : H ≡ get final.bindings s.number x = answers_too p h e numbered x clear plain s s_opened (awaited v) whole w.bind known w.named (opener ∙ sym (ap (λ z. z.maker) env)) (subst (λ d. is_parameters d ≡ true) (sym env) parameters)
              (λ f found. subst (λ g. has_parameter_expressions g ≡ true) (some_is q.node f (sym seen.familiar.node ∙ ap (λ d. node_at p d.maker) (sym env) ∙ found)) (fits w.bind w.among w.named (ap (λ d. d.maker) env))) in
              subst (λ t. Matches p (or_else t N) (meaning bs (Parameters ∷ (ds ++ E)) x)) (sym same) (here p h e numbered x not_arguments clear plain s s_opened s_entry q.node opener seen.familiar.node Parameters (ds ++ E) refl n i is j N)

      -- an arrow has no other environment, a function that of its name
      arrow_header : q.node.kind ≡ kind.ArrowFunctionExpression → s.in_header ≡ true → HeaderRest environment.ArrowParameters []
      arrow_header w v no_parameters m = unseen (meaning bs E x) (silent p h e numbered x clear plain s s_opened (awaited v) whole (λ b a n k body. by b body (is_there p h e numbered x not_arguments clear plain s s_opened s_entry q.node opener seen.familiar.node b a n (k ∙ opener)))) m
        where
          by : (b : Bound) → is_made_for environment.Body b.environment ≡ false → IsBoundBy b → ⊥
          by b body t = elim (arrow_kinds t.there.bind.environment.kind (subst (λ a. may_make a t.there.bind.environment.kind ≡ true) w t.there.makes)) [
            | inl z ↦ never (sym (ap (λ y. same_environment_kind y environment.Body) (sym (ap (λ y. y.environment.kind) t.same) ∙ z)) ∙ body)
            | inr z ↦ no_parameters t.there (environment_is p h e numbered x not_arguments clear plain s s_opened s_entry q.node opener seen.familiar.node t.there environment.ArrowParameters z)
          ]

      module _ (w : q.node.kind ≡ kind.Function) (v : s.in_header ≡ true) (no_parameters : (t : OfOpener) → t.bind.environment ≡ record { kind = environment.Parameters; maker = q.node.node_id } → ⊥) where
        abbrev HeaderName : Environment
        HeaderName = record { kind = environment.OwnName; maker = q.node.node_id }

        -- but for the body's environment, that of the name alone binds it
        named_alone : (b : Bound) → is_made_for environment.Body b.environment ≡ false → (t : IsBoundBy b) → t.there.bind.environment ≡ HeaderName
        named_alone b body t = elim (function_kinds t.there.bind.environment.kind (subst (λ a. may_make a t.there.bind.environment.kind ≡ true) w t.there.makes) (no_if_body p h e numbered x not_arguments clear plain t.there.bind t.there.known)) [
          | inl z ↦ absurd (never (sym (ap (λ y. same_environment_kind y environment.Body) (sym (ap (λ y. y.environment.kind) t.same) ∙ z)) ∙ body))
          | inr z ↦ elim z [
            | inl y ↦ absurd (no_parameters t.there (environment_is p h e numbered x not_arguments clear plain s s_opened s_entry q.node opener seen.familiar.node t.there environment.Parameters y))
            | inr y ↦ environment_is p h e numbered x not_arguments clear plain s s_opened s_entry q.node opener seen.familiar.node t.there environment.OwnName y
          ]
        ]

        not_declared_there : (b : Bound) → Known b → b.environment ≡ HeaderName → ⊥
        not_declared_there b k z = never (sym (ap (is_made_for environment.OwnName) z) ∙ k.placed.usual.0)

        own_apart : (b : Bound) → Among b ws → b.name ≡ x → is_bound_as way.OwnName b ≡ false → b.environment.maker ≡ s.opener → is_made_for environment.Body b.environment ≡ false → ⊥
        own_apart b a n u k body =
            let t : IsBoundBy b = is_there p h e numbered x not_arguments clear plain s s_opened s_entry q.node opener seen.familiar.node b a n (k ∙ opener) in
            let env : b.environment ≡ HeaderName = ap (λ z. z.environment) (sym t.same) ∙ named_alone b body t in
            elim (any_bound p h e numbered x plain b a n) [
              | inl known ↦ not_declared_there b known env
              | inr own ↦ never (sym own.own ∙ u)
            ]

        own_seen : (i : ℕ) → Among i (identifiers_in bs HeaderName x) → (y : ℕ) × (H ≡ Some y) × (symbol_at (analysis_of p) i ≡ Some y)
        own_seen i a =
            let k : IsHere HeaderName i = is_here p h e numbered x not_arguments clear plain HeaderName i a in
            let there : k.bind.environment ≡ HeaderName = directly p h e numbered x not_arguments clear plain HeaderName i refl k in
            elim k.known [
              | inl known ↦ absurd (not_declared_there k.bind known there)
              | inr own ↦ (let maker : own.place.node.node_id ≡ q.node.node_id = sym (own_maker p h x k.bind own) ∙ ap (λ z. z.maker) there in
                  let familiar : IsFamiliar (node_at p) own.place = each_at (FamiliarAt (node_at p)) (steps p) (entering own.place) (familiar_program p h e numbered) own.entered in
                  let same : own.place.node ≡ q.node = some_is own.place.node q.node (sym familiar.node ∙ ap (node_at p) maker ∙ seen.familiar.node) in
                  let (y, is_there_too, symbol) = own_answers p h e numbered x clear plain s s_opened (awaited v) whole k.bind own (opener ∙ sym maker) (ap (λ z. z.kind) same ∙ w) own_apart in
                  (y, is_there_too, subst (λ j. symbol_at (analysis_of p) j ≡ Some y) k.identifier symbol))
            ]

        all_seen : (y : ℕ) → H ≡ Some y → (is : List ℕ) → ((i : ℕ) → Among i is → Among i (identifiers_in bs HeaderName x)) → AllAre p is y
        all_seen y g [] f = tt
        all_seen y g (i ∷ is) f =
            let (z, there, symbol) = own_seen i (f i (inl refl)) in
            (symbol ∙ ap Some (some_is z y (sym there ∙ g)), all_seen y g is (λ j a. f j (inr a)))

        own_header : Matches p N (meaning bs E x) → Matches p (or_else H N) (meaning bs (HeaderName ∷ E) x)
        own_header m = go (identifiers_in bs HeaderName x) refl
          where
            go : (is : List ℕ) → identifiers_in bs HeaderName x ≡ is → Matches p (or_else H N) (meaning bs (HeaderName ∷ E) x)
            go [] i =
                subst (Matches p (or_else H N)) (sym (meaning_further bs x not_arguments HeaderName E i))
                (unseen (meaning bs E x) (silent p h e numbered x clear plain s s_opened (awaited v) whole (λ b a n k body. (let t : IsBoundBy b = is_there p h e numbered x not_arguments clear plain s s_opened s_entry q.node opener seen.familiar.node b a n (k ∙ opener) in none_there p h e numbered x not_arguments clear plain s s_opened s_entry q.node opener seen.familiar.node HeaderName i t.there (named_alone b body t)))) m)
            go (i ∷ is) j =
                let (y, there, symbol) = own_seen i (subst (Among i) (sym j) (inl refl)) in
                subst (Matches p (or_else H N)) (sym (meaning_here bs x not_arguments HeaderName E i is j))
                (y, ap (λ z. or_else z N) there, all_seen y there (i ∷ is) (λ k a. subst (Among k) (sym j) a))

      function_shows : (k : EnvironmentKind) (n : IsOrdinary k) (ds : List Environment) → is_function_kind q.node.kind ≡ true → is_parameters (record { kind = k; maker = q.node.node_id }) ≡ true
          → (Matches p N (meaning bs E x) → scopes.Rest p h e numbered x not_arguments clear plain s s_opened s_entry q.node opener seen.familiar.node whole k n N (ds ++ E)) → (s.in_header ≡ true → HeaderRest k ds)
          → Shows (s ∷ q.chain) (cond (not (is_outside_body c.node) && has_parameter_expressions q.node) (record { kind = environment.Body; maker = q.node.node_id } ∷ []) [] ++ (record { kind = k; maker = q.node.node_id } ∷ ds))
      function_shows k n ds f parameters rest header_rest =
          seen_by (cond (not (is_outside_body c.node) && has_parameter_expressions q.node) (record { kind = environment.Body; maker = q.node.node_id } ∷ []) [] ++ (record { kind = k; maker = q.node.node_id } ∷ ds)) (λ last m.
          subst (λ es. Matches p (or_else (get final.bindings s.number x) N) (meaning bs es x)) (reassociated (not (is_outside_body c.node) && has_parameter_expressions q.node))
          (function p h e numbered x not_arguments clear plain s s_opened s_entry q.node opener seen.familiar.node whole k n N
          (not (is_outside_body c.node) && has_parameter_expressions q.node) (ds ++ E) (absent (is_outside_body c.node) refl last) (rest m)))
          (λ v fits m. subst (λ t. Matches p (or_else H N) (meaning bs ((cond (not t && has_parameter_expressions q.node) (record { kind = environment.Body; maker = q.node.node_id } ∷ []) [] ++ (record { kind = k; maker = q.node.node_id } ∷ ds)) ++ E) x)) (sym (list_outside (list f v)))
          (from_header k n ds parameters v (fits (list f v)) (header_rest v) m))
        where
          reassociated : (t : Bool) → cond t (record { kind = environment.Body; maker = q.node.node_id } ∷ []) [] ++ (record { kind = k; maker = q.node.node_id } ∷ (ds ++ E)) ≡ (cond t (record { kind = environment.Body; maker = q.node.node_id } ∷ []) [] ++ (record { kind = k; maker = q.node.node_id } ∷ ds)) ++ E
          reassociated true = refl
          reassociated false = refl

          absent : (b : Bool) → is_outside_body c.node ≡ b → s.in_header ≡ false → (not b && has_parameter_expressions q.node) ≡ false → has_parameter_expressions q.node ≡ true → ⊥
          absent true w last v u = in_header f w last
          absent false w last v u = never (sym u ∙ v)

    -- ---- kind by kind

    -- makers of a scope that is there, and of none
    no_maker : (s : OpenScope) → c.chain ≡ s ∷ q.chain → makers (made_by q.node.kind q.node c.node ++ E) ≡ M → ⊥
    no_maker s chain w = cons_self (maker_of_scope s) M (ap (λ m. maker_of_scope s ∷ m) (sym outer_round) ∙ sym (ap (map maker_of_scope) chain) ∙ child_round ∙ w)

    a_maker : (d : Environment) → c.chain ≡ q.chain → makers (made_by q.node.kind q.node c.node ++ E) ≡ maker_of_environment d ∷ M → ⊥
    a_maker d chain w = cons_self (maker_of_environment d) M (sym w ∙ sym child_round ∙ ap (map maker_of_scope) chain ∙ outer_round)

    abbrev Goal : List OpenScope → AstType → Type 0
    Goal chain k = Shows chain (made_by k q.node c.node)

    -- the parent makes none
    none_case : (k : AstType) → q.node.kind ≡ k → made_by k q.node c.node ≡ [] → ChainOf q.node.kind c.role q.node q.chain c.chain → Shows c.chain []
    none_case k w m t = go c.chain refl t
      where
        none_made : makers (made_by q.node.kind q.node c.node ++ E) ≡ M
        none_made = ap (λ j. makers (made_by j q.node c.node ++ E)) w ∙ ap (λ ds. makers (ds ++ E)) m

        go : (chain : List OpenScope) → c.chain ≡ chain → ChainOf q.node.kind c.role q.node q.chain chain → Shows chain []
        go _ v (outer_chain i) = outer_shows
        go _ v (inner_chain s i o j _) = absurd (no_maker s v none_made)

    -- or one with a scope
    one_case : (k : AstType) (n : EnvironmentKind) → q.node.kind ≡ k → made_by k q.node c.node ≡ record { kind = n; maker = q.node.node_id } ∷ [] → ((m : ℕ) → has_scope (record { kind = n; maker = m }) ≡ true) → ((j : EnvironmentKind) → may_make k j ≡ true → j ≡ n) → IsOrdinary n → (is_in_header k c.role ≡ true → ⊥)
        → ChainOf q.node.kind c.role q.node q.chain c.chain → Shows c.chain (record { kind = n; maker = q.node.node_id } ∷ [])
    one_case k n w m scoped only object no_header t = go c.chain refl t
      where
        one_made : makers (made_by q.node.kind q.node c.node ++ E) ≡ maker_of_environment (record { kind = n; maker = q.node.node_id }) ∷ M
        one_made = ap (λ j. makers (made_by j q.node c.node ++ E)) w ∙ ap (λ ds. makers (ds ++ E)) m ∙ ap (λ b. cond b (maker_of_environment (record { kind = n; maker = q.node.node_id }) ∷ M) M) (scoped q.node.node_id)

        go : (chain : List OpenScope) → c.chain ≡ chain → ChainOf q.node.kind c.role q.node q.chain chain → Shows chain (record { kind = n; maker = q.node.node_id } ∷ [])
        go _ v (outer_chain i) = absurd (a_maker (record { kind = n; maker = q.node.node_id }) v one_made)
        go _ v (inner_chain s i o j _) = one_shows s o j v n (λ z y. only z (subst (λ a. may_make a z ≡ true) w y)) object (λ u. no_header (sym (ap (λ a. is_in_header a c.role) w) ∙ sym j ∙ u))

    function_case : q.node.kind ≡ kind.Function → ChainOf q.node.kind c.role q.node q.chain c.chain → Shows c.chain (made_by kind.Function q.node c.node)
    function_case w t = go c.chain refl t
      where
        go : (chain : List OpenScope) → c.chain ≡ chain → ChainOf q.node.kind c.role q.node q.chain chain → Shows chain (made_by kind.Function q.node c.node)
        go _ v (outer_chain i) = absurd (never (subst (λ a. is_inside a c.role ≡ false) w i))
        go _ v (inner_chain s i o j _) =
            function_shows s o j v environment.Parameters (refl, refl, refl) (record { kind = environment.OwnName; maker = q.node.node_id } ∷ []) (subst (λ a. is_function_kind a ≡ true) (sym w) refl) refl
            (own_rest p h e numbered x not_arguments clear plain s (s_opened s o j v) (s_entry s o j v) q.node o seen.familiar.node (whole s o j v) w N E) (λ u none m. own_header s o j v w u none m)

    arrow_case : q.node.kind ≡ kind.ArrowFunctionExpression → ChainOf q.node.kind c.role q.node q.chain c.chain → Shows c.chain (made_by kind.ArrowFunctionExpression q.node c.node)
    arrow_case w t = go c.chain refl t
      where
        go : (chain : List OpenScope) → c.chain ≡ chain → ChainOf q.node.kind c.role q.node q.chain chain → Shows chain (made_by kind.ArrowFunctionExpression q.node c.node)
        go _ v (outer_chain i) = absurd (never (subst (λ a. is_inside a c.role ≡ false) w i))
        go _ v (inner_chain s i o j _) =
            function_shows s o j v environment.ArrowParameters (refl, refl, refl) [] (subst (λ a. is_function_kind a ≡ true) (sym w) refl) refl
            (arrow_rest p h e numbered x not_arguments clear plain s (s_opened s o j v) (s_entry s o j v) q.node o seen.familiar.node (whole s o j v) w N E) (λ u none m. arrow_header s o j v w u none m)

    -- the body of an `if` opens no scope, and no plain name is of its environment
    if_case : q.node.kind ≡ kind.IfStatement → ChainOf q.node.kind c.role q.node q.chain c.chain → Shows c.chain (made_by kind.IfStatement q.node c.node)
    if_case w t = by (is kind.Function c.node && is_statement c.node) refl
      where
        outer : (chain : List OpenScope) → ChainOf q.node.kind c.role q.node q.chain chain → Shows chain (record { kind = environment.IfBody; maker = c.node.node_id } ∷ [])
        outer _ (outer_chain i) = λ j. subst (Matches p N) (sym (meaning_further bs x not_arguments (record { kind = environment.IfBody; maker = c.node.node_id }) E (unusual p h e numbered x not_arguments clear plain c.node.node_id))) (agree j.1)
        outer _ (inner_chain s i o j _) = absurd (never (sym (subst (λ a. is_inside a c.role ≡ true) w i)))

        by : (b : Bool) → (is kind.Function c.node && is_statement c.node) ≡ b → Shows c.chain (cond b (record { kind = environment.IfBody; maker = c.node.node_id } ∷ []) [])
        by true v = outer c.chain t
        by false v = none_case kind.IfStatement w (ap (λ b. cond b (record { kind = environment.IfBody; maker = c.node.node_id } ∷ []) []) v) t

    switch_case : q.node.kind ≡ kind.SwitchStatement → ChainOf q.node.kind c.role q.node q.chain c.chain → Shows c.chain (made_by kind.SwitchStatement q.node c.node)
    switch_case w t = by (is kind.SwitchCase c.node) refl
      where
        by : (b : Bool) → is kind.SwitchCase c.node ≡ b → Shows c.chain (cond b (record { kind = environment.Block; maker = q.node.node_id } ∷ []) [])
        by true v = one_case kind.SwitchStatement environment.Block w (ap (λ b. cond b (record { kind = environment.Block; maker = q.node.node_id } ∷ []) []) v) (λ m. refl) (λ j y. environment_kind_is j environment.Block y) (refl, refl, refl) (λ u. absurd (never (sym u))) t
        by false v = none_case kind.SwitchStatement w (ap (λ b. cond b (record { kind = environment.Block; maker = q.node.node_id } ∷ []) []) v) t

    -- inside the declaration of a class its name means what it means around; an expression's scope binds it, and nothing else is bound there
    module _ (w : q.node.kind ≡ kind.Class) where
      abbrev Inside : Environment
      Inside = record { kind = environment.Class; maker = q.node.node_id }

      program_class : kind.Program ≡ kind.Class → ⊥
      program_class u = absurd cc

      inner_first : (b : Bound) → b.environment ≡ innermost E → (l : List Node) → q.path ≡ l → (b.environment ∷ outside_innermost E) ≡ E
      inner_first b v [] u = absurd (program_class (sym (subst (EndsAtProgram q.node) u seen.familiar.rooted) ∙ w))
      inner_first b v (y ∷ path) u = go E v (subst (λ l. Among (innermost (environments q.node l)) (environments q.node l)) (sym u) (innermost_among q.node y path (subst (EndsAtProgram q.node) u seen.familiar.rooted)))
        where
          go : (es : List Environment) → b.environment ≡ innermost es → Among (innermost es) es → (b.environment ∷ outside_innermost es) ≡ es
          go [] k a = absurd a
          go (d ∷ ds) k a = ap (λ z. z ∷ ds) k

      all_among : (is : List ℕ) (s : ℕ) (j : ℕ) → AllAre p is s → Among j is → symbol_at (analysis_of p) j ≡ Some s
      all_among [] s j k a = absurd a
      all_among (i ∷ is) s j k (inl v) = subst (λ z. symbol_at (analysis_of p) z ≡ Some s) v k.0
      all_among (i ∷ is) s j k (inr a) = all_among is s j k.1 a

      -- around the class the name has the symbol of each identifier that is there
      symbol_around : (d : Environment) (ds : List Environment) (j : ℕ) → Among j (identifiers_in bs d x) → Matches p N (meaning bs (d ∷ ds) x) → (y : ℕ) × (N ≡ Some y) × (symbol_at (analysis_of p) j ≡ Some y)
      symbol_around d ds j a m = go (identifiers_in bs d x) refl
        where
          go : (is : List ℕ) → identifiers_in bs d x ≡ is → (y : ℕ) × (N ≡ Some y) × (symbol_at (analysis_of p) j ≡ Some y)
          go [] v = absurd (subst (Among j) v a)
          go (i ∷ is) v =
              let (y, there, all) = subst (Matches p N) (meaning_here bs x not_arguments d ds i is v) m in
              (y, there, all_among (i ∷ is) y j all (subst (Among j) v a))

      -- the declaration of a class and an expression's own name are never of one node
      not_both : (b c : Bound) → IsClassHere Inside b → (o : OwnBound p h x c) → c.environment ≡ Inside → ⊥
      not_both b c k o v =
          let same : o.place ≡ k.place = entered_once p numbered o.place k.place o.entered k.entered (sym (own_maker p h x c o) ∙ ap (λ z. z.maker) v ∙ ap (λ z. z.maker) k.class.inside) in
          never (sym k.class.statement ∙ sym (ap (λ (z : Place). is_statement z.node) same) ∙ o.named_by.expression)

      not_declared : (b : Bound) → Known b → b.environment ≡ Inside → ⊥
      not_declared b k v = never (sym (ap (is_made_for environment.Class) v) ∙ no_class b k.plainly)

      -- ---- a declaration

      abbrev NoOwn : Type 0
      NoOwn = (c : Bound) → OwnBound p h x c → c.environment ≡ Inside → ⊥

      symbol_inside : NoOwn → Matches p N (meaning bs E x) → (j : ℕ) → Among j (identifiers_in bs Inside x) → (y : ℕ) × (N ≡ Some y) × (symbol_at (analysis_of p) j ≡ Some y)
      symbol_inside no_own m j a =
          let here_is : IsHere Inside j = is_here p h e numbered x not_arguments clear plain Inside j a in
          elim here_is.there [
            | inl v ↦ elim here_is.known [ inl k ↦ absurd (not_declared here_is.bind k v) | inr o ↦ absurd (no_own here_is.bind o v) ]
            | inr also ↦ around here_is (class_here p h e numbered x not_arguments clear plain Inside here_is.bind here_is.known also)
          ]
        where
          around : (k : IsHere Inside j) → IsClassHere Inside k.bind → (y : ℕ) × (N ≡ Some y) × (symbol_at (analysis_of p) j ≡ Some y)
          around k u =
              let same : u.place ≡ q = entered_once p numbered u.place q u.entered seen.entered (sym (ap (λ z. z.maker) u.class.inside)) in
              let env : k.bind.environment ≡ innermost E = u.class.around ∙ ap (λ r. innermost (environments r.node r.path)) same in
              let first : (k.bind.environment ∷ outside_innermost E) ≡ E = inner_first k.bind env q.path refl in
              let identifier : Among j (identifiers_in bs k.bind.environment x) = subst (λ z. Among z (identifiers_in bs k.bind.environment x)) k.identifier (identifier_here ws x k.bind.environment ws k.bind k.among k.named refl) in
              symbol_around k.bind.environment (outside_innermost E) j identifier (subst (λ es. Matches p N (meaning bs es x)) (sym first) m)

      all_inside : NoOwn → Matches p N (meaning bs E x) → (y : ℕ) → N ≡ Some y → (is : List ℕ) → ((j : ℕ) → Among j is → Among j (identifiers_in bs Inside x)) → AllAre p is y
      all_inside no_own m y g [] f = tt
      all_inside no_own m y g (i ∷ is) f =
          let (z, there, symbol) = symbol_inside no_own m i (f i (inl refl)) in
          (symbol ∙ ap Some (some_is z y (sym there ∙ g)), all_inside no_own m y g is (λ j a. f j (inr a)))

      inside_shows : NoOwn → Matches p N (meaning bs E x) → (i : ℕ) (is : List ℕ) → identifiers_in bs Inside x ≡ i ∷ is → Matches p N (meaning bs (Inside ∷ E) x)
      inside_shows no_own m i is v =
          let (y, there, symbol) = symbol_inside no_own m i (subst (Among i) (sym v) (inl refl)) in
          subst (Matches p N) (sym (meaning_here bs x not_arguments Inside E i is v)) (y, there, all_inside no_own m y there (i ∷ is) (λ j a. subst (Among j) (sym v) a))

      -- ---- the scope

      module _ (s : OpenScope) (o : s.opener ≡ q.node.node_id) (chain : c.chain ≡ s ∷ q.chain) where
        abbrev Answer : Option ℕ
        Answer = get final.bindings s.number x

        opened : IsOpened (openers (steps p)) s
        opened = (subst (AllOpened (openers (steps p))) chain seen_child.opened).0

        entry : slice_get (table_of p) s.number ≡ Some s.body
        entry = (subst (AllInTable (table_of p)) chain seen_child.in_table).0.entry

        abbrev There : Type 0
        There = scopes.IsBoundThere p h e numbered x not_arguments clear plain s opened entry q.node o seen.familiar.node

        there_inside : (v : There) → v.bind.environment ≡ Inside
        there_inside v = environment_is p h e numbered x not_arguments clear plain s opened entry q.node o seen.familiar.node v environment.Class (environment_kind_is v.bind.environment.kind environment.Class (subst (λ a. may_make a v.bind.environment.kind ≡ true) w v.makes))

        unbound_there : (There → ⊥) → Answer ≡ None
        unbound_there n = unanswered p h e numbered x not_arguments clear plain s opened entry q.node o seen.familiar.node (not_taken p numbered q seen.entered open_body s opened o) n

        of_class : (b : Bound) (k : OwnBound p h x b) → b.environment ≡ Inside → is kind.Function k.place.node ≡ false
        of_class b k v = go k.named_by.sort
          where
            go : IsOfExpression k.place.node b.environment → is kind.Function k.place.node ≡ false
            go (inl z) = absurd (never (sym (ap (is_made_for environment.OwnName) z.1) ∙ ap (is_made_for environment.OwnName) v))
            go (inr z) = ap (λ i. same_kind i kind.Function) z.0

        own_symbol_of : (i : ℕ) (k : IsHere Inside i) → OwnBound p h x k.bind → k.bind.environment ≡ Inside → HasSymbol p h e numbered x clear plain s i
        own_symbol_of i k own v = subst (HasSymbol p h e numbered x clear plain s) k.identifier
            (class_symbol p h e numbered x clear plain s opened entry k.bind own (o ∙ sym (ap (λ z. z.maker) v) ∙ own_maker p h x k.bind own) (of_class k.bind own v))

        all_own_inside : (b : Bound) → OwnBound p h x b → b.environment ≡ Inside → (y : ℕ) → Answer ≡ Some y → (is : List ℕ) → ((j : ℕ) → Among j is → Among j (identifiers_in bs Inside x)) → AllAre p is y
        all_own_inside b own v y g [] f = tt
        all_own_inside b own v y g (i ∷ is) f = (one (is_here p h e numbered x not_arguments clear plain Inside i (f i (inl refl))), all_own_inside b own v y g is (λ j a. f j (inr a)))
          where
            one : IsHere Inside i → symbol_at (analysis_of p) i ≡ Some y
            one k = elim k.there [
              | inr also ↦ absurd (not_both k.bind b (class_here p h e numbered x not_arguments clear plain Inside k.bind k.known also) own v)
              | inl z ↦ elim k.known [
                | inl known ↦ absurd (not_declared k.bind known z)
                | inr other ↦ (let u : HasSymbol p h e numbered x clear plain s i = own_symbol_of i k other z in u.is ∙ ap Some (some_is u.symbol y (sym u.bound ∙ g)))
              ]
            ]

        class_shows : Matches p N (meaning bs E x) → Matches p (or_else Answer N) (meaning bs (Inside ∷ E) x)
        class_shows m = go (identifiers_in bs Inside x) refl
          where
            around : Answer ≡ None → (n : Meaning) → Matches p N n → Matches p (or_else Answer N) n
            around g n k = further p h e numbered x not_arguments clear plain s opened entry q.node o seen.familiar.node N n g k

            by : (i : ℕ) (is : List ℕ) → identifiers_in bs Inside x ≡ i ∷ is → IsHere Inside i → Matches p (or_else Answer N) (meaning bs (Inside ∷ E) x)
            by i is v k = elim k.there [
              | inr also ↦ (let declared : IsClassHere Inside k.bind = class_here p h e numbered x not_arguments clear plain Inside k.bind k.known also in
                  around (unbound_there (λ z. elim z.known [ inl known ↦ not_declared z.bind known (there_inside z) | inr own ↦ not_both k.bind z.bind declared own (there_inside z) ]))
                  (meaning bs (Inside ∷ E) x) (inside_shows (λ b own z. not_both k.bind b declared own z) m i is v))
              | inl z ↦ elim k.known [
                | inl known ↦ absurd (not_declared k.bind known z)
                | inr own ↦ (let u : HasSymbol p h e numbered x clear plain s i = own_symbol_of i k own z in
                    subst (Matches p (or_else Answer N)) (sym (meaning_here bs x not_arguments Inside E i is v))
                    (u.symbol, ap (λ t. or_else t N) u.bound, all_own_inside k.bind own z u.symbol u.bound (i ∷ is) (λ j a. subst (Among j) (sym v) a)))
              ]
            ]

            go : (is : List ℕ) → identifiers_in bs Inside x ≡ is → Matches p (or_else Answer N) (meaning bs (Inside ∷ E) x)
            go [] v = subst (Matches p (or_else Answer N)) (sym (meaning_further bs x not_arguments Inside E v))
                (around (unbound_there (λ z. none_there p h e numbered x not_arguments clear plain s opened entry q.node o seen.familiar.node Inside v z (there_inside z))) (meaning bs E x) m)
            go (i ∷ is) v = by i is v (is_here p h e numbered x not_arguments clear plain Inside i (subst (Among i) (sym v) (inl refl)))

      class_round : (chain : List OpenScope) → c.chain ≡ chain → ChainOf q.node.kind c.role q.node q.chain chain → Shows chain (Inside ∷ [])
      class_round _ v (outer_chain i) = absurd (never (sym (ap not seen_child.familiar.undecorated) ∙ subst (λ a. is_inside a c.role ≡ false) w i))
      class_round _ v (inner_chain s i o j _) = seen_by s o j v (Inside ∷ []) (λ last m. class_shows s o v m) (λ header fits m. absurd (never (sym header ∙ j ∙ ap (λ a. is_in_header a c.role) w)))

    class_case : q.node.kind ≡ kind.Class → ChainOf q.node.kind c.role q.node q.chain c.chain → Shows c.chain (made_by kind.Class q.node c.node)
    class_case w t = by (is kind.Decorator c.node) refl
      where
        by : (b : Bool) → is kind.Decorator c.node ≡ b → Shows c.chain (cond b [] (record { kind = environment.Class; maker = q.node.node_id } ∷ []))
        by true v = none_case kind.Class w (ap (λ b. cond b [] (record { kind = environment.Class; maker = q.node.node_id } ∷ [])) v) t
        by false v = class_round w c.chain refl t

    -- what a clause holds besides its body stands in its header
    clause_case : q.node.kind ≡ kind.CatchClause → ChainOf q.node.kind c.role q.node q.chain c.chain → Shows c.chain (made_by kind.CatchClause q.node c.node)
    clause_case w t = go c.chain refl t
      where
        go : (chain : List OpenScope) → c.chain ≡ chain → ChainOf q.node.kind c.role q.node q.chain chain → Shows chain (made_by kind.CatchClause q.node c.node)
        go _ v (outer_chain i) = absurd (never (subst (λ a. is_inside a c.role ≡ false) w i))
        go _ v (inner_chain s i o j _) =
            let clausal : StandsInClause (node_at p) c s = subst (λ l. StandsInClause (node_at p) c (place.innermost l)) v seen_child.clausal.stands in
            elim (clausal q.node (ap (node_at p) o ∙ seen.familiar.node) w) [
              | inl header ↦ seen_by s o j v (record { kind = environment.Catch; maker = q.node.node_id } ∷ []) (λ last m. absurd (never (sym header ∙ last))) (λ u fits m. clause_header s o j v u w m)
              | inr body ↦ absurd (never (sym body ∙ open_child))
            ]

    with_case : q.node.kind ≡ kind.WithStatement → ChainOf q.node.kind c.role q.node q.chain c.chain → Shows c.chain (made_by kind.WithStatement q.node c.node)
    with_case w t = by (is_body_of_with c.node) refl
      where
        by : (b : Bool) → is_body_of_with c.node ≡ b → Shows c.chain (cond b (record { kind = environment.Object; maker = q.node.node_id } ∷ []) [])
        by true v = one_case kind.WithStatement environment.Object w (ap (λ b. cond b (record { kind = environment.Object; maker = q.node.node_id } ∷ []) []) v) (λ m. refl) (λ j y. environment_kind_is j environment.Object y) (refl, refl, refl) (λ u. absurd (never (sym u))) t
        by false v = none_case kind.WithStatement w (ap (λ b. cond b (record { kind = environment.Object; maker = q.node.node_id } ∷ []) []) v) t

    by_kind : (k : AstType) → q.node.kind ≡ k → ChainOf q.node.kind c.role q.node q.chain c.chain → Shows c.chain (made_by k q.node c.node)
    by_kind kind.Program w t = one_case kind.Program environment.Global w refl (λ m. refl) (λ j y. environment_kind_is j environment.Global y) (refl, refl, refl) (λ u. absurd (never (sym u))) t
    by_kind kind.Function w t = function_case w t
    by_kind kind.ArrowFunctionExpression w t = arrow_case w t
    by_kind kind.StaticBlock w t = one_case kind.StaticBlock environment.StaticBlock w refl (λ m. refl) (λ j y. environment_kind_is j environment.StaticBlock y) (refl, refl, refl) (λ u. absurd (never (sym u))) t
    by_kind kind.BlockStatement w t = one_case kind.BlockStatement environment.Block w refl (λ m. refl) (λ j y. environment_kind_is j environment.Block y) (refl, refl, refl) (λ u. absurd (never (sym u))) t
    by_kind kind.SwitchStatement w t = switch_case w t
    by_kind kind.IfStatement w t = if_case w t
    by_kind kind.ForStatement w t = one_case kind.ForStatement environment.Loop w refl (λ m. refl) (λ j y. environment_kind_is j environment.Loop y) (refl, refl, refl) (λ u. absurd (never (sym u))) t
    by_kind kind.ForInStatement w t = one_case kind.ForInStatement environment.Loop w refl (λ m. refl) (λ j y. environment_kind_is j environment.Loop y) (refl, refl, refl) (λ u. absurd (never (sym u))) t
    by_kind kind.ForOfStatement w t = one_case kind.ForOfStatement environment.Loop w refl (λ m. refl) (λ j y. environment_kind_is j environment.Loop y) (refl, refl, refl) (λ u. absurd (never (sym u))) t
    by_kind kind.CatchClause w t = clause_case w t
    by_kind kind.Class w t = class_case w t
    by_kind kind.WithStatement w t = with_case w t
    by_kind _ w t = none_case _ w refl t

  module _ (q c : Place) (seen : IsSeen p q) (seen_child : IsSeen p c) (path : c.path ≡ q.node ∷ q.path) (well : stands_well q.node.kind c.role c.node.kind [] ≡ true) (heads : heads_parameters q.node.kind c.role c.node.kind [] ≡ true) (no_identifier : is kind.BindingIdentifier c.node ≡ false) (t : ChainOf q.node.kind c.role q.node q.chain c.chain) where
    under_clause : is_catch_body c ≡ true → is kind.CatchClause q.node ≡ true
    under_clause w = subst (λ l. parent_holds (is kind.CatchClause) l ≡ true) path (and_second (is kind.BlockStatement c.node && same_role c.role role.Body) (parent_holds (is kind.CatchClause) c.path) w)

    -- in a clause the body's scope is the clause's
    clause_chain : (body : is_catch_body c ≡ true) → c.chain ≡ (seen_child.clausal.body body).clause ∷ q.chain
    clause_chain body = go c.chain refl t
      where
        heads_are : (s z : OpenScope) (ss zs : List OpenScope) → s ∷ ss ≡ z ∷ zs → s ≡ z
        heads_are s z ss zs i = cc

        go : (chain : List OpenScope) → c.chain ≡ chain → ChainOf q.node.kind c.role q.node q.chain chain → c.chain ≡ (seen_child.clausal.body body).clause ∷ q.chain
        go _ v (outer_chain i) = absurd (never (subst (λ a. is_inside a c.role ≡ false) (kind_is q.node.kind kind.CatchClause (under_clause body)) i))
        go _ v (inner_chain s i o j _) = v ∙ ap (λ z. z ∷ q.chain) (heads_are s (seen_child.clausal.body body).clause q.chain (seen_child.clausal.body body).round (sym v ∙ (seen_child.clausal.body body).chain))

    child_agrees : AgreesBy p x (is_catch_body q) q → AgreesBy p x (is_catch_body c) c
    child_agrees agree = by (is_catch_body q) refl agree
      where
        no_clause : is_catch_body q ≡ true → is kind.CatchClause q.node ≡ false
        no_clause k = ap (λ a. same_kind a kind.CatchClause) (body_kind q k)

        in_open : (u : Bool) → is_catch_body c ≡ u → is_catch_body q ≡ false → Agrees p x q → AgreesBy p x u c
        in_open true w k a = round_child p h e numbered x not_arguments clear plain q c a (seen_child.clausal.body w) path (clause_chain w) (under_clause w)
        in_open false w k a = λ i. subst (λ l. Matches p (nearest_symbol final es x c.chain) (meaning bs (environments c.node l) x)) (sym path)
            (by_kind q c a k seen seen_child path well heads no_identifier w q.node.kind refl t (subst (StandsInExpressions ws x c.node) path i))

        in_closed : (u : Bool) → is_catch_body c ≡ u → is_catch_body q ≡ true → AgreesRound p x q → AgreesBy p x u c
        in_closed true w k a = absurd (never (sym (under_clause w) ∙ no_clause k))
        in_closed false w k a = body_agrees p h e numbered x not_arguments clear plain q c a k seen seen_child path t

        by : (u : Bool) → is_catch_body q ≡ u → AgreesBy p x u q → AgreesBy p x (is_catch_body c) c
        by true k a = in_closed (is_catch_body c) refl k a
        by false k a = in_open (is_catch_body c) refl k a

  -- ---- all places

  agree_steps : (q : Place) (own : Option OpenScope) (n cursor : ℕ) (f : Forest) → (is kind.BindingIdentifier q.node ≡ false → AgreesBy p x (is_catch_body q) q) → IsSeen p q → OwnOf q own → holds_below heads_parameters q.node.kind f ≡ true → EachStep (SeenAt p) (steps_below q own n cursor f) → EachStep (AgreesAt p x) (steps_below q own n cursor f)
  agree_steps q own n cursor nothing agree seen o heads k = last_case (EachStep (AgreesAt p x)) q own n tt (tt, (tt, tt))
  agree_steps q own n cursor (tree r k2 span text marks below id after) agree seen o heads k =
      let node : Node = record { kind = k2; span = span; text = text; marks = marks; children = below; node_id = id } in
      let turn : Turn = turn_at q own n cursor r node after in
      let sees : EachOfTurn (SeenAt p) turn = turn_of_each (SeenAt p) turn k in
      let child_seen : IsSeen p turn.child = sees.whole.0 in
      let well : stands_well q.node.kind r k2 [] ≡ true = child_seen.familiar.stands in
      let head : heads_parameters q.node.kind r k2 text ≡ true = and_first (heads_parameters q.node.kind r k2 text) (holds_below heads_parameters k2 below && holds_below heads_parameters q.node.kind after) heads in
      let more : (holds_below heads_parameters k2 below && holds_below heads_parameters q.node.kind after) ≡ true = and_second (heads_parameters q.node.kind r k2 text) (holds_below heads_parameters k2 below && holds_below heads_parameters q.node.kind after) heads in
      let no_identifier : is kind.BindingIdentifier q.node ≡ false = not-true (same_kind q.node.kind kind.BindingIdentifier) (and_first (not (same_kind q.node.kind kind.BindingIdentifier)) _ well) in
      let o_scope : OwnOf q turn.scope = own_of q r own n o in
      let chain : ChainOf q.node.kind r q.node q.chain turn.child.chain = chain_of q r turn.scope cursor node (no_decorator q.node.kind r child_seen.familiar.undecorated) (is_open_inside q r own n) o_scope in
      let child : is kind.BindingIdentifier node ≡ false → AgreesBy p x (is_catch_body turn.child) turn.child = λ i. child_agrees q turn.child seen child_seen refl well head i chain (agree no_identifier) in
      each_of_turn (AgreesAt p x) turn (record {
        before = opening_case (EachStep (AgreesAt p x)) q r own n tt (tt, tt);
        whole = each_of_node (AgreesAt p x) turn.child turn.below child (agree_steps turn.child None turn.next turn.inner below child child_seen tt (and_first (holds_below heads_parameters k2 below) (holds_below heads_parameters q.node.kind after) more) (each_left (SeenAt p) turn.below (leaving turn.child ∷ []) sees.whole.1)) tt;
        behind = ending_case (EachStep (AgreesAt p x)) q r turn.scope after tt (λ s. (tt, tt)) (λ s. (tt, tt)) (λ s. (tt, (tt, tt)));
        others = agree_steps q turn.scope turn.rest turn.past after agree seen o_scope (and_second (holds_below heads_parameters k2 below) (holds_below heads_parameters q.node.kind after) more) sees.others;
      })

  pub agree_program : EachStep (AgreesAt p x) (steps p)
  agree_program =
      let root : Place = root_place p in
      let n : ℕ = on_entering p.root.kind 0 in
      let below : List Step = steps_below root None 0 n p.root.children in
      let all : EachStep (SeenAt p) (steps p) = seen_program p h e numbered in
      let first : is_catch_body root ≡ false = and_false (is kind.BlockStatement p.root && same_role role.Root role.Body) in
      let one : is kind.BindingIdentifier p.root ≡ false → AgreesBy p x (is_catch_body root) root = λ i. subst (λ b. AgreesBy p x b root) (sym first) (λ j. refl) in
      each_of_node (AgreesAt p x) root below one (agree_steps root None 0 n p.root.children one all.0 tt (tree_heads p h) (each_left (SeenAt p) below (leaving root ∷ []) all.1)) tt
