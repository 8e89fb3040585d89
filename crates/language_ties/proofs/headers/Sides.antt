-- Whether the scope where a declaration ends is seen from the header of its function, told by the environment that binds its name.
use Rattle.std.proofs.Common.{◌≡◌, ℕ, List, [], ◌∷◌, ◌++◌, Option, Some, None, Bool, true, false, ◌&&◌, ◌||◌, not, cond, map, refl, sym, ap, subst, ◌∙◌}
use Rattle.std.proofs.lemmas.Bool.{not-true}
use Rattle.semantic_syntax.proofs.Truth.{and_first, and_second}
use Rattle.semantic_kinds.specs.Kinds.{same_kind}
use Rattle.semantic_kinds.specs.declared.kind.AstType.{AstType}
use Rattle.semantic_kinds.specs.declared.kind.AstType.TheVariants as kind
use Rattle.semantic_tree.specs.Faults.{first_fault}
use Rattle.semantic_tree.specs.Forest.{Forest, nothing, tree}
use Rattle.semantic_tree.specs.Tree.{Tree, IsNumbered}
use Rattle.semantic_tree.specs.Views.{is}
use Rattle.semantic_tree.specs.declared.node.Node.{Node}
use Rattle.semantic_model.specs.Binder.{is_statement, is_var}
use Rattle.semantic_model.specs.Cursor.{on_entering}
use Rattle.semantic_model.specs.Declaration.{first_with}
use Rattle.semantic_model.specs.EachStep.{EachStep}
use Rattle.semantic_model.specs.Inside.{is_inside, is_in_header}
use Rattle.semantic_model.specs.Place as place
use Rattle.semantic_model.specs.Place.{Place, OpenScope}
use Rattle.semantic_model.specs.Step.{Step, entering, opening, header_ending, closing, leaving, steps_below, steps, root_place}
use Rattle.semantic_model.proofs.form.Clauses.{kind_is}
use Rattle.semantic_model.proofs.form.ParameterChains.{is_open_inside}
use Rattle.semantic_model.proofs.steps.EachStep.{EachOfTurn, each_left, each_of_node, each_of_turn, turn_of_each}
use Rattle.semantic_model.proofs.steps.Turn.{Turn, turn_at}
use Rattle.semantic_model.proofs.steps.TurnCases.{opening_case, ending_case, last_case}
use Rattle.walk_model.proofs.places.Shapes.{holds_below}
use Rattle.binding_laws.proofs.ChildChains.{ChainOf, outer_chain, inner_chain, OwnOf, own_of, no_decorator, chain_of}
use Rattle.binding_laws.proofs.SmallLaws.{never, cons_self}
use Rattle.language_ties.specs.EcmaScript.{is_ecmascript}
use Rattle.language_ties.specs.Environments.{Environment, is_made_for, is_outside_body, has_parameter_expressions, is_body_of_with, made_by, environments, innermost, takes_variables, first_taking}
use Rattle.language_ties.specs.Scopes.{Maker, maker_of_scope, maker_of_environment, has_scope, makers}
use Rattle.language_ties.specs.declared.environment_kind.EnvironmentKind.{EnvironmentKind}
use Rattle.language_ties.specs.declared.environment_kind.EnvironmentKind.TheVariants as environment
use Rattle.language_ties.proofs.EnvironmentsRound.{IsKnown, KnownAt, known_program}
use Rattle.language_ties.proofs.agree.FamiliarPlaces.{stands_well, is_function_kind, IsFamiliar, FamiliarAt, familiar_program}
use Rattle.language_ties.proofs.agree.KnownNodes.{node_at}
use Rattle.language_ties.proofs.headers.HeaderShape.{heads_parameters, tree_heads, header_list}

first_maker_is : (m n : Maker) (ms ns : List Maker) → m ∷ ms ≡ n ∷ ns → m ≡ n
first_maker_is m n ms ns h = cc

-- of the parameters of a function
abbrev pub is_parameters : Environment → Bool
is_parameters d = is_made_for environment.Parameters d || is_made_for environment.ArrowParameters d

-- what stands in the header is bound by no environment of the body, and where a body has one, what the parameters' binds stands in the header
pub record Side (g : ℕ → Option Node) (s : OpenScope) (d : Environment) : Type 0 where
  pub outside : s.in_header ≡ true → is_made_for environment.Body d ≡ false
  pub inside : is_parameters d ≡ true → ((f : Node) → g d.maker ≡ Some f → has_parameter_expressions f ≡ true) → s.in_header ≡ true

abbrev pub TakingSide : (ℕ → Option Node) → Option OpenScope → Option Environment → Type 0
TakingSide g (Some s) (Some d) = Side g s d
TakingSide g None None = Unit {0}
TakingSide g None (Some d) = ⊥
TakingSide g (Some s) None = ⊥

-- so it is with the innermost, and where variables go
pub record Sides (g : ℕ → Option Node) (chain : List OpenScope) (ds : List Environment) : Type 0 where
  pub inner : Side g (place.innermost chain) (innermost ds)
  pub taking : TakingSide g (first_with is_var chain) (first_taking ds)

module _ (g : ℕ → Option Node) where
  apart_side : (s : OpenScope) (d : Environment) → is_made_for environment.Body d ≡ false → is_parameters d ≡ false → Side g s d
  apart_side s d b v = record { outside = λ h. b; inside = λ h f. absurd (never (sym h ∙ v)) }

  -- one scope more, of an environment that is neither
  one_sides : (s : OpenScope) (d : Environment) (chain : List OpenScope) (ds : List Environment) → is_made_for environment.Body d ≡ false → is_parameters d ≡ false → is_var s ≡ takes_variables d → Sides g chain ds → Sides g (s ∷ chain) (d ∷ ds)
  one_sides s d chain ds b v same h = record { inner = apart_side s d b v; taking = go (is_var s) (takes_variables d) same }
    where
      go : (x y : Bool) → x ≡ y → TakingSide g (cond x (Some s) (first_with is_var chain)) (cond y (Some d) (first_taking ds))
      go true true q = apart_side s d b v
      go false false q = h.taking
      go true false q = absurd cc
      go false true q = absurd cc

  -- an environment without a scope
  no_scope_sides : (d : Environment) (chain : List OpenScope) (ds : List Environment) → is_made_for environment.Body d ≡ false → is_parameters d ≡ false → takes_variables d ≡ false → Sides g chain ds → Sides g chain (d ∷ ds)
  no_scope_sides d chain ds b v same h = record {
    inner = apart_side (place.innermost chain) d b v;
    taking = subst (λ y. TakingSide g (first_with is_var chain) (cond y (Some d) (first_taking ds))) (sym same) h.taking;
  }

  -- a function's
  taking_sides : (s : OpenScope) (d : Environment) (chain : List OpenScope) (ds : List Environment) → Side g s d → is_var s ≡ true → takes_variables d ≡ true → Sides g (s ∷ chain) (d ∷ ds)
  taking_sides s d chain ds h a b = record {
    inner = h;
    taking = subst (λ y. TakingSide g (cond y (Some s) (first_with is_var chain)) (cond (takes_variables d) (Some d) (first_taking ds))) (sym a)
        (subst (λ y. TakingSide g (Some s) (cond y (Some d) (first_taking ds))) (sym b) h);
  }

  -- ---- a child of a place

  abbrev HasSides : Place → Type 0
  HasSides q = Sides g q.chain (environments q.node q.path)

  module _ (q c : Place) (path : c.path ≡ q.node ∷ q.path) (known : IsKnown q) (known_child : IsKnown c) (familiar : IsFamiliar g q)
      (well : stands_well q.node.kind c.role c.node.kind [] ≡ true) (heads : heads_parameters q.node.kind c.role c.node.kind [] ≡ true) (no_identifier : is kind.BindingIdentifier c.node ≡ false) (before : HasSides q) where
    abbrev E : List Environment
    E = environments q.node q.path

    outer_round : map maker_of_scope q.chain ≡ makers E
    outer_round = known.round

    round : (k : AstType) → q.node.kind ≡ k → map maker_of_scope c.chain ≡ makers (made_by k q.node c.node ++ E)
    round k w = known_child.round ∙ ap (λ l. makers (environments c.node l)) path ∙ ap (λ j. makers (made_by j q.node c.node ++ E)) w

    -- the parent makes none
    none_case : map maker_of_scope c.chain ≡ makers E → ChainOf q.node.kind c.role q.node q.chain c.chain → Sides g c.chain E
    none_case m t = go c.chain refl t
      where
        go : (chain : List OpenScope) → c.chain ≡ chain → ChainOf q.node.kind c.role q.node q.chain chain → Sides g chain E
        go _ v (outer_chain i) = before
        go _ v (inner_chain s i o j _) = absurd (cons_self (maker_of_scope s) (makers E) (ap (λ ms. maker_of_scope s ∷ ms) (sym outer_round) ∙ ap (map maker_of_scope) (sym v) ∙ m))

    -- or one with a scope, of no function
    one_case : (d : Environment) → is_made_for environment.Body d ≡ false → is_parameters d ≡ false → map maker_of_scope c.chain ≡ maker_of_environment d ∷ makers E → ChainOf q.node.kind c.role q.node q.chain c.chain → Sides g c.chain (d ∷ E)
    one_case d b p m t = go c.chain refl t
      where
        go : (chain : List OpenScope) → c.chain ≡ chain → ChainOf q.node.kind c.role q.node q.chain chain → Sides g chain (d ∷ E)
        go _ v (outer_chain i) = absurd (cons_self (maker_of_environment d) (makers E) (sym m ∙ ap (map maker_of_scope) v ∙ outer_round))
        go _ v (inner_chain s i o j _) =
            let same : maker_of_scope s ≡ maker_of_environment d = first_maker_is (maker_of_scope s) (maker_of_environment d) (map maker_of_scope q.chain) (makers E) (ap (map maker_of_scope) (sym v) ∙ m) in
            one_sides s d q.chain E b p (ap (λ z. z.takes_variables) same) before

    -- ---- functions

    flipped : (a b : AstType) → same_kind a b ≡ true → same_kind b a ≡ true
    flipped a b w = subst (λ k. same_kind k a ≡ true) (kind_is a b w) (subst (λ k. same_kind a k ≡ true) (sym (kind_is a b w)) w)

    -- what stands in a function's header stands outside of its body, and what stands outside of its body in its header
    list_outside : same_kind c.node.kind kind.FormalParameters ≡ true → is_outside_body c.node ≡ true
    list_outside h = subst (λ b. (same_kind kind.BindingIdentifier c.node.kind || (b || false)) ≡ true) (sym (flipped c.node.kind kind.FormalParameters h)) (go (same_kind kind.BindingIdentifier c.node.kind))
      where
        go : (a : Bool) → (a || (true || false)) ≡ true
        go true = refl
        go false = refl

    outside_list : is_outside_body c.node ≡ true → same_kind c.node.kind kind.FormalParameters ≡ true
    outside_list w = go (same_kind kind.BindingIdentifier c.node.kind) (same_kind kind.FormalParameters c.node.kind) refl refl w
      where
        go : (a b : Bool) → same_kind kind.BindingIdentifier c.node.kind ≡ a → same_kind kind.FormalParameters c.node.kind ≡ b → (a || (b || false)) ≡ true → same_kind c.node.kind kind.FormalParameters ≡ true
        go true b i j v = absurd (never (sym (flipped kind.BindingIdentifier c.node.kind i) ∙ no_identifier))
        go false true i j v = flipped kind.FormalParameters c.node.kind j
        go false false i j v = absurd cc

    header_outside : is_function_kind q.node.kind ≡ true → is_in_header q.node.kind c.role ≡ true → is_outside_body c.node ≡ true
    header_outside f i = list_outside (header_list q.node.kind c.role c.node.kind [] heads known_child.ecmascript f i)

    outside_header : is_function_kind q.node.kind ≡ true → is_outside_body c.node ≡ true → is_in_header q.node.kind c.role ≡ true
    outside_header f w =
        let stands : (not (is_function_kind q.node.kind && same_kind c.node.kind kind.FormalParameters) || is_in_header q.node.kind c.role) ≡ true = and_second (not (same_kind q.node.kind kind.BindingIdentifier)) (not (is_function_kind q.node.kind && same_kind c.node.kind kind.FormalParameters) || is_in_header q.node.kind c.role) well in
        rw (f, outside_list w) at stands

    module _ (s : OpenScope) (header : s.in_header ≡ is_in_header q.node.kind c.role) (f : is_function_kind q.node.kind ≡ true) where
      -- round the body
      body_side : is_outside_body c.node ≡ false → Side g s (record { kind = environment.Body; maker = q.node.node_id })
      body_side w = record {
        outside = λ i. absurd (never (sym (header_outside f (sym header ∙ i)) ∙ w));
        inside = λ i. absurd (never (sym i));
      }

      -- round the parameters, or round a body without an environment of its own
      parameters_side : (k : EnvironmentKind) → is_made_for environment.Body (record { kind = k; maker = q.node.node_id }) ≡ false → (not (is_outside_body c.node) && has_parameter_expressions q.node) ≡ false → Side g s (record { kind = k; maker = q.node.node_id })
      parameters_side k b none = record {
        outside = λ i. b;
        inside = λ i expressions. header ∙ outside_header f (go (is_outside_body c.node) (has_parameter_expressions q.node) none (expressions q.node familiar.node));
      }
        where
          go : (x y : Bool) → (not x && y) ≡ false → y ≡ true → x ≡ true
          go true y w v = refl
          go false true w v = absurd cc
          go false false w v = absurd cc

      function_sides : (k : EnvironmentKind) (ds : List Environment) → is_made_for environment.Body (record { kind = k; maker = q.node.node_id }) ≡ false → takes_variables (record { kind = k; maker = q.node.node_id }) ≡ true → is_var s ≡ true
          → (b : Bool) → (not (is_outside_body c.node) && has_parameter_expressions q.node) ≡ b → Sides g (s ∷ q.chain) ((cond b (record { kind = environment.Body; maker = q.node.node_id } ∷ []) [] ++ record { kind = k; maker = q.node.node_id } ∷ ds) ++ E)
      function_sides k ds n takes var true w =
          let out : is_outside_body c.node ≡ false = not-true (is_outside_body c.node) (and_first (not (is_outside_body c.node)) (has_parameter_expressions q.node) w) in
          taking_sides s (record { kind = environment.Body; maker = q.node.node_id }) q.chain (record { kind = k; maker = q.node.node_id } ∷ (ds ++ E)) (body_side out) var refl
      function_sides k ds n takes var false w = taking_sides s (record { kind = k; maker = q.node.node_id }) q.chain (ds ++ E) (parameters_side k n w) var takes

    -- the first maker of a function takes variables
    one_taker : (k : EnvironmentKind) (ds : List Environment) → has_scope (record { kind = k; maker = q.node.node_id }) ≡ true → takes_variables (record { kind = k; maker = q.node.node_id }) ≡ true → (s : OpenScope) → map maker_of_scope (s ∷ q.chain) ≡ makers (record { kind = k; maker = q.node.node_id } ∷ ds) → is_var s ≡ true
    one_taker k ds scoped takes s m =
        let d : Environment = record { kind = k; maker = q.node.node_id } in
        let there : maker_of_scope s ∷ map maker_of_scope q.chain ≡ maker_of_environment d ∷ makers ds = m ∙ ap (λ b. cond b (maker_of_environment d ∷ makers ds) (makers ds)) scoped in
        ap (λ z. z.takes_variables) (first_maker_is (maker_of_scope s) (maker_of_environment d) (map maker_of_scope q.chain) (makers ds) there) ∙ takes

    function_taker : (b : Bool) (k : EnvironmentKind) (ds : List Environment) → has_scope (record { kind = k; maker = q.node.node_id }) ≡ true → takes_variables (record { kind = k; maker = q.node.node_id }) ≡ true → (s : OpenScope) → map maker_of_scope (s ∷ q.chain) ≡ makers ((cond b (record { kind = environment.Body; maker = q.node.node_id } ∷ []) [] ++ record { kind = k; maker = q.node.node_id } ∷ ds) ++ E) → is_var s ≡ true
    function_taker true k ds scoped takes s m = one_taker k (ds ++ E) scoped takes s m
    function_taker false k ds scoped takes s m = one_taker k (ds ++ E) scoped takes s m

    function_case : q.node.kind ≡ kind.Function → ChainOf q.node.kind c.role q.node q.chain c.chain → Sides g c.chain (made_by kind.Function q.node c.node ++ E)
    function_case w t = go c.chain refl t
      where
        go : (chain : List OpenScope) → c.chain ≡ chain → ChainOf q.node.kind c.role q.node q.chain chain → Sides g chain (made_by kind.Function q.node c.node ++ E)
        go _ v (outer_chain i) = absurd (never (subst (λ a. is_inside a c.role ≡ false) w i))
        go _ v (inner_chain s i o j _) =
            let outside_and : Bool = not (is_outside_body c.node) && has_parameter_expressions q.node in
            function_sides s j (subst (λ a. is_function_kind a ≡ true) (sym w) refl) environment.Parameters (record { kind = environment.OwnName; maker = q.node.node_id } ∷ []) refl refl
            (function_taker outside_and environment.Parameters (record { kind = environment.OwnName; maker = q.node.node_id } ∷ []) refl refl s (ap (map maker_of_scope) (sym v) ∙ round kind.Function w)) outside_and refl

    arrow_case : q.node.kind ≡ kind.ArrowFunctionExpression → ChainOf q.node.kind c.role q.node q.chain c.chain → Sides g c.chain (made_by kind.ArrowFunctionExpression q.node c.node ++ E)
    arrow_case w t = go c.chain refl t
      where
        go : (chain : List OpenScope) → c.chain ≡ chain → ChainOf q.node.kind c.role q.node q.chain chain → Sides g chain (made_by kind.ArrowFunctionExpression q.node c.node ++ E)
        go _ v (outer_chain i) = absurd (never (subst (λ a. is_inside a c.role ≡ false) w i))
        go _ v (inner_chain s i o j _) =
            let outside_and : Bool = not (is_outside_body c.node) && has_parameter_expressions q.node in
            function_sides s j (subst (λ a. is_function_kind a ≡ true) (sym w) refl) environment.ArrowParameters [] refl refl
            (function_taker outside_and environment.ArrowParameters [] refl refl s (ap (map maker_of_scope) (sym v) ∙ round kind.ArrowFunctionExpression w)) outside_and refl

    -- ---- kind by kind

    switch_case : (b : Bool) → map maker_of_scope c.chain ≡ makers (cond b (record { kind = environment.Block; maker = q.node.node_id } ∷ []) [] ++ E) → ChainOf q.node.kind c.role q.node q.chain c.chain → Sides g c.chain (cond b (record { kind = environment.Block; maker = q.node.node_id } ∷ []) [] ++ E)
    switch_case true m t = one_case (record { kind = environment.Block; maker = q.node.node_id }) refl refl m t
    switch_case false m t = none_case m t

    class_case : (b : Bool) → map maker_of_scope c.chain ≡ makers (cond b [] (record { kind = environment.Class; maker = q.node.node_id } ∷ []) ++ E) → ChainOf q.node.kind c.role q.node q.chain c.chain → Sides g c.chain (cond b [] (record { kind = environment.Class; maker = q.node.node_id } ∷ []) ++ E)
    class_case true m t = none_case m t
    class_case false m t = one_case (record { kind = environment.Class; maker = q.node.node_id }) refl refl m t

    if_case : (b : Bool) → map maker_of_scope c.chain ≡ makers (cond b (record { kind = environment.IfBody; maker = c.node.node_id } ∷ []) [] ++ E) → ChainOf q.node.kind c.role q.node q.chain c.chain → Sides g c.chain (cond b (record { kind = environment.IfBody; maker = c.node.node_id } ∷ []) [] ++ E)
    if_case true m t = no_scope_sides (record { kind = environment.IfBody; maker = c.node.node_id }) c.chain E refl refl refl (none_case m t)
    if_case false m t = none_case m t

    with_case : (b : Bool) → map maker_of_scope c.chain ≡ makers (cond b (record { kind = environment.Object; maker = q.node.node_id } ∷ []) [] ++ E) → ChainOf q.node.kind c.role q.node q.chain c.chain → Sides g c.chain (cond b (record { kind = environment.Object; maker = q.node.node_id } ∷ []) [] ++ E)
    with_case true m t = one_case (record { kind = environment.Object; maker = q.node.node_id }) refl refl m t
    with_case false m t = none_case m t

    by_kind : (k : AstType) → q.node.kind ≡ k → ChainOf q.node.kind c.role q.node q.chain c.chain → Sides g c.chain (made_by k q.node c.node ++ E)
    by_kind kind.Program w t = one_case (record { kind = environment.Global; maker = q.node.node_id }) refl refl (round kind.Program w) t
    by_kind kind.Function w t = function_case w t
    by_kind kind.ArrowFunctionExpression w t = arrow_case w t
    by_kind kind.StaticBlock w t = one_case (record { kind = environment.StaticBlock; maker = q.node.node_id }) refl refl (round kind.StaticBlock w) t
    by_kind kind.BlockStatement w t = one_case (record { kind = environment.Block; maker = q.node.node_id }) refl refl (round kind.BlockStatement w) t
    by_kind kind.SwitchStatement w t = switch_case (is kind.SwitchCase c.node) (round kind.SwitchStatement w) t
    by_kind kind.IfStatement w t = if_case (is kind.Function c.node && is_statement c.node) (round kind.IfStatement w) t
    by_kind kind.ForStatement w t = one_case (record { kind = environment.Loop; maker = q.node.node_id }) refl refl (round kind.ForStatement w) t
    by_kind kind.ForInStatement w t = one_case (record { kind = environment.Loop; maker = q.node.node_id }) refl refl (round kind.ForInStatement w) t
    by_kind kind.ForOfStatement w t = one_case (record { kind = environment.Loop; maker = q.node.node_id }) refl refl (round kind.ForOfStatement w) t
    by_kind kind.CatchClause w t = one_case (record { kind = environment.Catch; maker = q.node.node_id }) refl refl (round kind.CatchClause w) t
    by_kind kind.Class w t = class_case (is kind.Decorator c.node) (round kind.Class w) t
    by_kind kind.WithStatement w t = with_case (is_body_of_with c.node) (round kind.WithStatement w) t
    by_kind _ w t = none_case (round _ w) t

    child_sides : ChainOf q.node.kind c.role q.node q.chain c.chain → HasSides c
    child_sides t = subst (λ l. Sides g c.chain (environments c.node l)) (sym path) (by_kind q.node.kind refl t)

  -- ---- all places

  abbrev pub SidesAt : Step → Type 0
  SidesAt (entering q) = is kind.BindingIdentifier q.node ≡ false → HasSides q
  SidesAt (opening q o) = Unit {0}
  SidesAt (header_ending q o) = Unit {0}
  SidesAt (closing q o) = Unit {0}
  SidesAt (leaving q) = Unit {0}

  sides_steps : (q : Place) (own : Option OpenScope) (n cursor : ℕ) (f : Forest) → (is kind.BindingIdentifier q.node ≡ false → HasSides q) → IsKnown q → IsFamiliar g q → OwnOf q own → holds_below heads_parameters q.node.kind f ≡ true
      → EachStep KnownAt (steps_below q own n cursor f) → EachStep (FamiliarAt g) (steps_below q own n cursor f) → EachStep SidesAt (steps_below q own n cursor f)
  sides_steps q own n cursor nothing before known familiar o heads a b = last_case (EachStep SidesAt) q own n tt (tt, (tt, tt))
  sides_steps q own n cursor (tree r k2 span text marks below id after) before known familiar o heads a b =
      let node : Node = record { kind = k2; span = span; text = text; marks = marks; children = below; node_id = id } in
      let turn : Turn = turn_at q own n cursor r node after in
      let knows : EachOfTurn KnownAt turn = turn_of_each KnownAt turn a in
      let sees : EachOfTurn (FamiliarAt g) turn = turn_of_each (FamiliarAt g) turn b in
      let child_known : IsKnown turn.child = knows.whole.0 in
      let child_familiar : IsFamiliar g turn.child = sees.whole.0 in
      let well : stands_well q.node.kind r k2 [] ≡ true = child_familiar.stands in
      let more : (holds_below heads_parameters k2 below && holds_below heads_parameters q.node.kind after) ≡ true = and_second (heads_parameters q.node.kind r k2 text) (holds_below heads_parameters k2 below && holds_below heads_parameters q.node.kind after) heads in
      let no_identifier : is kind.BindingIdentifier q.node ≡ false = not-true (same_kind q.node.kind kind.BindingIdentifier) (and_first (not (same_kind q.node.kind kind.BindingIdentifier)) _ well) in
      let o_scope : OwnOf q turn.scope = own_of q r own n o in
      let chain : ChainOf q.node.kind r q.node q.chain turn.child.chain = chain_of q r turn.scope cursor node (no_decorator q.node.kind r child_familiar.undecorated) (is_open_inside q r own n) o_scope in
      let child : is kind.BindingIdentifier node ≡ false → HasSides turn.child =
      λ i. child_sides q turn.child refl known child_known familiar well (and_first (heads_parameters q.node.kind r k2 text) (holds_below heads_parameters k2 below && holds_below heads_parameters q.node.kind after) heads) i (before no_identifier) chain in
      each_of_turn SidesAt turn (record {
        before = opening_case (EachStep SidesAt) q r own n tt (tt, tt);
        whole = each_of_node SidesAt turn.child turn.below child
            (sides_steps turn.child None turn.next turn.inner below child child_known child_familiar tt (and_first (holds_below heads_parameters k2 below) (holds_below heads_parameters q.node.kind after) more)
            (each_left KnownAt turn.below (leaving turn.child ∷ []) knows.whole.1) (each_left (FamiliarAt g) turn.below (leaving turn.child ∷ []) sees.whole.1)) tt;
        behind = ending_case (EachStep SidesAt) q r turn.scope after tt (λ s. (tt, tt)) (λ s. (tt, tt)) (λ s. (tt, (tt, tt)));
        others = sides_steps q turn.scope turn.rest turn.past after before known familiar o_scope (and_second (holds_below heads_parameters k2 below) (holds_below heads_parameters q.node.kind after) more) knows.others sees.others;
      })

pub sides_program : (p : Tree) → first_fault p ≡ None → is_ecmascript p ≡ true → IsNumbered p.root → EachStep (SidesAt (node_at p)) (steps p)
sides_program p h e numbered =
    let root : Place = root_place p in
    let n : ℕ = on_entering p.root.kind 0 in
    let below : List Step = steps_below root None 0 n p.root.children in
    let known : EachStep KnownAt (steps p) = known_program p h e in
    let familiar : EachStep (FamiliarAt (node_at p)) (steps p) = familiar_program p h e numbered in
    let one : Sides (node_at p) [] [] = record { inner = record { outside = λ i. refl; inside = λ i f. absurd (never (sym i)) }; taking = tt } in
    each_of_node (SidesAt (node_at p)) root below (λ i. one)
    (sides_steps (node_at p) root None 0 n p.root.children (λ i. one) known.0 familiar.0 tt (tree_heads p h)
    (each_left KnownAt below (leaving root ∷ []) known.1) (each_left (FamiliarAt (node_at p)) below (leaving root ∷ []) familiar.1)) tt
