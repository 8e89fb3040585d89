-- By which node the innermost environment of a place is made, and which environments are round it.
use Rattle.std.proofs.Common.{◌≡◌, ℕ, List, [], ◌∷◌, ◌++◌, Bool, true, false, ◌&&◌, not, cond, inl, inr, ◌⊎◌, refl, sym, ap, ◌∙◌}
use Rattle.semantic_kinds.specs.declared.kind.AstType.{AstType}
use Rattle.semantic_kinds.specs.declared.kind.AstType.TheVariants as kind
use Rattle.semantic_tree.specs.Tree.{Tree, IsNumbered}
use Rattle.semantic_tree.specs.Views.{is}
use Rattle.semantic_tree.specs.declared.node.Node.{Node}
use Rattle.semantic_model.specs.Binder.{is_statement}
use Rattle.semantic_model.specs.Entries.{Among}
use Rattle.semantic_model.specs.Place.{Place}
use Rattle.semantic_model.specs.Step.{Step, steps}
use Rattle.binding_laws.proofs.EnteredOnce.{entered_once}
use Rattle.binding_laws.proofs.SmallLaws.{never}
use Rattle.language_ties.specs.Environments.{Environment, is_made_for, has_parameter_expressions, is_outside_body, is_body_of_with, made_by, environments, innermost, takes_variables}
use Rattle.language_ties.specs.declared.environment_kind.EnvironmentKind.{EnvironmentKind}
use Rattle.language_ties.specs.declared.environment_kind.EnvironmentKind.TheVariants as environment
use Rattle.language_ties.proofs.tangled.NamePlaces.{IsEnteredAs, AllEnteredAs}

-- the node that makes it, where it is entered; a function that is the body of an `if` has its own environment round itself
pub record IsFirstMade (all : List Step) (d : Environment) (es : List Environment) : Type 0 where
  pub maker : Node
  pub path : List Node
  pub entered : IsEnteredAs all maker path
  pub is : maker.node_id ≡ d.maker
  pub round : ((is_made_for environment.IfBody d ≡ false) × (es ≡ d ∷ environments maker path)) ⊎ ((is_made_for environment.IfBody d ≡ true) × (es ≡ environments maker path))

module _ (all : List Step) where
  -- the first of the environments, if it takes no variables
  abbrev Makes : List Environment → Type 0
  Makes es = Among (innermost es) es → takes_variables (innermost es) ≡ false → IsFirstMade all (innermost es) es

  made_one : (x : Node) (path : List Node) → IsEnteredAs all x path → (k : EnvironmentKind) → is_made_for environment.IfBody (record { kind = k; maker = x.node_id }) ≡ false → Makes (record { kind = k; maker = x.node_id } ∷ environments x path)
  made_one x path entered k n a t = record { maker = x; path = path; entered = entered; is = refl; round = inl (n, refl) }

  pub first_made : (child : Node) (path : List Node) → AllEnteredAs all (child ∷ path) → Makes (environments child path)
  first_made child [] entered = λ a t. absurd a
  first_made child (x ∷ path) entered = go x.kind refl (first_made x path entered.1)
    where
      E : List Environment
      E = environments x path

      maybe : (b : Bool) (k : EnvironmentKind) → is_made_for environment.IfBody (record { kind = k; maker = x.node_id }) ≡ false → Makes E → Makes (cond b (record { kind = k; maker = x.node_id } ∷ []) [] ++ E)
      maybe true k n later = made_one x path entered.1.0 k n
      maybe false k n later = later

      unless : (b : Bool) (k : EnvironmentKind) → is_made_for environment.IfBody (record { kind = k; maker = x.node_id }) ≡ false → Makes E → Makes (cond b [] (record { kind = k; maker = x.node_id } ∷ []) ++ E)
      unless true k n later = later
      unless false k n later = made_one x path entered.1.0 k n

      body : (b : Bool) → (is kind.Function child && is_statement child) ≡ b → x.kind ≡ kind.IfStatement → Makes E → Makes (cond b (record { kind = environment.IfBody; maker = child.node_id } ∷ []) [] ++ E)
      body true v w later = λ a t. record {
        maker = child;
        path = x ∷ path;
        entered = entered.0;
        is = refl;
        round = inr (refl, ap (λ b. cond b (record { kind = environment.IfBody; maker = child.node_id } ∷ []) [] ++ E) (sym v) ∙ ap (λ k. made_by k x child ++ E) (sym w));
      }
      body false v w later = later

      function : (b : Bool) (k : EnvironmentKind) (ds : List Environment) → takes_variables (record { kind = k; maker = x.node_id }) ≡ true → Makes ((cond b (record { kind = environment.Body; maker = x.node_id } ∷ []) [] ++ record { kind = k; maker = x.node_id } ∷ ds) ++ E)
      function true k ds v a t = absurd (never t)
      function false k ds v a t = absurd (never (sym v ∙ t))

      go : (k : AstType) → x.kind ≡ k → Makes E → Makes (made_by k x child ++ E)
      go kind.Program w later = λ a t. absurd (never t)
      go kind.Function w later = function (not (is_outside_body child) && has_parameter_expressions x) environment.Parameters (record { kind = environment.OwnName; maker = x.node_id } ∷ []) refl
      go kind.ArrowFunctionExpression w later = function (not (is_outside_body child) && has_parameter_expressions x) environment.ArrowParameters [] refl
      go kind.StaticBlock w later = λ a t. absurd (never t)
      go kind.BlockStatement w later = made_one x path entered.1.0 environment.Block refl
      go kind.SwitchStatement w later = maybe (is kind.SwitchCase child) environment.Block refl later
      go kind.IfStatement w later = body (is kind.Function child && is_statement child) refl w later
      go kind.ForStatement w later = made_one x path entered.1.0 environment.Loop refl
      go kind.ForInStatement w later = made_one x path entered.1.0 environment.Loop refl
      go kind.ForOfStatement w later = made_one x path entered.1.0 environment.Loop refl
      go kind.CatchClause w later = made_one x path entered.1.0 environment.Catch refl
      go kind.Class w later = unless (is kind.Decorator child) environment.Class refl later
      go kind.WithStatement w later = maybe (is_body_of_with child) environment.Object refl later
      go _ w later = later

-- ---- a place inside

-- round an environment stand those
abbrev pub RoundIt : Environment → List Environment → List Environment → Type 0
RoundIt d es [] = Unit {0}
RoundIt d es (f ∷ fs) = (d ≡ f → es ≡ f ∷ fs) × RoundIt d es fs

-- of what stands in the environment of a declaration, the environments round that environment are those of the declaration
module _ (p : Tree) (numbered : IsNumbered p.root) (r : Place) (d : Environment) (es : List Environment) (made : IsFirstMade (steps p) d es) where
  abbrev Round : List Environment → Type 0
  Round fs = RoundIt d es fs

  one_place : (x : Node) (path : List Node) → IsEnteredAs (steps p) x path → x.node_id ≡ d.maker → (made.maker ≡ x) × (made.path ≡ path)
  one_place x path entered i =
      let same : made.entered.place ≡ entered.place = entered_once p numbered made.entered.place entered.place made.entered.entered entered.entered (ap (λ z. z.node_id) made.entered.node ∙ made.is ∙ sym i ∙ ap (λ z. z.node_id) (sym entered.node)) in
      (sym made.entered.node ∙ ap (λ (z : Place). z.node) same ∙ entered.node, sym made.entered.above ∙ ap (λ (z : Place). z.path) same ∙ entered.above)

  module _ (takes_none : takes_variables d ≡ false) (unnamed : is_made_for environment.OwnName d ≡ false) where
    here : (x : Node) (path : List Node) → IsEnteredAs (steps p) x path → (k : EnvironmentKind) → is_made_for environment.IfBody (record { kind = k; maker = x.node_id }) ≡ false → d ≡ record { kind = k; maker = x.node_id } → es ≡ record { kind = k; maker = x.node_id } ∷ environments x path
    here x path entered k n q = elim made.round [
      | inl w ↦ (let two : (made.maker ≡ x) × (made.path ≡ path) = one_place x path entered (sym (ap (λ z. z.maker) q)) in
          w.1 ∙ (λ i. q i ∷ environments (two.0 i) (two.1 i)))
      | inr w ↦ absurd (never (sym w.0 ∙ ap (is_made_for environment.IfBody) q ∙ n))
    ]

    pub round_it : (child : Node) (path : List Node) → AllEnteredAs (steps p) (child ∷ path) → RoundIt d es (environments child path)
    round_it child [] entered = tt
    round_it child (x ∷ path) entered = go x.kind refl (round_it x path entered.1)
      where
        E : List Environment
        E = environments x path

        one : (k : EnvironmentKind) → is_made_for environment.IfBody (record { kind = k; maker = x.node_id }) ≡ false → Round E → Round (record { kind = k; maker = x.node_id } ∷ E)
        one k n later = (here x path entered.1.0 k n, later)

        maybe : (b : Bool) (k : EnvironmentKind) → is_made_for environment.IfBody (record { kind = k; maker = x.node_id }) ≡ false → Round E → Round (cond b (record { kind = k; maker = x.node_id } ∷ []) [] ++ E)
        maybe true k n later = one k n later
        maybe false k n later = later

        unless : (b : Bool) (k : EnvironmentKind) → is_made_for environment.IfBody (record { kind = k; maker = x.node_id }) ≡ false → Round E → Round (cond b [] (record { kind = k; maker = x.node_id } ∷ []) ++ E)
        unless true k n later = later
        unless false k n later = one k n later

        body : (b : Bool) → (is kind.Function child && is_statement child) ≡ b → x.kind ≡ kind.IfStatement → Round E → Round (cond b (record { kind = environment.IfBody; maker = child.node_id } ∷ []) [] ++ E)
        body true v w later = (
          λ q. elim made.round [
            | inl u ↦ absurd (never (sym (ap (is_made_for environment.IfBody) q) ∙ u.0))
            | inr u ↦ (let two : (made.maker ≡ child) × (made.path ≡ x ∷ path) = one_place child (x ∷ path) entered.0 (sym (ap (λ z. z.maker) q)) in
                u.1 ∙ (λ i. environments (two.0 i) (two.1 i)) ∙ ap (λ k. made_by k x child ++ E) w ∙ ap (λ b. cond b (record { kind = environment.IfBody; maker = child.node_id } ∷ []) [] ++ E) v)
          ],
          later,
        )
        body false v w later = later

        taking : (f : Environment) (fs : List Environment) → takes_variables f ≡ true → Round fs → Round (f ∷ fs)
        taking f fs t later = (λ q. absurd (never (sym t ∙ sym (ap takes_variables q) ∙ takes_none)), later)

        own : (m : ℕ) (fs : List Environment) → Round fs → Round (record { kind = environment.OwnName; maker = m } ∷ fs)
        own m fs later = (λ q. absurd (never (sym (ap (is_made_for environment.OwnName) q) ∙ unnamed)), later)

        function : (b : Bool) (k : EnvironmentKind) → takes_variables (record { kind = k; maker = x.node_id }) ≡ true → Round E → Round ((cond b (record { kind = environment.Body; maker = x.node_id } ∷ []) [] ++ record { kind = k; maker = x.node_id } ∷ record { kind = environment.OwnName; maker = x.node_id } ∷ []) ++ E)
        function true k t later = taking (record { kind = environment.Body; maker = x.node_id }) _ refl (taking (record { kind = k; maker = x.node_id }) _ t (own x.node_id E later))
        function false k t later = taking (record { kind = k; maker = x.node_id }) _ t (own x.node_id E later)

        arrow : (b : Bool) (k : EnvironmentKind) → takes_variables (record { kind = k; maker = x.node_id }) ≡ true → Round E → Round ((cond b (record { kind = environment.Body; maker = x.node_id } ∷ []) [] ++ record { kind = k; maker = x.node_id } ∷ []) ++ E)
        arrow true k t later = taking (record { kind = environment.Body; maker = x.node_id }) _ refl (taking (record { kind = k; maker = x.node_id }) _ t later)
        arrow false k t later = taking (record { kind = k; maker = x.node_id }) _ t later

        go : (k : AstType) → x.kind ≡ k → Round E → Round (made_by k x child ++ E)
        go kind.Program w later = taking (record { kind = environment.Global; maker = x.node_id }) E refl later
        go kind.Function w later = function (not (is_outside_body child) && has_parameter_expressions x) environment.Parameters refl later
        go kind.ArrowFunctionExpression w later = arrow (not (is_outside_body child) && has_parameter_expressions x) environment.ArrowParameters refl later
        go kind.StaticBlock w later = taking (record { kind = environment.StaticBlock; maker = x.node_id }) E refl later
        go kind.BlockStatement w later = one environment.Block refl later
        go kind.SwitchStatement w later = maybe (is kind.SwitchCase child) environment.Block refl later
        go kind.IfStatement w later = body (is kind.Function child && is_statement child) refl w later
        go kind.ForStatement w later = one environment.Loop refl later
        go kind.ForInStatement w later = one environment.Loop refl later
        go kind.ForOfStatement w later = one environment.Loop refl later
        go kind.CatchClause w later = one environment.Catch refl later
        go kind.Class w later = unless (is kind.Decorator child) environment.Class refl later
        go kind.WithStatement w later = maybe (is_body_of_with child) environment.Object refl later
        go _ w later = later
