-- The environments that a variable passes, and the one where it is bound, are made by nodes of one home.
use Rattle.std.proofs.Common.{◌≡◌, ℕ, List, [], ◌∷◌, ◌++◌, Some, Bool, true, false, ◌&&◌, not, cond, inl, inr, ◌⊎◌, refl, sym, ap, subst, ◌∙◌}
use Rattle.semantic_syntax.proofs.Truth.{and_first, and_second}
use Rattle.semantic_kinds.specs.Classes.{holds_kind}
use Rattle.semantic_kinds.specs.Kinds.{same_kind}
use Rattle.semantic_kinds.specs.declared.kind.AstType.{AstType}
use Rattle.semantic_kinds.specs.declared.kind.AstType.TheVariants as kind
use Rattle.semantic_tree.specs.Views.{is}
use Rattle.semantic_tree.specs.declared.node.Node.{Node}
use Rattle.semantic_model.specs.Binder.{is_statement}
use Rattle.semantic_model.specs.Entries.{Among}
use Rattle.semantic_model.specs.Step.{Step}
use Rattle.binding_laws.proofs.SmallLaws.{never}
use Rattle.tangle_model.specs.Surroundings.{is_home, home_under}
use Rattle.language_ties.specs.EcmaScript.{is_ecmascript_kind}
use Rattle.language_ties.specs.Environments.{Environment, is_made_for, has_parameter_expressions, is_outside_body, is_body_of_with, made_by, environments, innermost, takes_variables, passed, first_taking}
use Rattle.language_ties.specs.declared.environment_kind.EnvironmentKind.{EnvironmentKind}
use Rattle.language_ties.specs.declared.environment_kind.EnvironmentKind.TheVariants as environment
use Rattle.language_ties.proofs.agree.FamiliarPlaces.{ParentsFit}
use Rattle.language_ties.proofs.tangled.NamePlaces.{IsEnteredAs, AllEnteredAs}

-- ---- the environments up to the first that takes variables

abbrev pub reach : List Environment → List Environment
reach [] = []
reach (d ∷ ds) = cond (takes_variables d) (d ∷ []) (d ∷ reach ds)

pub passed_reached : (es : List Environment) (d : Environment) → Among d (passed es) → Among d (reach es)
passed_reached [] d a = absurd a
passed_reached (f ∷ es) d a = go (takes_variables f) a (passed_reached es d)
  where
    go : (b : Bool) → Among d (cond b [] (f ∷ passed es)) → (Among d (passed es) → Among d (reach es)) → Among d (cond b (f ∷ []) (f ∷ reach es))
    go true i later = absurd i
    go false (inl q) later = inl q
    go false (inr i) later = inr (later i)

pub taking_reached : (es : List Environment) (d : Environment) → first_taking es ≡ Some d → Among d (reach es)
taking_reached [] d h = absurd cc
taking_reached (f ∷ es) d h = go (takes_variables f) h (taking_reached es d)
  where
    go : (b : Bool) → cond b (Some f) (first_taking es) ≡ Some d → (first_taking es ≡ Some d → Among d (reach es)) → Among d (cond b (f ∷ []) (f ∷ reach es))
    go true i later = inl cc
    go false i later = inr (later i)

pub innermost_reached : (es : List Environment) → Among (innermost es) es → Among (innermost es) (reach es)
innermost_reached [] a = absurd a
innermost_reached (f ∷ es) a = go (takes_variables f)
  where
    go : (b : Bool) → Among f (cond b (f ∷ []) (f ∷ reach es))
    go true = inl refl
    go false = inl refl

-- ---- homes

-- the maker is entered under nodes of the home, or is the function that is the body of an `if`
pub record IsMadeInHome (all : List Step) (home : ℕ) (d : Environment) : Type 0 where
  pub maker : Node
  pub path : List Node
  pub entered : IsEnteredAs all maker path
  pub is : maker.node_id ≡ d.maker
  pub no_body : is_made_for environment.IfBody d ≡ false
  pub home_is : home_under (maker ∷ path) ≡ home

pub record IsOwnBody (child : Node) (d : Environment) : Type 0 where
  pub body : is_made_for environment.IfBody d ≡ true
  pub maker_is : child.node_id ≡ d.maker
  pub function : is kind.Function child ≡ true
  pub statement : is_statement child ≡ true

abbrev pub InHome : List Step → ℕ → Node → Environment → Type 0
InHome all home child d = IsMadeInHome all home d ⊎ IsOwnBody child d

module _ (all : List Step) where
  module _ (child x : Node) (path : List Node) (entered : IsEnteredAs all x path) where
    abbrev E : List Environment
    E = environments x path

    abbrev H : ℕ
    H = home_under (x ∷ path)

    abbrev AllIn : List Environment → Type 0
    AllIn ds = (d : Environment) → Among d (reach ds) → InHome all H child d

    -- what is round the node above is of the same home, if that is none itself
    abbrev Later : Type 0
    Later = (d : Environment) → Among d (reach E) → InHome all (home_under path) x d

    outer : is_home x ≡ false → is kind.Function x ≡ false → Later → AllIn E
    outer n f later d a = elim (later d a) [
      | inl w ↦ inl (record { maker = w.maker; path = w.path; entered = w.entered; is = w.is; no_body = w.no_body; home_is = w.home_is ∙ ap (λ b. cond b x.node_id (home_under path)) (sym n) })
      | inr w ↦ absurd (never (sym w.function ∙ f))
    ]

    made : (k : EnvironmentKind) → is_made_for environment.IfBody (record { kind = k; maker = x.node_id }) ≡ false → InHome all H child (record { kind = k; maker = x.node_id })
    made k n = inl (record { maker = x; path = path; entered = entered; is = refl; no_body = n; home_is = refl })

    one : (k : EnvironmentKind) → is_made_for environment.IfBody (record { kind = k; maker = x.node_id }) ≡ false → AllIn E → AllIn (record { kind = k; maker = x.node_id } ∷ E)
    one k n rest d a = go (takes_variables (record { kind = k; maker = x.node_id })) a
      where
        go : (b : Bool) → Among d (cond b (record { kind = k; maker = x.node_id } ∷ []) (record { kind = k; maker = x.node_id } ∷ reach E)) → InHome all H child d
        go true (inl q) = subst (InHome all H child) q (made k n)
        go true (inr i) = absurd i
        go false (inl q) = subst (InHome all H child) q (made k n)
        go false (inr i) = rest d i

    taking : (k : EnvironmentKind) (ds : List Environment) → takes_variables (record { kind = k; maker = x.node_id }) ≡ true → is_made_for environment.IfBody (record { kind = k; maker = x.node_id }) ≡ false → AllIn (record { kind = k; maker = x.node_id } ∷ ds)
    taking k ds t n d a = go (subst (λ b. Among d (cond b (record { kind = k; maker = x.node_id } ∷ []) (record { kind = k; maker = x.node_id } ∷ reach ds))) t a)
      where
        go : Among d (record { kind = k; maker = x.node_id } ∷ []) → InHome all H child d
        go (inl q) = subst (InHome all H child) q (made k n)
        go (inr i) = absurd i

    maybe : (b : Bool) (k : EnvironmentKind) → is_made_for environment.IfBody (record { kind = k; maker = x.node_id }) ≡ false → AllIn E → AllIn (cond b (record { kind = k; maker = x.node_id } ∷ []) [] ++ E)
    maybe true k n rest = one k n rest
    maybe false k n rest = rest

    unless : (b : Bool) (k : EnvironmentKind) → is_made_for environment.IfBody (record { kind = k; maker = x.node_id }) ≡ false → AllIn E → AllIn (cond b [] (record { kind = k; maker = x.node_id } ∷ []) ++ E)
    unless true k n rest = rest
    unless false k n rest = one k n rest

    body : (b : Bool) → (is kind.Function child && is_statement child) ≡ b → AllIn E → AllIn (cond b (record { kind = environment.IfBody; maker = child.node_id } ∷ []) [] ++ E)
    body true v rest d (inl q) = inr (record { body = ap (is_made_for environment.IfBody) (sym q); maker_is = ap (λ z. z.maker) q; function = and_first (is kind.Function child) (is_statement child) v; statement = and_second (is kind.Function child) (is_statement child) v })
    body true v rest d (inr i) = rest d i
    body false v rest d a = rest d a

    function : (b : Bool) (k : EnvironmentKind) (ds : List Environment) → takes_variables (record { kind = k; maker = x.node_id }) ≡ true → is_made_for environment.IfBody (record { kind = k; maker = x.node_id }) ≡ false → AllIn ((cond b (record { kind = environment.Body; maker = x.node_id } ∷ []) [] ++ record { kind = k; maker = x.node_id } ∷ ds) ++ E)
    function true k ds t n = taking environment.Body (record { kind = k; maker = x.node_id } ∷ (ds ++ E)) refl refl
    function false k ds t n = taking k (ds ++ E) t n

    home_of : (k : AstType) → x.kind ≡ k → is_home x ≡ holds_kind (kind.Program ∷ kind.Function ∷ kind.ArrowFunctionExpression ∷ kind.StaticBlock ∷ kind.TSModuleBlock ∷ []) k
    home_of k w = ap (λ i. holds_kind (kind.Program ∷ kind.Function ∷ kind.ArrowFunctionExpression ∷ kind.StaticBlock ∷ kind.TSModuleBlock ∷ []) i) w

    function_of : (k : AstType) → x.kind ≡ k → is kind.Function x ≡ same_kind k kind.Function
    function_of k w = ap (λ i. same_kind i kind.Function) w

    by_kind : (k : AstType) → x.kind ≡ k → is_ecmascript_kind k ≡ true → Later → AllIn (made_by k x child ++ E)
    by_kind kind.Program w i later = taking environment.Global E refl refl
    by_kind kind.Function w i later = function (not (is_outside_body child) && has_parameter_expressions x) environment.Parameters (record { kind = environment.OwnName; maker = x.node_id } ∷ []) refl refl
    by_kind kind.ArrowFunctionExpression w i later = function (not (is_outside_body child) && has_parameter_expressions x) environment.ArrowParameters [] refl refl
    by_kind kind.StaticBlock w i later = taking environment.StaticBlock E refl refl
    by_kind kind.BlockStatement w i later = one environment.Block refl (outer (home_of kind.BlockStatement w) (function_of kind.BlockStatement w) later)
    by_kind kind.SwitchStatement w i later = maybe (is kind.SwitchCase child) environment.Block refl (outer (home_of kind.SwitchStatement w) (function_of kind.SwitchStatement w) later)
    by_kind kind.IfStatement w i later = body (is kind.Function child && is_statement child) refl (outer (home_of kind.IfStatement w) (function_of kind.IfStatement w) later)
    by_kind kind.ForStatement w i later = one environment.Loop refl (outer (home_of kind.ForStatement w) (function_of kind.ForStatement w) later)
    by_kind kind.ForInStatement w i later = one environment.Loop refl (outer (home_of kind.ForInStatement w) (function_of kind.ForInStatement w) later)
    by_kind kind.ForOfStatement w i later = one environment.Loop refl (outer (home_of kind.ForOfStatement w) (function_of kind.ForOfStatement w) later)
    by_kind kind.CatchClause w i later = one environment.Catch refl (outer (home_of kind.CatchClause w) (function_of kind.CatchClause w) later)
    by_kind kind.Class w i later = unless (is kind.Decorator child) environment.Class refl (outer (home_of kind.Class w) (function_of kind.Class w) later)
    by_kind kind.WithStatement w i later = maybe (is_body_of_with child) environment.Object refl (outer (home_of kind.WithStatement w) (function_of kind.WithStatement w) later)
    by_kind kind.TSModuleBlock w i later = absurd (never (sym i))
    by_kind _ w i later = outer (home_of _ w) (function_of _ w) later

  pub in_home : (child : Node) (path : List Node) → AllEnteredAs all path → ParentsFit child.kind path → (d : Environment) → Among d (reach (environments child path)) → InHome all (home_under path) child d
  in_home child [] entered fits d a = absurd a
  in_home child (x ∷ path) entered fits d a = by_kind child x path entered.0 x.kind refl fits.1 (in_home x path entered.1 fits.2) d a
