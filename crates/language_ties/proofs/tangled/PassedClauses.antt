-- Where a `var` passes a catch clause, the clause holds it in the same home.
use Rattle.std.proofs.Common.{◌≡◌, ℕ, List, [], ◌∷◌, ◌++◌, Some, Bool, true, false, ◌&&◌, ◌||◌, not, cond, inl, inr, refl, sym, ap, subst, ◌∙◌}
use Rattle.semantic_syntax.proofs.Truth.{or_true}
use Rattle.semantic_kinds.specs.Classes.{holds_kind}
use Rattle.semantic_kinds.specs.Kinds.{same_kind}
use Rattle.semantic_kinds.specs.declared.kind.AstType.{AstType}
use Rattle.semantic_kinds.specs.declared.kind.AstType.TheVariants as kind
use Rattle.semantic_tree.specs.Tree.{Tree, IsNumbered}
use Rattle.semantic_tree.specs.Views.{is}
use Rattle.semantic_tree.specs.declared.node.Node.{Node}
use Rattle.semantic_model.specs.Binder.{is_statement}
use Rattle.semantic_model.specs.Entries.{Among}
use Rattle.semantic_model.specs.Place.{Place}
use Rattle.semantic_model.specs.Step.{entering, steps}
use Rattle.binding_laws.proofs.EnteredOnce.{entered_once}
use Rattle.binding_laws.proofs.SmallLaws.{never}
use Rattle.tangle_model.specs.Surroundings.{is_home, home_under, in_catch_under}
use Rattle.language_ties.specs.EcmaScript.{is_ecmascript_kind}
use Rattle.language_ties.specs.Environments.{Environment, has_parameter_expressions, is_outside_body, is_body_of_with, made_by, environments, passed, takes_variables}
use Rattle.language_ties.specs.declared.environment_kind.EnvironmentKind.{EnvironmentKind}
use Rattle.language_ties.specs.declared.environment_kind.EnvironmentKind.TheVariants as environment
use Rattle.language_ties.proofs.agree.FamiliarPlaces.{ParentsFit, AllKnown}
use Rattle.language_ties.proofs.agree.KnownNodes.{node_at}
use Rattle.language_ties.proofs.tangled.NamePlaces.{IsEnteredAs, AllEnteredAs}

module _ (p : Tree) (numbered : IsNumbered p.root) (clause : Place) (entered : Among (entering clause) (steps p)) where
  abbrev Clause : Environment
  Clause = record { kind = environment.Catch; maker = clause.node.node_id }

  -- the clause holds what is below these nodes, in its own home
  pub record IsHeldBy (path : List Node) : Type 0 where
    pub held : in_catch_under path ≡ true
    pub home : home_under path ≡ home_under clause.path

  further : (x : Node) (path : List Node) → is_home x ≡ false → IsHeldBy path → IsHeldBy (x ∷ path)
  further x path n h = record {
    held = ap (λ b. not b && (is kind.CatchClause x || in_catch_under path)) n ∙ ap (λ b. is kind.CatchClause x || b) h.held ∙ or_true (is kind.CatchClause x);
    home = ap (λ b. cond b x.node_id (home_under path)) n ∙ h.home;
  }

  other_kind : (k : EnvironmentKind) (m : ℕ) → record { kind = k; maker = m } ≡ Clause → k ≡ environment.Catch
  other_kind k m h = ap (λ d. d.kind) h

  no_block : environment.Block ≡ environment.Catch → ⊥
  no_block h = absurd cc

  no_loop : environment.Loop ≡ environment.Catch → ⊥
  no_loop h = absurd cc

  no_class : environment.Class ≡ environment.Catch → ⊥
  no_class h = absurd cc

  no_object : environment.Object ≡ environment.Catch → ⊥
  no_object h = absurd cc

  no_body : environment.IfBody ≡ environment.Catch → ⊥
  no_body h = absurd cc

  module _ (child x : Node) (path : List Node) (known : node_at p x.node_id ≡ Some x) (clause_known : node_at p clause.node.node_id ≡ Some clause.node) (as_place : IsEnteredAs (steps p) x path) (later : Among Clause (passed (environments x path)) → IsHeldBy path) where
    abbrev E : List Environment
    E = environments x path

    home_is : (k : AstType) → x.kind ≡ k → is_home x ≡ holds_kind (kind.Program ∷ kind.Function ∷ kind.ArrowFunctionExpression ∷ kind.StaticBlock ∷ kind.TSModuleBlock ∷ []) k
    home_is k w = ap (λ i. holds_kind (kind.Program ∷ kind.Function ∷ kind.ArrowFunctionExpression ∷ kind.StaticBlock ∷ kind.TSModuleBlock ∷ []) i) w

    -- an environment of another kind
    either : (k : EnvironmentKind) (m : ℕ) → (k ≡ environment.Catch → ⊥) → Among Clause (record { kind = k; maker = m } ∷ passed E) → Among Clause (passed E)
    either k m n (inl h) = absurd (n (other_kind k m h))
    either k m n (inr a) = a

    maybe : (b : Bool) (k : EnvironmentKind) (m : ℕ) → takes_variables (record { kind = k; maker = m }) ≡ false → (k ≡ environment.Catch → ⊥) → Among Clause (passed (cond b (record { kind = k; maker = m } ∷ []) [] ++ E)) → Among Clause (passed E)
    maybe true k m t n a = either k m n (subst (λ b. Among Clause (cond b [] (record { kind = k; maker = m } ∷ passed E))) t a)
    maybe false k m t n a = a

    unless : (b : Bool) (m : ℕ) → Among Clause (passed (cond b [] (record { kind = environment.Class; maker = m } ∷ []) ++ E)) → Among Clause (passed E)
    unless true m a = a
    unless false m a = either environment.Class m no_class a

    function : (b : Bool) → Among Clause (passed ((cond b (record { kind = environment.Body; maker = x.node_id } ∷ []) [] ++ record { kind = environment.Parameters; maker = x.node_id } ∷ record { kind = environment.OwnName; maker = x.node_id } ∷ []) ++ E)) → ⊥
    function true a = a
    function false a = a

    arrow : (b : Bool) → Among Clause (passed ((cond b (record { kind = environment.Body; maker = x.node_id } ∷ []) [] ++ record { kind = environment.ArrowParameters; maker = x.node_id } ∷ []) ++ E)) → ⊥
    arrow true a = a
    arrow false a = a

    here : x.kind ≡ kind.CatchClause → x.node_id ≡ clause.node.node_id → IsHeldBy (x ∷ path)
    here k w =
        let same : as_place.place ≡ clause = entered_once p numbered as_place.place clause as_place.entered entered (ap (λ z. z.node_id) as_place.node ∙ w) in
        let no_home : is_home x ≡ false = home_is kind.CatchClause k in
        record {
          held = ap (λ b. not b && (is kind.CatchClause x || in_catch_under path)) no_home ∙ ap (λ i. same_kind i kind.CatchClause || in_catch_under path) k;
          home = ap (λ b. cond b x.node_id (home_under path)) no_home ∙ ap home_under (sym as_place.above ∙ ap (λ z. z.path) same);
        }

    at_clause : x.kind ≡ kind.CatchClause → Among Clause (record { kind = environment.Catch; maker = x.node_id } ∷ passed E) → IsHeldBy (x ∷ path)
    at_clause k (inl h) = here k (ap (λ d. d.maker) h)
    at_clause k (inr a) = further x path (home_is kind.CatchClause k) (later a)

    by_kind : (k : AstType) → x.kind ≡ k → is_ecmascript_kind k ≡ true → Among Clause (passed (made_by k x child ++ E)) → IsHeldBy (x ∷ path)
    by_kind kind.Program w i a = absurd a
    by_kind kind.Function w i a = absurd (function (not (is_outside_body child) && has_parameter_expressions x) a)
    by_kind kind.ArrowFunctionExpression w i a = absurd (arrow (not (is_outside_body child) && has_parameter_expressions x) a)
    by_kind kind.StaticBlock w i a = absurd a
    by_kind kind.BlockStatement w i a = further x path (home_is kind.BlockStatement w) (later (either environment.Block x.node_id no_block a))
    by_kind kind.SwitchStatement w i a = further x path (home_is kind.SwitchStatement w) (later (maybe (is kind.SwitchCase child) environment.Block x.node_id refl no_block a))
    by_kind kind.IfStatement w i a = further x path (home_is kind.IfStatement w) (later (maybe (is kind.Function child && is_statement child) environment.IfBody child.node_id refl no_body a))
    by_kind kind.ForStatement w i a = further x path (home_is kind.ForStatement w) (later (either environment.Loop x.node_id no_loop a))
    by_kind kind.ForInStatement w i a = further x path (home_is kind.ForInStatement w) (later (either environment.Loop x.node_id no_loop a))
    by_kind kind.ForOfStatement w i a = further x path (home_is kind.ForOfStatement w) (later (either environment.Loop x.node_id no_loop a))
    by_kind kind.CatchClause w i a = at_clause w a
    by_kind kind.Class w i a = further x path (home_is kind.Class w) (later (unless (is kind.Decorator child) x.node_id a))
    by_kind kind.WithStatement w i a = further x path (home_is kind.WithStatement w) (later (maybe (is_body_of_with child) environment.Object x.node_id refl no_object a))
    by_kind kind.TSModuleBlock w i a = absurd (never (sym i))
    by_kind _ w i a = further x path (home_is _ w) (later a)

  pub held_by : (child : Node) (path : List Node) → AllKnown (node_at p) path → ParentsFit child.kind path → AllEnteredAs (steps p) path → node_at p clause.node.node_id ≡ Some clause.node → Among Clause (passed (environments child path)) → IsHeldBy path
  held_by child [] known fits places k a = absurd a
  held_by child (x ∷ path) known fits places k a = by_kind child x path known.0 k places.0 (held_by x path known.1 fits.2 places.1 k) x.kind refl fits.1 a
