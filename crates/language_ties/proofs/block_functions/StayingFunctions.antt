-- A function in a block that has no variable beside is declared in its block alone: in strict code, `async`, or as a generator.
use Rattle.std.proofs.Common.{◌≡◌, List, [], ◌∷◌, ◌++◌, Bool, true, false, ◌&&◌, ◌||◌, not, cond, inl, inr, refl, sym, ap, ◌∙◌}
use Rattle.std.proofs.lemmas.Bool.{cases_Bool}
use Rattle.semantic_kinds.specs.Kinds.{same_kind}
use Rattle.semantic_kinds.specs.declared.kind.AstType.{AstType}
use Rattle.semantic_kinds.specs.declared.kind.AstType.TheVariants as kind
use Rattle.semantic_syntax.specs.SourceTypes.{is_typescript}
use Rattle.semantic_syntax.specs.declared.source_type.SourceType.{SourceType}
use Rattle.semantic_tree.specs.Views.{is}
use Rattle.semantic_tree.specs.declared.node.Node.{Node}
use Rattle.semantic_model.specs.Binder.{is_block_function, is_clause, is_special, is_statement, is_var}
use Rattle.semantic_model.specs.Place as place
use Rattle.semantic_model.specs.Place.{Place, is_strict}
use Rattle.binding_laws.proofs.SmallLaws.{never}
use Rattle.language_ties.specs.Bound as language
use Rattle.language_ties.specs.Environments.{Environment, is_made_for, has_parameter_expressions, is_outside_body, is_body_of_with, made_by, environments, innermost, takes_variables}
use Rattle.language_ties.specs.Scopes.{maker_of_scope, maker_of_environment}
use Rattle.language_ties.specs.ToldNames.{may_leave_block}
use Rattle.language_ties.specs.declared.environment_kind.EnvironmentKind.TheVariants as environment
use Rattle.language_ties.proofs.EnvironmentsRound.{IsKnown}
use Rattle.language_ties.proofs.Innermost.{innermost_made}
use Rattle.language_ties.proofs.block_functions.StrictPlaces.{Strict}

-- ---- the environment

-- the innermost is no own name's
abbrev Unnamed : List Environment → Type 0
Unnamed es = is_made_for environment.OwnName (innermost es) ≡ false

pub innermost_unnamed : (child : Node) (path : List Node) → Unnamed (environments child path)
innermost_unnamed child [] = refl
innermost_unnamed child (x ∷ path) = go x.kind (innermost_unnamed x path)
  where
    one_or : (b : Bool) (e : Environment) → is_made_for environment.OwnName e ≡ false → Unnamed (environments x path) → Unnamed (cond b (e ∷ []) [] ++ environments x path)
    one_or true e h k = h
    one_or false e h k = k

    unless : (b : Bool) (e : Environment) → is_made_for environment.OwnName e ≡ false → Unnamed (environments x path) → Unnamed (cond b [] (e ∷ []) ++ environments x path)
    unless true e h k = k
    unless false e h k = h

    body_or : (b : Bool) (e : Environment) (es : List Environment) → is_made_for environment.OwnName e ≡ false → Unnamed ((cond b (record { kind = environment.Body; maker = x.node_id } ∷ []) [] ++ e ∷ es) ++ environments x path)
    body_or true e es h = refl
    body_or false e es h = h

    go : (k : AstType) → Unnamed (environments x path) → Unnamed (made_by k x child ++ environments x path)
    go kind.Program h = refl
    go kind.Function h = body_or (not (is_outside_body child) && has_parameter_expressions x) (record { kind = environment.Parameters; maker = x.node_id }) (record { kind = environment.OwnName; maker = x.node_id } ∷ []) refl
    go kind.ArrowFunctionExpression h = body_or (not (is_outside_body child) && has_parameter_expressions x) (record { kind = environment.ArrowParameters; maker = x.node_id }) [] refl
    go kind.StaticBlock h = refl
    go kind.BlockStatement h = refl
    go kind.SwitchStatement h = one_or (is kind.SwitchCase child) (record { kind = environment.Block; maker = x.node_id }) refl h
    go kind.IfStatement h = one_or (is kind.Function child && is_statement child) (record { kind = environment.IfBody; maker = child.node_id }) refl h
    go kind.ForStatement h = refl
    go kind.ForInStatement h = refl
    go kind.ForOfStatement h = refl
    go kind.CatchClause h = refl
    go kind.Class h = unless (is kind.Decorator child) (record { kind = environment.Class; maker = x.node_id }) refl h
    go kind.WithStatement h = one_or (is_body_of_with child) (record { kind = environment.Object; maker = x.node_id }) refl h
    go _ h = h

-- ---- the function

-- a declaration that stays in its block, not as the body of an `if`, has no variable beside
pub record StaysInBlock (s : SourceType) (x : Node) (path : List Node) : Type 0 where
  pub ours : language.is_block_function s x path ≡ false
  pub no_body : is_made_for environment.IfBody (innermost (environments x path)) ≡ false

pub stays_in_block : (s : SourceType) (x : Node) (path : List Node) → x.kind ≡ kind.Function → is_statement x ≡ true → may_leave_block s x path ≡ false → StaysInBlock s x path
stays_in_block s x path k e h = by (language.is_block_function s x path) (is_made_for environment.IfBody (innermost (environments x path))) refl refl neither
  where
    neither : (language.is_block_function s x path || is_made_for environment.IfBody (innermost (environments x path))) ≡ false
    neither = sym (ap (λ t. t && (language.is_block_function s x path || is_made_for environment.IfBody (innermost (environments x path)))) (ap (λ q. same_kind q kind.Function && is_statement x) k ∙ e)) ∙ h

    by : (a b : Bool) → language.is_block_function s x path ≡ a → is_made_for environment.IfBody (innermost (environments x path)) ≡ b → (language.is_block_function s x path || is_made_for environment.IfBody (innermost (environments x path))) ≡ false → StaysInBlock s x path
    by true b i j n = absurd (never (sym (ap (λ t. t || is_made_for environment.IfBody (innermost (environments x path))) i) ∙ n))
    by false true i j n = absurd (never (sym (ap (λ t. t || is_made_for environment.IfBody (innermost (environments x path))) i ∙ j) ∙ n))
    by false false i j n = record { ours = i; no_body = j }

no_special : (b c d : Bool) → (false && b && c && d) ≡ false
no_special b c d = refl

no_strict : (a b d : Bool) → (a && b && false && d) ≡ false
no_strict true true d = refl
no_strict true false d = refl
no_strict false b d = refl

no_scope : (a b c v w : Bool) → v ≡ true → (a && b && c && not (v || w)) ≡ false
no_scope true true true true w e = refl
no_scope true true false true w e = refl
no_scope true false c true w e = no_strict_second c
  where
    no_strict_second : (c : Bool) → (true && false && c && false) ≡ false
    no_strict_second true = refl
    no_strict_second false = refl
no_scope false b c true w e = refl
no_scope a b c false w e = absurd cc

-- nor do the tables move it
pub stays_there : (s : SourceType) (q : Place) → IsKnown q → Strict s q → q.node.kind ≡ kind.Function → StaysInBlock s q.node q.path → is_block_function q ≡ false
stays_there s q known strict function stays = elim (cases_Bool (takes_variables (innermost (environments q.node q.path)))) [
  | inl t ↦ (let made : maker_of_scope (place.innermost q.chain) ≡ maker_of_environment (innermost (environments q.node q.path)) = innermost_made q.chain q.node q.path known.round (inr stays.no_body) in
      no_scope (not (is_special q.node)) (not (is_typescript q.source_type)) (not (is_strict q.chain)) (is_var (place.innermost q.chain)) (is_clause (place.innermost q.chain)) (ap (λ m. m.takes_variables) made ∙ t))
  | inr t ↦ elim (cases_Bool (is_special q.node)) [
    | inl u ↦ ap (λ b. not b && not (is_typescript q.source_type) && not (is_strict q.chain) && not (is_var (place.innermost q.chain) || is_clause (place.innermost q.chain))) u
    | inr u ↦ elim (cases_Bool (language.is_strict s q.path)) [
      | inr v ↦ (let all : language.is_block_function s q.node q.path ≡ true = rw (t, u, v) refl in absurd (never (sym all ∙ stays.ours)))
      | inl v ↦ elim (strict v) [
        | inl c ↦ ap (λ b. not (is_special q.node) && not (is_typescript q.source_type) && not b && not (is_var (place.innermost q.chain) || is_clause (place.innermost q.chain))) c
            ∙ no_strict (not (is_special q.node)) (not (is_typescript q.source_type)) (not (is_var (place.innermost q.chain) || is_clause (place.innermost q.chain)))
        | inr r ↦ absurd (no_program (sym r.1 ∙ function))
      ]
    ]
  ]
]
  where
    no_program : kind.Program ≡ kind.Function → ⊥
    no_program e = absurd cc
