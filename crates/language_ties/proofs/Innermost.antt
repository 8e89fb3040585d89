-- The innermost scope of a place, and the one where its variables go, are made by what makes the environments.
use Rattle.std.proofs.Common.{◌≡◌, ℕ, List, [], ◌∷◌, ◌++◌, Option, Some, None, Bool, true, false, ◌&&◌, not, cond, map, refl, sym, ap, ◌∙◌, inl, inr, ◌⊎◌, option_map}
use Rattle.semantic_kinds.specs.Kinds.{same_kind}
use Rattle.semantic_kinds.specs.declared.kind.AstType.{AstType}
use Rattle.semantic_kinds.specs.declared.kind.AstType.TheVariants as kind
use Rattle.semantic_tree.specs.Views.{is}
use Rattle.semantic_tree.specs.declared.node.Node.{Node}
use Rattle.semantic_model.specs.Binder.{is_statement, is_var}
use Rattle.semantic_model.specs.Declaration.{first_with, passed_before, route_from, outward_to}
use Rattle.semantic_model.specs.Place as place
use Rattle.semantic_model.specs.Place.{OpenScope}
use Rattle.language_ties.specs.Environments.{Environment, is_made_for, is_outside_body, has_parameter_expressions, is_body_of_with, made_by, environments, innermost, takes_variables, first_taking, environment_or, variable_environment}
use Rattle.language_ties.specs.Scopes.{Maker, maker_of_scope, maker_of_environment, makers}
use Rattle.language_ties.specs.declared.environment_kind.EnvironmentKind.{EnvironmentKind}
use Rattle.language_ties.specs.declared.environment_kind.EnvironmentKind.TheVariants as environment

abbrev first_maker : List Maker → Maker
first_maker [] = record { node = 0; takes_variables = false }
first_maker (m ∷ ms) = m

abbrev maker_node : Maker → ℕ
maker_node m = m.node

-- the first maker where `var` declares
abbrev first_taker : List Maker → Option ℕ
first_taker [] = None
first_taker (m ∷ ms) = cond m.takes_variables (Some m.node) (first_taker ms)

abbrev pub maker_of : Environment → ℕ
maker_of e = e.maker

abbrev pub opener_of : OpenScope → ℕ
opener_of s = s.opener

-- ---- scopes

innermost_scope : (chain : List OpenScope) → maker_of_scope (place.innermost chain) ≡ first_maker (map maker_of_scope chain)
innermost_scope [] = refl
innermost_scope (s ∷ ss) = refl

first_scope : (chain : List OpenScope) → option_map opener_of (first_with is_var chain) ≡ first_taker (map maker_of_scope chain)
first_scope [] = refl
first_scope (s ∷ ss) = go (is_var s) (first_scope ss)
  where
    go : (b : Bool) → option_map opener_of (first_with is_var ss) ≡ first_taker (map maker_of_scope ss) → option_map opener_of (cond b (Some s) (first_with is_var ss)) ≡ cond b (Some s.opener) (first_taker (map maker_of_scope ss))
    go true h = refl
    go false h = h

-- ---- environments

-- a node that is no function declared as the body of an `if`
abbrev pub IsPlain : Node → List Node → Type 0
IsPlain child path = ((is kind.Function child && is_statement child) ≡ false) ⊎ (is_made_for environment.IfBody (innermost (environments child path)) ≡ false)

-- that is none which takes variables
pub taking_no_body : (e : Environment) → takes_variables e ≡ true → is_made_for environment.IfBody e ≡ false
taking_no_body e h = go e.kind h
  where
    go : (k : EnvironmentKind) → takes_variables (record { kind = k; maker = e.maker }) ≡ true → is_made_for environment.IfBody (record { kind = k; maker = e.maker }) ≡ false
    go environment.IfBody q = absurd cc
    go _ q = refl

abbrev IsInner : List Environment → Type 0
IsInner es = first_maker (makers es) ≡ maker_of_environment (innermost es)

function_inner : (b : Bool) (x : Node) (es : List Environment) → IsInner ((cond b (record { kind = environment.Body; maker = x.node_id } ∷ []) [] ++ record { kind = environment.Parameters; maker = x.node_id } ∷ record { kind = environment.OwnName; maker = x.node_id } ∷ []) ++ es)
function_inner true x es = refl
function_inner false x es = refl

arrow_inner : (b : Bool) (x : Node) (es : List Environment) → IsInner ((cond b (record { kind = environment.Body; maker = x.node_id } ∷ []) [] ++ record { kind = environment.ArrowParameters; maker = x.node_id } ∷ []) ++ es)
arrow_inner true x es = refl
arrow_inner false x es = refl

block_inner : (b : Bool) (x : Node) (es : List Environment) → IsInner es → IsInner (cond b (record { kind = environment.Block; maker = x.node_id } ∷ []) [] ++ es)
block_inner true x es h = refl
block_inner false x es h = h

class_inner : (b : Bool) (x : Node) (es : List Environment) → IsInner es → IsInner (cond b [] (record { kind = environment.Class; maker = x.node_id } ∷ []) ++ es)
class_inner true x es h = h
class_inner false x es h = refl

object_inner : (b : Bool) (x : Node) (es : List Environment) → IsInner es → IsInner (cond b (record { kind = environment.Object; maker = x.node_id } ∷ []) [] ++ es)
object_inner true x es h = refl
object_inner false x es h = h

if_inner : (b : Bool) (x : Node) (es : List Environment) → (b ≡ false) ⊎ (is_made_for environment.IfBody (innermost (cond b (record { kind = environment.IfBody; maker = x.node_id } ∷ []) [] ++ es)) ≡ false) → IsInner es → IsInner (cond b (record { kind = environment.IfBody; maker = x.node_id } ∷ []) [] ++ es)
if_inner false x es p h = h
if_inner true x es (inl e) h = absurd cc
if_inner true x es (inr e) h = absurd cc

inner : (child : Node) (path : List Node) → IsPlain child path → IsInner (environments child path)
inner child [] p = refl
inner child (x ∷ path) p = go x.kind refl p (λ q. inner x path q)
  where
    further : (k : AstType) → x.kind ≡ k → same_kind k kind.Function ≡ false → (IsPlain x path → IsInner (environments x path)) → IsInner (environments x path)
    further k e h later = later (inl (ap (λ b. b && is_statement x) (ap (λ q. same_kind q kind.Function) e ∙ h)))

    go : (k : AstType) → x.kind ≡ k → ((is kind.Function child && is_statement child) ≡ false) ⊎ (is_made_for environment.IfBody (innermost (made_by k x child ++ environments x path)) ≡ false) → (IsPlain x path → IsInner (environments x path)) → IsInner (made_by k x child ++ environments x path)
    go kind.Program e q later = refl
    go kind.Function e q later = function_inner (not (is_outside_body child) && has_parameter_expressions x) x (environments x path)
    go kind.ArrowFunctionExpression e q later = arrow_inner (not (is_outside_body child) && has_parameter_expressions x) x (environments x path)
    go kind.StaticBlock e q later = refl
    go kind.BlockStatement e q later = refl
    go kind.SwitchStatement e q later = block_inner (is kind.SwitchCase child) x (environments x path) (further kind.SwitchStatement e refl later)
    go kind.IfStatement e q later = if_inner (is kind.Function child && is_statement child) child (environments x path) q (further kind.IfStatement e refl later)
    go kind.ForStatement e q later = refl
    go kind.ForInStatement e q later = refl
    go kind.ForOfStatement e q later = refl
    go kind.CatchClause e q later = refl
    go kind.Class e q later = class_inner (is kind.Decorator child) x (environments x path) (further kind.Class e refl later)
    go kind.WithStatement e q later = object_inner (is_body_of_with child) x (environments x path) (further kind.WithStatement e refl later)
    go _ e q later = further _ e refl later

abbrev IsTaker : List Environment → Type 0
IsTaker es = option_map maker_of (first_taking es) ≡ first_taker (makers es)

function_taker : (b : Bool) (x : Node) (es : List Environment) → IsTaker ((cond b (record { kind = environment.Body; maker = x.node_id } ∷ []) [] ++ record { kind = environment.Parameters; maker = x.node_id } ∷ record { kind = environment.OwnName; maker = x.node_id } ∷ []) ++ es)
function_taker true x es = refl
function_taker false x es = refl

arrow_taker : (b : Bool) (x : Node) (es : List Environment) → IsTaker ((cond b (record { kind = environment.Body; maker = x.node_id } ∷ []) [] ++ record { kind = environment.ArrowParameters; maker = x.node_id } ∷ []) ++ es)
arrow_taker true x es = refl
arrow_taker false x es = refl

block_taker : (b : Bool) (x : Node) (es : List Environment) → IsTaker es → IsTaker (cond b (record { kind = environment.Block; maker = x.node_id } ∷ []) [] ++ es)
block_taker true x es h = h
block_taker false x es h = h

if_taker : (b : Bool) (x : Node) (es : List Environment) → IsTaker es → IsTaker (cond b (record { kind = environment.IfBody; maker = x.node_id } ∷ []) [] ++ es)
if_taker true x es h = h
if_taker false x es h = h

class_taker : (b : Bool) (x : Node) (es : List Environment) → IsTaker es → IsTaker (cond b [] (record { kind = environment.Class; maker = x.node_id } ∷ []) ++ es)
class_taker true x es h = h
class_taker false x es h = h

object_taker : (b : Bool) (x : Node) (es : List Environment) → IsTaker es → IsTaker (cond b (record { kind = environment.Object; maker = x.node_id } ∷ []) [] ++ es)
object_taker true x es h = h
object_taker false x es h = h

taker : (child : Node) (path : List Node) → IsTaker (environments child path)
taker child [] = refl
taker child (x ∷ path) = go x.kind (taker x path)
  where
    go : (k : AstType) → IsTaker (environments x path) → IsTaker (made_by k x child ++ environments x path)
    go kind.Program h = refl
    go kind.Function h = function_taker (not (is_outside_body child) && has_parameter_expressions x) x (environments x path)
    go kind.ArrowFunctionExpression h = arrow_taker (not (is_outside_body child) && has_parameter_expressions x) x (environments x path)
    go kind.StaticBlock h = refl
    go kind.SwitchStatement h = block_taker (is kind.SwitchCase child) x (environments x path) h
    go kind.IfStatement h = if_taker (is kind.Function child && is_statement child) child (environments x path) h
    go kind.Class h = class_taker (is kind.Decorator child) x (environments x path) h
    go kind.WithStatement h = object_taker (is_body_of_with child) x (environments x path) h
    go _ h = h

-- ---- both

-- where the first scope is that takes variables, there the first environment is
pub takers_made : (chain : List OpenScope) (child : Node) (path : List Node) → map maker_of_scope chain ≡ makers (environments child path) → option_map opener_of (first_with is_var chain) ≡ option_map maker_of (first_taking (environments child path))
takers_made chain child path same = first_scope chain ∙ ap first_taker same ∙ sym (taker child path)

module _ (chain : List OpenScope) (child : Node) (path : List Node) (same : map maker_of_scope chain ≡ makers (environments child path)) (plain : IsPlain child path) where
  pub innermost_made : maker_of_scope (place.innermost chain) ≡ maker_of_environment (innermost (environments child path))
  innermost_made = innermost_scope chain ∙ ap first_maker same ∙ inner child path plain

  target_made : (o : Option OpenScope) (d : Option Environment) → option_map opener_of o ≡ option_map maker_of d → (route_from chain (passed_before is_var chain) o).target.opener ≡ (environment_or (innermost (environments child path)) d).maker
  target_made None None e = ap maker_node innermost_made
  target_made (Some s) (Some d) e = cc
  target_made None (Some d) e = absurd cc
  target_made (Some s) None e = absurd cc

  pub variables_made : (outward_to is_var chain).target.opener ≡ (variable_environment (environments child path)).maker
  variables_made = target_made (first_with is_var chain) (first_taking (environments child path)) (takers_made chain child path same)
