-- The scopes that a `var` passes are those of the environments that it passes.
use Rattle.std.proofs.Common.{◌≡◌, ℕ, List, [], ◌∷◌, ◌++◌, Option, Some, None, Bool, true, false, ◌&&◌, not, cond, map, inl, inr, refl, sym, ap, subst, ◌∙◌}
use Rattle.std.proofs.lemmas.Bool.Decides.{eqb_tells}
use Rattle.semantic_kinds.specs.declared.kind.AstType.{AstType}
use Rattle.semantic_kinds.specs.declared.kind.AstType.TheVariants as kind
use Rattle.semantic_syntax.specs.Members.{contains}
use Rattle.semantic_tree.specs.Views.{is}
use Rattle.semantic_tree.specs.declared.node.Node.{Node}
use Rattle.semantic_model.specs.Binder.{is_statement, is_var}
use Rattle.semantic_model.specs.Declaration.{passed_before, first_with, route_from, outward_to}
use Rattle.semantic_model.specs.Entries.{Among}
use Rattle.semantic_model.specs.Place.{OpenScope}
use Rattle.language_ties.specs.Environments.{Environment, is_outside_body, has_parameter_expressions, is_body_of_with, made_by, environments, innermost, takes_variables, passed, first_taking, environment_or, variable_environment}
use Rattle.language_ties.specs.Scopes.{Maker, maker_of_scope, maker_of_environment, has_scope, makers}
use Rattle.language_ties.specs.declared.environment_kind.EnvironmentKind.TheVariants as environment
use Rattle.language_ties.proofs.agree.MadeEnvironments.{EndsAtProgram}

-- the makers before the first where `var` declares
abbrev before_taker : List Maker → List Maker
before_taker [] = []
before_taker (m ∷ ms) = cond m.takes_variables [] (m ∷ before_taker ms)

scopes_before : (chain : List OpenScope) → map maker_of_scope (passed_before is_var chain) ≡ before_taker (map maker_of_scope chain)
scopes_before [] = refl
scopes_before (s ∷ ss) = go (is_var s) (scopes_before ss)
  where
    go : (b : Bool) → map maker_of_scope (passed_before is_var ss) ≡ before_taker (map maker_of_scope ss) → map maker_of_scope (cond b [] (s ∷ passed_before is_var ss)) ≡ cond b [] (maker_of_scope s ∷ before_taker (map maker_of_scope ss))
    go true h = refl
    go false h = ap (λ ms. maker_of_scope s ∷ ms) h

abbrev IsBefore : List Environment → Type 0
IsBefore es = makers (passed es) ≡ before_taker (makers es)

function_before : (b : Bool) (x : Node) (es : List Environment) → IsBefore ((cond b (record { kind = environment.Body; maker = x.node_id } ∷ []) [] ++ record { kind = environment.Parameters; maker = x.node_id } ∷ record { kind = environment.OwnName; maker = x.node_id } ∷ []) ++ es)
function_before true x es = refl
function_before false x es = refl

arrow_before : (b : Bool) (x : Node) (es : List Environment) → IsBefore ((cond b (record { kind = environment.Body; maker = x.node_id } ∷ []) [] ++ record { kind = environment.ArrowParameters; maker = x.node_id } ∷ []) ++ es)
arrow_before true x es = refl
arrow_before false x es = refl

block_before : (b : Bool) (x : Node) (es : List Environment) → IsBefore es → IsBefore (cond b (record { kind = environment.Block; maker = x.node_id } ∷ []) [] ++ es)
block_before true x es h = ap (λ ms. record { node = x.node_id; takes_variables = false } ∷ ms) h
block_before false x es h = h

one_before : (m : ℕ) (es : List Environment) → makers (passed es) ≡ before_taker (makers es) → record { node = m; takes_variables = false } ∷ makers (passed es) ≡ record { node = m; takes_variables = false } ∷ before_taker (makers es)
one_before m es h = ap (λ ms. record { node = m; takes_variables = false } ∷ ms) h

if_before : (b : Bool) (x : Node) (es : List Environment) → IsBefore es → IsBefore (cond b (record { kind = environment.IfBody; maker = x.node_id } ∷ []) [] ++ es)
if_before true x es h = h
if_before false x es h = h

class_before : (b : Bool) (x : Node) (es : List Environment) → IsBefore es → IsBefore (cond b [] (record { kind = environment.Class; maker = x.node_id } ∷ []) ++ es)
class_before true x es h = h
class_before false x es h = one_before x.node_id es h

object_before : (b : Bool) (x : Node) (es : List Environment) → IsBefore es → IsBefore (cond b (record { kind = environment.Object; maker = x.node_id } ∷ []) [] ++ es)
object_before true x es h = one_before x.node_id es h
object_before false x es h = h

environments_before : (child : Node) (path : List Node) → IsBefore (environments child path)
environments_before child [] = refl
environments_before child (x ∷ path) = go x.kind (environments_before x path)
  where
    go : (k : AstType) → IsBefore (environments x path) → IsBefore (made_by k x child ++ environments x path)
    go kind.Program h = refl
    go kind.Function h = function_before (not (is_outside_body child) && has_parameter_expressions x) x (environments x path)
    go kind.ArrowFunctionExpression h = arrow_before (not (is_outside_body child) && has_parameter_expressions x) x (environments x path)
    go kind.StaticBlock h = refl
    go kind.BlockStatement h = one_before x.node_id (environments x path) h
    go kind.SwitchStatement h = block_before (is kind.SwitchCase child) x (environments x path) h
    go kind.IfStatement h = if_before (is kind.Function child && is_statement child) child (environments x path) h
    go kind.ForStatement h = one_before x.node_id (environments x path) h
    go kind.ForInStatement h = one_before x.node_id (environments x path) h
    go kind.ForOfStatement h = one_before x.node_id (environments x path) h
    go kind.CatchClause h = one_before x.node_id (environments x path) h
    go kind.Class h = class_before (is kind.Decorator child) x (environments x path) h
    go kind.WithStatement h = object_before (is_body_of_with child) x (environments x path) h
    go _ h = h

-- ---- what is passed

-- an environment that is passed, of the scope's maker
pub record IsPassed (es : List Environment) (s : OpenScope) : Type 0 where
  pub passes : Environment
  pub among : Among passes (passed es)
  pub scoped : has_scope passes ≡ true
  pub maker : passes.maker ≡ s.opener

made_among : (es : List Environment) (m : Maker) → Among m (makers es) → (d : Environment) × Among d es × (has_scope d ≡ true) × (maker_of_environment d ≡ m)
made_among [] m a = absurd a
made_among (d ∷ es) m a = go (has_scope d) refl a (made_among es m)
  where
    go : (b : Bool) → has_scope d ≡ b → Among m (cond b (maker_of_environment d ∷ makers es) (makers es)) → (Among m (makers es) → (c : Environment) × Among c es × (has_scope c ≡ true) × (maker_of_environment c ≡ m)) → (c : Environment) × Among c (d ∷ es) × (has_scope c ≡ true) × (maker_of_environment c ≡ m)
    go true q (inl i) later = (d, inl refl, q, i)
    go true q (inr i) later = let w : (c : Environment) × Among c es × (has_scope c ≡ true) × (maker_of_environment c ≡ m) = later i in (w.0, inr w.1, w.2, w.3)
    go false q i later = let w : (c : Environment) × Among c es × (has_scope c ≡ true) × (maker_of_environment c ≡ m) = later i in (w.0, inr w.1, w.2, w.3)

mapped : (ss : List OpenScope) (s : OpenScope) → Among s ss → Among (maker_of_scope s) (map maker_of_scope ss)
mapped [] s a = absurd a
mapped (t ∷ ss) s (inl i) = inl (ap maker_of_scope i)
mapped (t ∷ ss) s (inr a) = inr (mapped ss s a)

pub passes_scope : (chain : List OpenScope) (child : Node) (path : List Node) (s : OpenScope) → map maker_of_scope chain ≡ makers (environments child path) → Among s (passed_before is_var chain) → IsPassed (environments child path) s
passes_scope chain child path s round a =
    let same : map maker_of_scope (passed_before is_var chain) ≡ makers (passed (environments child path)) = scopes_before chain ∙ ap before_taker round ∙ sym (environments_before child path) in
    let (d, i, j, k) = made_among (passed (environments child path)) (maker_of_scope s) (subst (Among (maker_of_scope s)) same (mapped (passed_before is_var chain) s a)) in
    record { passes = d; among = i; scoped = j; maker = ap (λ m. m.node) k }

-- what is passed takes no variables, and is one of the environments
pub passed_takes_none : (es : List Environment) (d : Environment) → Among d (passed es) → (takes_variables d ≡ false) × Among d es
passed_takes_none [] d a = absurd a
passed_takes_none (c ∷ es) d a = go (takes_variables c) refl a (passed_takes_none es d)
  where
    go : (b : Bool) → takes_variables c ≡ b → Among d (cond b [] (c ∷ passed es)) → (Among d (passed es) → (takes_variables d ≡ false) × Among d es) → (takes_variables d ≡ false) × Among d (c ∷ es)
    go true q i later = absurd i
    go false q (inl i) later = (subst (λ z. takes_variables z ≡ false) i q, inl i)
    go false q (inr i) later = let w : (takes_variables d ≡ false) × Among d es = later i in (w.0, inr w.1)

-- a scope that is passed is one of the chain
pub before_among : (chain : List OpenScope) (s : OpenScope) → Among s (passed_before is_var chain) → Among s chain
before_among [] s a = absurd a
before_among (t ∷ ss) s a = go (is_var t) a (before_among ss s)
  where
    go : (b : Bool) → Among s (cond b [] (t ∷ passed_before is_var ss)) → (Among s (passed_before is_var ss) → Among s ss) → Among s (t ∷ ss)
    go true i later = absurd i
    go false (inl i) later = inl i
    go false (inr i) later = inr (later i)

-- the scope of a number that a route passes
pub scope_of_number : (ss : List OpenScope) (c : ℕ) → contains (map (λ s. s.number) ss) c ≡ true → (s : OpenScope) × Among s ss × (s.number ≡ c)
scope_of_number [] c h = absurd cc
scope_of_number (s ∷ ss) c h = elim (eqb_tells s.number c) [
  | inl k ↦ (s, inl refl, k.1)
  | inr k ↦ (let w : (t : OpenScope) × Among t ss × (t.number ≡ c) = scope_of_number ss c (rw k.0 at h) in (w.0, inr w.1, w.2))
]

pub route_passes : (chain : List OpenScope) (s : OpenScope) → Among s (outward_to is_var chain).passed → Among s (passed_before is_var chain)
route_passes chain s a = go (first_with is_var chain) a
  where
    go : (o : Option OpenScope) → Among s (route_from chain (passed_before is_var chain) o).passed → Among s (passed_before is_var chain)
    go None i = absurd i
    go (Some t) i = i

-- ---- where variables go

taking_later : (es fs : List Environment) → ((d : Environment) × (first_taking fs ≡ Some d)) → (d : Environment) × (first_taking (es ++ fs) ≡ Some d)
taking_later [] fs h = h
taking_later (c ∷ es) fs h = go (takes_variables c) (taking_later es fs h)
  where
    go : (b : Bool) → ((d : Environment) × (first_taking (es ++ fs) ≡ Some d)) → (d : Environment) × (cond b (Some c) (first_taking (es ++ fs)) ≡ Some d)
    go true k = (c, refl)
    go false k = k

-- below a program some environment takes variables
pub takes_some : (child x : Node) (path : List Node) → EndsAtProgram x path → (d : Environment) × (first_taking (environments child (x ∷ path)) ≡ Some d)
takes_some child x [] h = subst (λ k. (d : Environment) × (first_taking (made_by k x child ++ []) ≡ Some d)) (sym h) (record { kind = environment.Global; maker = x.node_id }, refl)
takes_some child x (y ∷ path) h = taking_later (made_by x.kind x child) (environments x (y ∷ path)) (takes_some x y path h)

pub taking_takes : (es : List Environment) (d : Environment) → first_taking es ≡ Some d → takes_variables d ≡ true
taking_takes [] d h = absurd cc
taking_takes (c ∷ es) d h = go (takes_variables c) refl h (taking_takes es d)
  where
    go : (b : Bool) → takes_variables c ≡ b → cond b (Some c) (first_taking es) ≡ Some d → (first_taking es ≡ Some d → takes_variables d ≡ true) → takes_variables d ≡ true
    go true q i later = let w : c ≡ d = cc in subst (λ z. takes_variables z ≡ true) w q
    go false q i later = later i

pub variables_taken : (child x : Node) (path : List Node) → EndsAtProgram x path → takes_variables (variable_environment (environments child (x ∷ path))) ≡ true
variables_taken child x path h =
    let (d, q) = takes_some child x path h in
    subst (λ o. takes_variables (environment_or (innermost (environments child (x ∷ path))) o) ≡ true) (sym q) (taking_takes (environments child (x ∷ path)) d q)
