-- By which nodes the environments round a node are made.
use Rattle.std.proofs.Common.{◌≡◌, List, [], ◌∷◌, ◌++◌, Option, Some, None, Bool, true, false, ◌&&◌, ◌||◌, not, cond, inl, inr, refl, sym, ap, subst, ◌∙◌}
use denote.Enum.Bare.{same_true}
use Rattle.std.proofs.lemmas.Bool.Decides.{eqb_tells}
use Rattle.semantic_syntax.proofs.Truth.{and_first, and_second}
use Rattle.semantic_kinds.specs.Kinds.{same_kind}
use Rattle.semantic_kinds.specs.declared.kind.AstType.{AstType}
use Rattle.semantic_kinds.specs.declared.kind.AstType.TheVariants as kind
use Rattle.semantic_tree.specs.Views.{is}
use Rattle.semantic_tree.specs.declared.node.Node.{Node}
use Rattle.semantic_model.specs.Binder.{is_statement}
use Rattle.semantic_model.specs.Entries.{Among}
use Rattle.semantic_model.proofs.lists.Members.{among_cases}
use Rattle.language_ties.specs.Environments.{Environment, same_environment_kind, same_environment, is_made_for, has_parameter_expressions, is_outside_body, is_body_of_with, made_by, environments, innermost, takes_variables, first_taking, environment_or, variable_environment}
use Rattle.language_ties.specs.contracts.environment_kind.EnvironmentKind.{the_type as the_kinds}
use Rattle.language_ties.specs.declared.environment_kind.EnvironmentKind.{EnvironmentKind}
use Rattle.language_ties.specs.declared.environment_kind.EnvironmentKind.TheVariants as environment

pub environment_kind_is : (a b : EnvironmentKind) → same_environment_kind a b ≡ true → a ≡ b
environment_kind_is a b h = same_true the_kinds tt a b h

pub same_environment_is : (d e : Environment) → same_environment d e ≡ true → d ≡ e
same_environment_is d e h =
    let k : d.kind ≡ e.kind = environment_kind_is d.kind e.kind (and_first (same_environment_kind d.kind e.kind) _ h) in
    elim (eqb_tells d.maker e.maker) [
      | inl m ↦ (λ i. record { kind = k i; maker = m.1 i })
      | inr m ↦ (let w : false ≡ true = sym m.0 ∙ and_second (same_environment_kind d.kind e.kind) _ h in absurd cc)
    ]

-- the kinds of environments that a node of the kind makes
abbrev pub may_make : AstType → EnvironmentKind → Bool
may_make kind.Program e = same_environment_kind e environment.Global
may_make kind.Function e = same_environment_kind e environment.Body || (same_environment_kind e environment.Parameters || (same_environment_kind e environment.OwnName || same_environment_kind e environment.IfBody))
may_make kind.ArrowFunctionExpression e = same_environment_kind e environment.Body || same_environment_kind e environment.ArrowParameters
may_make kind.StaticBlock e = same_environment_kind e environment.StaticBlock
may_make kind.BlockStatement e = same_environment_kind e environment.Block
may_make kind.SwitchStatement e = same_environment_kind e environment.Block
may_make kind.ForStatement e = same_environment_kind e environment.Loop
may_make kind.ForInStatement e = same_environment_kind e environment.Loop
may_make kind.ForOfStatement e = same_environment_kind e environment.Loop
may_make kind.CatchClause e = same_environment_kind e environment.Catch
may_make kind.Class e = same_environment_kind e environment.Class
may_make kind.WithStatement e = same_environment_kind e environment.Object
may_make _ e = false

-- a node at the place or above it makes the environment, one of a body only where its parameters have an expression
pub record IsMadeBy (nodes : List Node) (e : Environment) : Type 0 where
  pub maker : Node
  pub among : Among maker nodes
  pub is : e.maker ≡ maker.node_id
  pub makes : may_make maker.kind e.kind ≡ true
  pub body : is_made_for environment.Body e ≡ true → has_parameter_expressions maker ≡ true

made_more : (x : Node) (nodes : List Node) (e : Environment) → IsMadeBy nodes e → IsMadeBy (x ∷ nodes) e
made_more x nodes e h = record { maker = h.maker; among = inr h.among; is = h.is; makes = h.makes; body = h.body }

-- one environment of a node
made_one : (nodes : List Node) (x : Node) (k : EnvironmentKind) (e : Environment) → Among x nodes → may_make x.kind k ≡ true → same_environment_kind k environment.Body ≡ false → Among e (record { kind = k; maker = x.node_id } ∷ []) → IsMadeBy nodes e
made_one nodes x k e a m b (inl q) = record {
  maker = x;
  among = a;
  is = sym (ap (λ d. d.maker) q);
  makes = subst (λ d. may_make x.kind d.kind ≡ true) q m;
  body = λ h. (let w : false ≡ true = sym (subst (λ d. same_environment_kind d.kind environment.Body ≡ false) q b) ∙ h in absurd cc);
}
made_one nodes x k e a m b (inr q) = absurd q

made_if : (b : Bool) (nodes : List Node) (x : Node) (k : EnvironmentKind) (e : Environment) → Among x nodes → (b ≡ true → may_make x.kind k ≡ true) → same_environment_kind k environment.Body ≡ false → Among e (cond b (record { kind = k; maker = x.node_id } ∷ []) []) → IsMadeBy nodes e
made_if true nodes x k e a m n h = made_one nodes x k e a (m refl) n h
made_if false nodes x k e a m n h = absurd h

made_unless : (b : Bool) (nodes : List Node) (x : Node) (k : EnvironmentKind) (e : Environment) → Among x nodes → may_make x.kind k ≡ true → same_environment_kind k environment.Body ≡ false → Among e (cond b [] (record { kind = k; maker = x.node_id } ∷ [])) → IsMadeBy nodes e
made_unless true nodes x k e a m n h = absurd h
made_unless false nodes x k e a m n h = made_one nodes x k e a m n h

-- the body's own environment of a function
made_body : (b c : Bool) (nodes : List Node) (x : Node) (e : Environment) → Among x nodes → may_make x.kind environment.Body ≡ true → has_parameter_expressions x ≡ c → Among e (cond (b && c) (record { kind = environment.Body; maker = x.node_id } ∷ []) []) → IsMadeBy nodes e
made_body true true nodes x e a m h (inl q) = record { maker = x; among = a; is = sym (ap (λ d. d.maker) q); makes = subst (λ d. may_make x.kind d.kind ≡ true) q m; body = λ w. h }
made_body true true nodes x e a m h (inr q) = absurd q
made_body true false nodes x e a m h q = absurd q
made_body false c nodes x e a m h q = absurd q

kind_of_node : (k : AstType) (x : Node) (e : EnvironmentKind) → x.kind ≡ k → may_make k e ≡ true → may_make x.kind e ≡ true
kind_of_node k x e q h = subst (λ i. may_make i e ≡ true) (sym q) h

function_is : (child : Node) → (is kind.Function child && is_statement child) ≡ true → same_kind child.kind kind.Function ≡ true
function_is child h = and_first (is kind.Function child) (is_statement child) h

if_makes : (k : AstType) → same_kind k kind.Function ≡ true → may_make k environment.IfBody ≡ true
if_makes kind.Function h = refl
if_makes _ h = absurd cc

-- ---- of the nodes round a place

made_here : (k : AstType) (x child : Node) (nodes : List Node) (e : Environment) → x.kind ≡ k → Among x nodes → Among child nodes → Among e (made_by k x child) → IsMadeBy nodes e
made_here kind.Program x child nodes e q a b h = made_one nodes x environment.Global e a (kind_of_node kind.Program x environment.Global q refl) refl h
made_here kind.Function x child nodes e q a b h =
    elim (among_cases e (cond (not (is_outside_body child) && has_parameter_expressions x) (record { kind = environment.Body; maker = x.node_id } ∷ []) []) (record { kind = environment.Parameters; maker = x.node_id } ∷ record { kind = environment.OwnName; maker = x.node_id } ∷ []) h) [
      | inl i ↦ made_body (not (is_outside_body child)) (has_parameter_expressions x) nodes x e a (kind_of_node kind.Function x environment.Body q refl) refl i
      | inr i ↦ elim i [
        | inl j ↦ made_one nodes x environment.Parameters e a (kind_of_node kind.Function x environment.Parameters q refl) refl (inl j)
        | inr j ↦ made_one nodes x environment.OwnName e a (kind_of_node kind.Function x environment.OwnName q refl) refl j
      ]
    ]
made_here kind.ArrowFunctionExpression x child nodes e q a b h =
    elim (among_cases e (cond (not (is_outside_body child) && has_parameter_expressions x) (record { kind = environment.Body; maker = x.node_id } ∷ []) []) (record { kind = environment.ArrowParameters; maker = x.node_id } ∷ []) h) [
      | inl i ↦ made_body (not (is_outside_body child)) (has_parameter_expressions x) nodes x e a (kind_of_node kind.ArrowFunctionExpression x environment.Body q refl) refl i
      | inr i ↦ made_one nodes x environment.ArrowParameters e a (kind_of_node kind.ArrowFunctionExpression x environment.ArrowParameters q refl) refl i
    ]
made_here kind.StaticBlock x child nodes e q a b h = made_one nodes x environment.StaticBlock e a (kind_of_node kind.StaticBlock x environment.StaticBlock q refl) refl h
made_here kind.BlockStatement x child nodes e q a b h = made_one nodes x environment.Block e a (kind_of_node kind.BlockStatement x environment.Block q refl) refl h
made_here kind.SwitchStatement x child nodes e q a b h = made_if (is kind.SwitchCase child) nodes x environment.Block e a (λ i. kind_of_node kind.SwitchStatement x environment.Block q refl) refl h
made_here kind.IfStatement x child nodes e q a b h = made_if (is kind.Function child && is_statement child) nodes child environment.IfBody e b (λ i. if_makes child.kind (function_is child i)) refl h
made_here kind.ForStatement x child nodes e q a b h = made_one nodes x environment.Loop e a (kind_of_node kind.ForStatement x environment.Loop q refl) refl h
made_here kind.ForInStatement x child nodes e q a b h = made_one nodes x environment.Loop e a (kind_of_node kind.ForInStatement x environment.Loop q refl) refl h
made_here kind.ForOfStatement x child nodes e q a b h = made_one nodes x environment.Loop e a (kind_of_node kind.ForOfStatement x environment.Loop q refl) refl h
made_here kind.CatchClause x child nodes e q a b h = made_one nodes x environment.Catch e a (kind_of_node kind.CatchClause x environment.Catch q refl) refl h
made_here kind.Class x child nodes e q a b h = made_unless (is kind.Decorator child) nodes x environment.Class e a (kind_of_node kind.Class x environment.Class q refl) refl h
made_here kind.WithStatement x child nodes e q a b h = made_if (is_body_of_with child) nodes x environment.Object e a (λ i. kind_of_node kind.WithStatement x environment.Object q refl) refl h
made_here _ x child nodes e q a b h = absurd h

pub made_in : (child : Node) (path : List Node) (e : Environment) → Among e (environments child path) → IsMadeBy (child ∷ path) e
made_in child [] e a = absurd a
made_in child (x ∷ path) e a = elim (among_cases e (made_by x.kind x child) (environments x path) a) [
  | inl h ↦ made_here x.kind x child (child ∷ x ∷ path) e refl (inr (inl refl)) (inl refl) h
  | inr h ↦ made_more child (x ∷ path) e (made_in x path e h)
]

-- ---- the innermost, and where variables go

-- below a program there is an environment
abbrev pub EndsAtProgram : Node → List Node → Type 0
EndsAtProgram node [] = node.kind ≡ kind.Program
EndsAtProgram node (x ∷ path) = EndsAtProgram x path

innermost_of : (es fs : List Environment) → Among (innermost fs) fs → Among (innermost (es ++ fs)) (es ++ fs)
innermost_of [] fs a = a
innermost_of (e ∷ es) fs a = inl refl

pub innermost_among : (child x : Node) (path : List Node) → EndsAtProgram x path → Among (innermost (environments child (x ∷ path))) (environments child (x ∷ path))
innermost_among child x [] h = subst (λ k. Among (innermost (made_by k x child ++ [])) (made_by k x child ++ [])) (sym h) (inl refl)
innermost_among child x (y ∷ path) h = innermost_of (made_by x.kind x child) (environments x (y ∷ path)) (innermost_among x y path h)

-- the first that takes variables is there, or the innermost
pub taking_among : (es : List Environment) (e : Environment) → first_taking es ≡ Some e → Among e es
taking_among [] e h = absurd cc
taking_among (d ∷ es) e h = go (takes_variables d) h (taking_among es e)
  where
    go : (b : Bool) → cond b (Some d) (first_taking es) ≡ Some e → (first_taking es ≡ Some e → Among e es) → Among e (d ∷ es)
    go true q later = inl cc
    go false q later = inr (later q)

pub variable_among : (es : List Environment) → Among (innermost es) es → Among (variable_environment es) es
variable_among es a = go (first_taking es) refl
  where
    go : (o : Option Environment) → first_taking es ≡ o → Among (environment_or (innermost es) o) es
    go None q = a
    go (Some e) q = taking_among es e q

-- the innermost is no own name's, and a function's in the body of an `if` round that function alone
abbrev pub IsUsual : Environment → Type 0
IsUsual e = (is_made_for environment.OwnName e ≡ false) × (is_made_for environment.IfBody e ≡ false)

usual_of : (es fs : List Environment) → ((e : Environment) (ds : List Environment) → es ≡ e ∷ ds → IsUsual e) → IsUsual (innermost fs) → IsUsual (innermost (es ++ fs))
usual_of [] fs h k = k
usual_of (e ∷ es) fs h k = h e es refl

pub innermost_usual : (child : Node) (path : List Node) → (is kind.Function child && is_statement child) ≡ false → IsUsual (innermost (environments child path))
innermost_usual child [] n = (refl, refl)
innermost_usual child (x ∷ path) n = go x.kind refl (λ h. innermost_usual x path h)
  where
    further : (k : AstType) → x.kind ≡ k → same_kind k kind.Function ≡ false → ((is kind.Function x && is_statement x) ≡ false → IsUsual (innermost (environments x path))) → IsUsual (innermost (environments x path))
    further k e h later = later (ap (λ b. b && is_statement x) (ap (λ q. same_kind q kind.Function) e ∙ h))

    one_or : (b : Bool) (e : Environment) → IsUsual e → IsUsual (innermost (environments x path)) → IsUsual (innermost (cond b (e ∷ []) [] ++ environments x path))
    one_or true e h k = h
    one_or false e h k = k

    unless : (b : Bool) (e : Environment) → IsUsual e → IsUsual (innermost (environments x path)) → IsUsual (innermost (cond b [] (e ∷ []) ++ environments x path))
    unless true e h k = k
    unless false e h k = h

    body_or : (b : Bool) (e : Environment) (es : List Environment) → IsUsual e → IsUsual (innermost ((cond b (record { kind = environment.Body; maker = x.node_id } ∷ []) [] ++ e ∷ es) ++ environments x path))
    body_or true e es h = (refl, refl)
    body_or false e es h = h

    never : (b : Bool) → b ≡ false → IsUsual (innermost (environments x path)) → IsUsual (innermost (cond b (record { kind = environment.IfBody; maker = child.node_id } ∷ []) [] ++ environments x path))
    never true e k = absurd cc
    never false e k = k

    go : (k : AstType) → x.kind ≡ k → ((is kind.Function x && is_statement x) ≡ false → IsUsual (innermost (environments x path))) → IsUsual (innermost (made_by k x child ++ environments x path))
    go kind.Program e later = (refl, refl)
    go kind.Function e later = body_or (not (is_outside_body child) && has_parameter_expressions x) (record { kind = environment.Parameters; maker = x.node_id }) (record { kind = environment.OwnName; maker = x.node_id } ∷ []) (refl, refl)
    go kind.ArrowFunctionExpression e later = body_or (not (is_outside_body child) && has_parameter_expressions x) (record { kind = environment.ArrowParameters; maker = x.node_id }) [] (refl, refl)
    go kind.StaticBlock e later = (refl, refl)
    go kind.BlockStatement e later = (refl, refl)
    go kind.SwitchStatement e later = one_or (is kind.SwitchCase child) (record { kind = environment.Block; maker = x.node_id }) (refl, refl) (further kind.SwitchStatement e refl later)
    go kind.IfStatement e later = never (is kind.Function child && is_statement child) n (further kind.IfStatement e refl later)
    go kind.ForStatement e later = (refl, refl)
    go kind.ForInStatement e later = (refl, refl)
    go kind.ForOfStatement e later = (refl, refl)
    go kind.CatchClause e later = (refl, refl)
    go kind.Class e later = unless (is kind.Decorator child) (record { kind = environment.Class; maker = x.node_id }) (refl, refl) (further kind.Class e refl later)
    go kind.WithStatement e later = one_or (is_body_of_with child) (record { kind = environment.Object; maker = x.node_id }) (refl, refl) (further kind.WithStatement e refl later)
    go _ e later = further _ e refl later

-- an environment that takes variables is neither
pub taking_usual : (e : Environment) → takes_variables e ≡ true → IsUsual e
taking_usual e h = go e.kind h
  where
    go : (k : EnvironmentKind) → takes_variables (record { kind = k; maker = e.maker }) ≡ true → IsUsual (record { kind = k; maker = e.maker })
    go environment.OwnName q = absurd cc
    go environment.IfBody q = absurd cc
    go environment.Object q = absurd cc
    go environment.Block q = absurd cc
    go environment.Loop q = absurd cc
    go environment.Catch q = absurd cc
    go environment.Class q = absurd cc
    go _ q = (refl, refl)
