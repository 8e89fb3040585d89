-- The scopes round each node of an ECMAScript program are its environments.
use Rattle.std.proofs.Common.{◌≡◌, ℕ, ◌==◌, List, [], ◌∷◌, ◌++◌, Option, Some, None, Bool, true, false, ◌&&◌, ◌||◌, not, cond, map, refl, sym, ap, subst, ◌∙◌, inl, inr}
use Rattle.std.specs.Int.RustNames.{bit_and}
use Rattle.std.proofs.lemmas.Bool.{cases_Bool, not-true}
use Rattle.std.proofs.lemmas.Nat.{and_or_apart}
use Rattle.semantic_syntax.specs.declared.scope_flags.TheConstants.ScopeFlags as scope
use Rattle.semantic_syntax.specs.Sets.{meets, union}
use Rattle.semantic_syntax.proofs.Truth.{and_first, and_second, and_false}
use Rattle.semantic_kinds.specs.Kinds.{same_kind}
use Rattle.semantic_kinds.specs.Roles.{same_role}
use Rattle.semantic_kinds.specs.declared.kind.AstType.{AstType}
use Rattle.semantic_kinds.specs.declared.kind.AstType.TheVariants as kind
use Rattle.semantic_kinds.specs.declared.role.Role.{Role}
use Rattle.semantic_kinds.specs.declared.role.Role.TheVariants as role
use Rattle.semantic_tree.specs.Faults.{first_fault}
use Rattle.semantic_tree.specs.Forest.{Forest, nothing, tree}
use Rattle.semantic_tree.specs.Tree.{Tree}
use Rattle.semantic_tree.specs.Views.{is, has_text, has_use_strict, holds, child_of}
use Rattle.semantic_tree.specs.declared.node.Node.{Node}
use Rattle.std.specs.Str.{bytes_eq}
use Rattle.std.specs.Prelude.{codes}
use Rattle.semantic_syntax.specs.SourceTypes.{is_module, is_typescript}
use Rattle.semantic_model.specs.Binder.{is_statement}
use Rattle.semantic_model.specs.Place.{Place, OpenScope, outside, is_strict}
use Rattle.semantic_model.specs.Inside.{is_inside, is_in_header, is_parameter_decorator}
use Rattle.semantic_model.specs.ScopeKind.{strict_if, accessor, value_of, method_flags, flags_of_kind, opened_scope}
use Rattle.semantic_model.specs.Cursor.{on_entering}
use Rattle.semantic_model.specs.Step.{Step, entering, opening, header_ending, closing, leaving, steps_below, steps, root_place, scope_at, child_place, child_scopes}
use Rattle.semantic_model.proofs.steps.Turn.{Turn, turn_at}
use Rattle.semantic_model.proofs.steps.TurnCases.{opening_case, ending_case, last_case}
use Rattle.semantic_model.proofs.steps.EachStep.{EachStep, each_of_node, each_of_turn}
use Rattle.semantic_model.proofs.form.Clauses.{kind_is}
use Rattle.semantic_model.proofs.form.ParameterChains.{is_open_inside}
use Rattle.semantic_model.proofs.form.Shape.{has_form}
use Rattle.language_ties.specs.EcmaScript.{is_ecmascript_kind, has_foreign_mark, is_foreign_text, is_ecmascript_forest, is_ecmascript}
use Rattle.language_ties.specs.Environments.{Environment, is_outside_body, has_parameter_expressions, is_body_of_with, made_by, environments}
use Rattle.language_ties.specs.Scopes.{Maker, maker_of_scope, makers, HasItsEnvironments, HasThem, ScopesAreEnvironments}
use Rattle.language_ties.specs.declared.environment_kind.EnvironmentKind.TheVariants as environment
use Rattle.language_ties.proofs.SwitchShape.{is_case_by_role, cases_stand, program_cases, is_bare_rest, none_bare}
use Rattle.walk_model.proofs.places.Shapes.{holds_below}
use Rattle.binding_laws.proofs.ListLaws.{each_map}
use Rattle.binding_laws.proofs.SmallLaws.{not_empty}
use Rattle.language_ties.proofs.with_bodies.BodyStatements.{is_body_by_role, program_bodies}

-- whether `var` declares in the scope of a node of the kind
abbrev takes : AstType → Bool
takes kind.Program = true
takes kind.Function = true
takes kind.ArrowFunctionExpression = true
takes kind.StaticBlock = true
takes _ = false

meets_apart : (a m : ℕ) → bit_and m scope.Var.bits ≡ 0 → meets (union a m) scope.Var.bits ≡ meets a scope.Var.bits
meets_apart a m e = ap (λ x. not (x == 0)) (and_or_apart scope.Var.bits a m e)

strict_apart : (b : Bool) → bit_and (strict_if b) scope.Var.bits ≡ 0
strict_apart true = refl
strict_apart false = refl

cond_apart : (b : Bool) (x y : ℕ) → bit_and x scope.Var.bits ≡ 0 → bit_and y scope.Var.bits ≡ 0 → bit_and (cond b x y) scope.Var.bits ≡ 0
cond_apart true x y h k = h
cond_apart false x y h k = k

union_apart : (x y : ℕ) → bit_and x scope.Var.bits ≡ 0 → bit_and y scope.Var.bits ≡ 0 → bit_and (union x y) scope.Var.bits ≡ 0
union_apart x y h k = and_or_apart scope.Var.bits x y k ∙ h

accessor_apart : (text : List ℕ) → bit_and (accessor text) scope.Var.bits ≡ 0
accessor_apart text = cond_apart (bytes_eq text (codes "get")) scope.GetAccessor.bits _ refl (cond_apart (bytes_eq text (codes "set")) scope.SetAccessor.bits 0 refl refl)

value_apart : (k : AstType) (text : List ℕ) (node : Node) → bit_and (value_of k text node) scope.Var.bits ≡ 0
value_apart kind.MethodDefinition text node = cond_apart (bytes_eq text (codes "constructor")) scope.Constructor.bits (accessor text) refl (accessor_apart text)
value_apart kind.ObjectProperty text node = cond_apart (has_text (codes "expression") node) (accessor text) 0 (accessor_apart text) refl
value_apart _ text node = refl

method_apart : (path : List Node) (node : Node) → bit_and (method_flags path node) scope.Var.bits ≡ 0
method_apart [] node = refl
method_apart (parent ∷ path) node = value_apart parent.kind parent.text node

kind_takes : (k : AstType) (p : Place) → is_ecmascript_kind k ≡ true → meets (flags_of_kind k p) scope.Var.bits ≡ takes k
kind_takes kind.Program p h = meets_apart scope.Top.bits (strict_if (is_module p.source_type || has_use_strict p.node)) (strict_apart (is_module p.source_type || has_use_strict p.node))
kind_takes kind.Function p h =
    let strict : Bool = holds has_use_strict (child_of role.Body p.node) in
    meets_apart scope.Function.bits (union (strict_if strict) (cond (same_role p.role role.Value) (method_flags p.path p.node) 0))
    (union_apart (strict_if strict) (cond (same_role p.role role.Value) (method_flags p.path p.node) 0) (strict_apart strict)
    (cond_apart (same_role p.role role.Value) (method_flags p.path p.node) 0 (method_apart p.path p.node) refl))
kind_takes kind.ArrowFunctionExpression p h =
    let strict : Bool = holds has_use_strict (child_of role.Body p.node) in
    meets_apart scope.Function.bits (union scope.Arrow.bits (strict_if strict)) (union_apart scope.Arrow.bits (strict_if strict) refl (strict_apart strict))
kind_takes kind.TSNamespaceDeclaration p h = absurd cc
kind_takes kind.TSExternalModuleDeclaration p h = absurd cc
kind_takes kind.TSGlobalDeclaration p h = absurd cc
kind_takes _ p h = refl

opened_maker : (p : Place) (n : ℕ) → is_ecmascript_kind p.node.kind ≡ true → maker_of_scope (opened_scope p n) ≡ record { node = p.node.node_id; takes_variables = takes p.node.kind }
opened_maker p n h =
    let q : meets (union (flags_of_kind p.node.kind p) (strict_if (is_strict p.chain))) scope.Var.bits ≡ takes p.node.kind = meets_apart (flags_of_kind p.node.kind p) (strict_if (is_strict p.chain)) (strict_apart (is_strict p.chain)) ∙ kind_takes p.node.kind p h in
    ap (λ b. record { node = p.node.node_id; takes_variables = b }) q

-- the own scope of a place, once it is open
abbrev OwnMaker : Place → Option OpenScope → Type 0
OwnMaker p None = Unit {0}
OwnMaker p (Some s) = maker_of_scope s ≡ record { node = p.node.node_id; takes_variables = takes p.node.kind }

own_maker : (p : Place) (r : Role) (own : Option OpenScope) (n : ℕ) → is_ecmascript_kind p.node.kind ≡ true → OwnMaker p own → OwnMaker p (scope_at p r own n)
own_maker p r (Some s) n k h = h
own_maker p r None n k h = go (is_inside p.node.kind r)
  where
    go : (b : Bool) → OwnMaker p (cond b (Some (opened_scope p n)) None)
    go true = opened_maker p n k
    go false = tt

-- what the environments of a node add for a child
abbrev with_maker : AstType → Role → Node → List Maker → List Maker
with_maker k r x later = cond (is_inside k r) (record { node = x.node_id; takes_variables = takes k } ∷ later) later

function_makers : (b : Bool) (x : Node) (es : List Environment) → makers ((cond b (record { kind = environment.Body; maker = x.node_id } ∷ []) [] ++ record { kind = environment.Parameters; maker = x.node_id } ∷ record { kind = environment.OwnName; maker = x.node_id } ∷ []) ++ es) ≡ record { node = x.node_id; takes_variables = true } ∷ makers es
function_makers true x es = refl
function_makers false x es = refl

arrow_makers : (b : Bool) (x : Node) (es : List Environment) → makers ((cond b (record { kind = environment.Body; maker = x.node_id } ∷ []) [] ++ record { kind = environment.ArrowParameters; maker = x.node_id } ∷ []) ++ es) ≡ record { node = x.node_id; takes_variables = true } ∷ makers es
arrow_makers true x es = refl
arrow_makers false x es = refl

no_maker : (b : Bool) (x : Node) (es : List Environment) → makers (cond b (record { kind = environment.IfBody; maker = x.node_id } ∷ []) [] ++ es) ≡ makers es
no_maker true x es = refl
no_maker false x es = refl

case_makers : (a b : Bool) (x : Node) (es : List Environment) → cond a b (cond b false true) ≡ true
    → makers (cond b (record { kind = environment.Block; maker = x.node_id } ∷ []) [] ++ es) ≡ cond (a || false) (record { node = x.node_id; takes_variables = false } ∷ makers es) (makers es)
case_makers true true x es h = refl
case_makers true false x es h = absurd cc
case_makers false true x es h = absurd cc
case_makers false false x es h = refl

class_makers : (a b : Bool) (x : Node) (es : List Environment) → a ≡ false → b ≡ false
    → makers (cond b [] (record { kind = environment.Class; maker = x.node_id } ∷ []) ++ es) ≡ cond (not a) (record { node = x.node_id; takes_variables = false } ∷ makers es) (makers es)
class_makers false false x es h k = refl
class_makers true b x es h k = absurd cc
class_makers false true x es h k = absurd cc

with_makers : (a b : Bool) (x : Node) (es : List Environment) → cond b a (not a) ≡ true
    → makers (cond b (record { kind = environment.Object; maker = x.node_id } ∷ []) [] ++ es) ≡ cond (a || false) (record { node = x.node_id; takes_variables = false } ∷ makers es) (makers es)
with_makers true true x es h = refl
with_makers true false x es h = absurd cc
with_makers false true x es h = absurd cc
with_makers false false x es h = refl

no_decorator : (k : AstType) → is_ecmascript_kind k ≡ true → same_kind k kind.Decorator ≡ false
no_decorator k h = elim (cases_Bool (same_kind k kind.Decorator)) [
  | inl e ↦ (let q : is_ecmascript_kind kind.Decorator ≡ true = subst (λ x. is_ecmascript_kind x ≡ true) (kind_is k kind.Decorator e) h in absurd cc)
  | inr e ↦ e
]

made_makers : (k : AstType) (r : Role) (x child : Node) (es : List Environment) → is_ecmascript_kind k ≡ true → is_ecmascript_kind child.kind ≡ true → same_role r role.Decorators ≡ false → is_case_by_role k r child.kind ≡ true
    → is_body_by_role k r child.kind child.text ≡ true → makers (made_by k x child ++ es) ≡ with_maker k r x (makers es)
made_makers kind.Program r x child es h c d s w = refl
made_makers kind.Function r x child es h c d s w = function_makers (not (is_outside_body child) && has_parameter_expressions x) x es
made_makers kind.ArrowFunctionExpression r x child es h c d s w = arrow_makers (not (is_outside_body child) && has_parameter_expressions x) x es
made_makers kind.SwitchStatement r x child es h c d s w = case_makers (same_role r role.Cases) (is kind.SwitchCase child) x es s
made_makers kind.IfStatement r x child es h c d s w = no_maker (is kind.Function child && is_statement child) child es
made_makers kind.Class r x child es h c d s w = class_makers (same_role r role.Decorators) (is kind.Decorator child) x es d (no_decorator child.kind c)
made_makers kind.WithStatement r x child es h c d s w = with_makers (same_role r role.Body) (is_body_of_with child) x es w
made_makers kind.TSNamespaceDeclaration r x child es h c d s w = absurd cc
made_makers kind.TSExternalModuleDeclaration r x child es h c d s w = absurd cc
made_makers kind.TSGlobalDeclaration r x child es h c d s w = absurd cc
made_makers kind.TSTypeAliasDeclaration r x child es h c d s w = absurd cc
made_makers kind.TSInterfaceDeclaration r x child es h c d s w = absurd cc
made_makers kind.TSMethodSignature r x child es h c d s w = absurd cc
made_makers kind.TSMappedType r x child es h c d s w = absurd cc
made_makers kind.TSEnumBody r x child es h c d s w = absurd cc
made_makers kind.TSFunctionType r x child es h c d s w = absurd cc
made_makers kind.TSConstructorType r x child es h c d s w = absurd cc
made_makers kind.TSCallSignatureDeclaration r x child es h c d s w = absurd cc
made_makers kind.TSConstructSignatureDeclaration r x child es h c d s w = absurd cc
made_makers kind.TSConditionalType r x child es h c d s w = absurd cc
made_makers _ r x child es h c d s w = refl

-- what is known of a child of a place
record IsFitChild (p : Place) (r : Role) (node : Node) : Type 0 where
  parent : is_ecmascript_kind p.node.kind ≡ true
  own : is_ecmascript_kind node.kind ≡ true
  undecorated : same_role r role.Decorators ≡ false
  case : is_case_by_role p.node.kind r node.kind ≡ true
  body : is_body_by_role p.node.kind r node.kind node.text ≡ true

-- the child's chain, where its parent's scope is open if the child is inside
module _ (p : Place) (r : Role) (node : Node) (fit : IsFitChild p r node) where
  within_makers : (own : Option OpenScope) → (is_inside p.node.kind r ≡ true → own ≡ None → ⊥) → OwnMaker p own → map maker_of_scope (child_scopes p r own) ≡ with_maker p.node.kind r p.node (map maker_of_scope p.chain)
  within_makers (Some s) is_open o = go (is_inside p.node.kind r)
    where
      go : (b : Bool) → map maker_of_scope (cond b (record s { in_header = is_in_header p.node.kind r } ∷ p.chain) p.chain) ≡ cond b (record { node = p.node.node_id; takes_variables = takes p.node.kind } ∷ map maker_of_scope p.chain) (map maker_of_scope p.chain)
      go true = ap (λ m. m ∷ map maker_of_scope p.chain) o
      go false = refl
  within_makers None is_open o = go (is_inside p.node.kind r) refl
    where
      go : (b : Bool) → is_inside p.node.kind r ≡ b → map maker_of_scope p.chain ≡ cond b (record { node = p.node.node_id; takes_variables = takes p.node.kind } ∷ map maker_of_scope p.chain) (map maker_of_scope p.chain)
      go true e = absurd (is_open e refl)
      go false e = refl

  chain_makers : (own : Option OpenScope) (cursor : ℕ) → (is_inside p.node.kind r ≡ true → own ≡ None → ⊥) → OwnMaker p own → map maker_of_scope (child_place p own cursor r node).chain ≡ with_maker p.node.kind r p.node (map maker_of_scope p.chain)
  chain_makers own cursor is_open o =
      let q : is_parameter_decorator p.node.kind r ≡ false = rw fit.undecorated (and_false _) in
      subst (λ b. map maker_of_scope (cond b (outside p.chain) (child_scopes p r own)) ≡ with_maker p.node.kind r p.node (map maker_of_scope p.chain)) (sym q) (within_makers own is_open o)

  child_has : (own : Option OpenScope) (cursor : ℕ) → (is_inside p.node.kind r ≡ true → own ≡ None → ⊥) → OwnMaker p own → HasItsEnvironments p → HasItsEnvironments (child_place p own cursor r node)
  child_has own cursor is_open o h =
      chain_makers own cursor is_open o ∙ ap (with_maker p.node.kind r p.node) h
      ∙ sym (made_makers p.node.kind r p.node node (environments p.node p.path) fit.parent fit.own fit.undecorated fit.case fit.body)

-- what is known of a place
pub record IsKnown (p : Place) : Type 0 where
  pub round : HasItsEnvironments p
  pub ecmascript : is_ecmascript_kind p.node.kind ≡ true
  pub rooted : p.path ≡ [] → p.node.kind ≡ kind.Program
  pub whole : is_bare_rest p.node p.path ≡ false

abbrev pub KnownAt : Step → Type 0
KnownAt (entering p) = IsKnown p
KnownAt (opening p s) = Unit {0}
KnownAt (header_ending p s) = Unit {0}
KnownAt (closing p s) = Unit {0}
KnownAt (leaving p) = Unit {0}

known_steps : (p : Place) (own : Option OpenScope) (n cursor : ℕ) (f : Forest) → IsKnown p → is_ecmascript_forest f ≡ true → cases_stand p.node.kind f ≡ true → holds_below is_body_by_role p.node.kind f ≡ true → OwnMaker p own → EachStep KnownAt (steps_below p own n cursor f)
known_steps p own n cursor nothing k e c b o = last_case (EachStep KnownAt) p own n tt (tt, (tt, tt))
known_steps p own n cursor (tree r k2 span text marks below id after) k e c b o =
    let node : Node = record { kind = k2; span = span; text = text; marks = marks; children = below; node_id = id } in
    let turn : Turn = turn_at p own n cursor r node after in
    let first : ((is_ecmascript_kind k2 && not (same_role r role.Decorators)) && (not (has_foreign_mark marks) && not (is_foreign_text text))) ≡ true = and_first _ (is_ecmascript_forest below && is_ecmascript_forest after) e in
    let here : (is_ecmascript_kind k2 && not (same_role r role.Decorators)) ≡ true = and_first _ (not (has_foreign_mark marks) && not (is_foreign_text text)) first in
    let forests : (is_ecmascript_forest below && is_ecmascript_forest after) ≡ true = and_second _ (is_ecmascript_forest below && is_ecmascript_forest after) e in
    let cases : (cases_stand k2 below && cases_stand p.node.kind after) ≡ true = and_second (is_case_by_role p.node.kind r k2) (cases_stand k2 below && cases_stand p.node.kind after) c in
    let bodies : (holds_below is_body_by_role k2 below && holds_below is_body_by_role p.node.kind after) ≡ true = and_second (is_body_by_role p.node.kind r k2 text) (holds_below is_body_by_role k2 below && holds_below is_body_by_role p.node.kind after) b in
    let fit : IsFitChild p r node = record {
      parent = k.ecmascript;
      own = and_first (is_ecmascript_kind k2) (not (same_role r role.Decorators)) here;
      undecorated = not-true (same_role r role.Decorators) (and_second (is_ecmascript_kind k2) (not (same_role r role.Decorators)) here);
      case = and_first (is_case_by_role p.node.kind r k2) (cases_stand k2 below && cases_stand p.node.kind after) c;
      body = and_first (is_body_by_role p.node.kind r k2 text) (holds_below is_body_by_role k2 below && holds_below is_body_by_role p.node.kind after) b;
    } in
    let own_is : OwnMaker p turn.scope = own_maker p r own n k.ecmascript o in
    let child_is : IsKnown turn.child = record {
      round = child_has p r node fit turn.scope cursor (is_open_inside p r own n) own_is k.round;
      ecmascript = fit.own;
      rooted = λ q. absurd (not_empty p.node p.path q);
      whole = none_bare p.node.kind r k2 fit.case;
    } in
    each_of_turn KnownAt turn (record {
      before = opening_case (EachStep KnownAt) p r own n tt (tt, tt);
      whole = each_of_node KnownAt turn.child turn.below child_is (known_steps turn.child None turn.next turn.inner below child_is (and_first (is_ecmascript_forest below) (is_ecmascript_forest after) forests) (and_first (cases_stand k2 below) (cases_stand p.node.kind after) cases) (and_first (holds_below is_body_by_role k2 below) (holds_below is_body_by_role p.node.kind after) bodies) tt) tt;
      behind = ending_case (EachStep KnownAt) p r turn.scope after tt (λ s. (tt, tt)) (λ s. (tt, tt)) (λ s. (tt, (tt, tt)));
      others = known_steps p turn.scope turn.rest turn.past after k (and_second (is_ecmascript_forest below) (is_ecmascript_forest after) forests) (and_second (cases_stand k2 below) (cases_stand p.node.kind after) cases) (and_second (holds_below is_body_by_role k2 below) (holds_below is_body_by_role p.node.kind after) bodies) own_is;
    })

-- in a program of ECMAScript without a fault
pub known_program : (p : Tree) → first_fault p ≡ None → is_ecmascript p ≡ true → EachStep KnownAt (steps p)
known_program p h e =
    let root : Place = root_place p in
    let n : ℕ = on_entering p.root.kind 0 in
    let below : List Step = steps_below root None 0 n p.root.children in
    let is_program : p.root.kind ≡ kind.Program = (has_form p h).root in
    let known : IsKnown root = record { round = refl; ecmascript = subst (λ k. is_ecmascript_kind k ≡ true) (sym is_program) refl; rooted = λ q. is_program; whole = and_false (is kind.BindingRestElement p.root) } in
    each_of_node KnownAt root below known (known_steps root None 0 n p.root.children known (and_second (not (is_typescript p.source_type)) (is_ecmascript_forest p.root.children) e) (program_cases p h) (program_bodies p h) tt) tt

has_at : (st : Step) → KnownAt st → HasThem st
has_at (entering p) k = k.round
has_at (opening p s) k = tt
has_at (header_ending p s) k = tt
has_at (closing p s) k = tt
has_at (leaving p) k = tt

pub scopes_are_environments : (p : Tree) → first_fault p ≡ None → is_ecmascript p ≡ true → ScopesAreEnvironments p
scopes_are_environments p h e = each_map KnownAt HasThem has_at (steps p) (known_program p h e)
