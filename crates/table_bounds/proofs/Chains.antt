-- The scopes that are open at the steps of a program have small numbers and flags that have names.
use Rattle.std.proofs.Common.{◌≡◌, ℕ, suc, ◌+◌, ◌<◌, ◌≤◌, ◌^◌, ◌||◌, bytes_eq, codes, Bool, true, false, cond, List, [], ◌∷◌, ◌++◌, Option, Some, None, refl, lit<, arith, IfSome}
use Rattle.std.specs.List.{AllByRecursion}
use lib.Bits.{or_lt}
use Rattle.semantic_kinds.specs.Roles.{same_role}
use Rattle.semantic_kinds.specs.declared.kind.AstType.{AstType}
use Rattle.semantic_kinds.specs.declared.kind.AstType.TheVariants as kind
use Rattle.semantic_kinds.specs.declared.role.Role.{Role}
use Rattle.semantic_kinds.specs.declared.role.Role.TheVariants as role
use Rattle.semantic_syntax.specs.FlagNames.{scope_flag_names}
use Rattle.semantic_syntax.specs.Sets.{union}
use Rattle.semantic_syntax.specs.SourceTypes.{is_module}
use Rattle.semantic_syntax.specs.declared.scope_flags.TheConstants.ScopeFlags as scope
use Rattle.semantic_tree.specs.Forest.{Forest, nothing, tree, count}
use Rattle.semantic_tree.specs.Tree.{Tree}
use Rattle.semantic_tree.specs.Views.{is, has_text, has_use_strict, holds, child_of}
use Rattle.semantic_tree.specs.declared.node.Node.{Node}
use Rattle.semantic_model.specs.Ambient.{ambient_inside}
use Rattle.semantic_model.specs.Cursor.{cursor_after, on_entering, on_leaving}
use Rattle.semantic_model.specs.Inside.{opens, is_inside, is_in_header, is_parameter_decorator, scopes_in, body_number}
use Rattle.semantic_model.specs.Place.{Place, OpenScope, outside, is_strict}
use Rattle.semantic_model.specs.ScopeKind.{strict_if, strict_by_body, accessor, value_of, method_flags, flags_of_kind, opened_scope}
use Rattle.semantic_model.specs.Step.{Step, entering, opening, header_ending, closing, leaving, scope_at, next_at, opening_at, ending_after, opening_last, child_scopes, child_place, cursor_past, steps_below, root_place, steps}
use Rattle.semantic_model.proofs.steps.EachStep.{EachStep, each-append, each_of_node}
use Rattle.semantic_model.proofs.steps.Opened.{left_to_open, inside_opens}
use Rattle.semantic_model.proofs.steps.TurnCases.{ending_case}
use Rattle.table_bounds.specs.Tellable.{IsWrittenWhole, HaveNames}
use Rattle.table_bounds.proofs.Cursors.{IsWay, before_way, behind_way, entering_way, leaving_way, after_way}

-- ---- flags

abbrev pub AreScopeFlags : ℕ → Type 0
AreScopeFlags bits = HaveNames scope_flag_names bits

pub both : (x y : ℕ) → AreScopeFlags x → AreScopeFlags y → AreScopeFlags (union x y)
both x y h k = or_lt 13 x y h k

pub either : (b : Bool) (x y : ℕ) → AreScopeFlags x → AreScopeFlags y → AreScopeFlags (cond b x y)
either true x y h k = h
either false x y h k = k

strict_named : (b : Bool) → AreScopeFlags (strict_if b)
strict_named b = either b scope.StrictMode.bits 0 (lit< tt) (lit< tt)

body_named : (node : Node) → AreScopeFlags (strict_by_body node)
body_named node = strict_named (holds has_use_strict (child_of role.Body node))

accessor_named : (text : List ℕ) → AreScopeFlags (accessor text)
accessor_named text =
    either (bytes_eq text (codes "get")) scope.GetAccessor.bits (cond (bytes_eq text (codes "set")) scope.SetAccessor.bits 0) (lit< tt)
    (either (bytes_eq text (codes "set")) scope.SetAccessor.bits 0 (lit< tt) (lit< tt))

value_named : (k : AstType) (text : List ℕ) (node : Node) → AreScopeFlags (value_of k text node)
value_named kind.MethodDefinition text node = either (bytes_eq text (codes "constructor")) scope.Constructor.bits (accessor text) (lit< tt) (accessor_named text)
value_named kind.ObjectProperty text node = either (has_text (codes "expression") node) (accessor text) 0 (accessor_named text) (lit< tt)
value_named _ text node = lit< tt

method_named : (path : List Node) (node : Node) → AreScopeFlags (method_flags path node)
method_named [] node = lit< tt
method_named (parent ∷ path) node = value_named parent.kind parent.text node

kind_named : (k : AstType) (p : Place) → AreScopeFlags (flags_of_kind k p)
kind_named kind.Program p = both scope.Top.bits (strict_if (is_module p.source_type || has_use_strict p.node)) (lit< tt) (strict_named (is_module p.source_type || has_use_strict p.node))
kind_named kind.Class p = lit< tt
kind_named kind.Function p =
    both scope.Function.bits (union (strict_by_body p.node) (cond (same_role p.role role.Value) (method_flags p.path p.node) 0)) (lit< tt)
    (both (strict_by_body p.node) (cond (same_role p.role role.Value) (method_flags p.path p.node) 0) (body_named p.node) (either (same_role p.role role.Value) (method_flags p.path p.node) 0 (method_named p.path p.node) (lit< tt)))
kind_named kind.ArrowFunctionExpression p =
    both scope.Function.bits (union scope.Arrow.bits (strict_by_body p.node)) (lit< tt) (both scope.Arrow.bits (strict_by_body p.node) (lit< tt) (body_named p.node))
kind_named kind.WithStatement p = lit< tt
kind_named kind.CatchClause p = lit< tt
kind_named kind.StaticBlock p = lit< tt
kind_named kind.TSNamespaceDeclaration p = both scope.TsModuleBlock.bits (strict_by_body p.node) (lit< tt) (body_named p.node)
kind_named kind.TSExternalModuleDeclaration p = both scope.TsModuleBlock.bits (strict_by_body p.node) (lit< tt) (body_named p.node)
kind_named kind.TSGlobalDeclaration p = lit< tt
kind_named kind.TSConditionalType p = lit< tt
kind_named _ p = lit< tt

-- ---- scopes

pub record IsBoundedScope (s : OpenScope) : Type 0 where
  pub number : IsWrittenWhole s.number
  pub body : IfSome s.body IsWrittenWhole
  pub flags : AreScopeFlags s.flags

abbrev pub IsBoundedChain : List OpenScope → Type 0
IsBoundedChain = AllByRecursion IsBoundedScope

abbrev limit : ℕ
limit = 4294967296

body_within : (n : ℕ) (f : Forest) → n + scopes_in f < 2 ^ 64 → IfSome (body_number n f) IsWrittenWhole
body_within n nothing h = tt
body_within n (tree r k span text marks below id after) h =
    by (same_role r role.Body) (body_within (n + cond (opens k) 1 0 + scopes_in below) after (omega (arith, h)))
  where
    by : (b : Bool) → IfSome (body_number (n + cond (opens k) 1 0 + scopes_in below) after) IsWrittenWhole → IfSome (cond b (Some n) (body_number (n + cond (opens k) 1 0 + scopes_in below) after)) IsWrittenWhole
    by true later = omega (arith, h)
    by false later = later

opened_bounded : (p : Place) (n : ℕ) → n < limit → scopes_in p.node.children < limit → IsBoundedScope (opened_scope p n)
opened_bounded p n small few = record {
  number = omega (arith, small);
  body = by (is kind.CatchClause p.node);
  flags = both (flags_of_kind p.node.kind p) (strict_if (is_strict p.chain)) (kind_named p.node.kind p) (strict_named (is_strict p.chain));
}
  where
    by : (b : Bool) → IfSome (cond b (body_number (suc n) p.node.children) None) IsWrittenWhole
    by true = body_within (suc n) p.node.children (omega (arith, small, few))
    by false = tt

outside_bounded : (chain : List OpenScope) → IsBoundedChain chain → IsBoundedChain (outside chain)
outside_bounded [] h = tt
outside_bounded (s ∷ ss) h = h.1

-- ---- places

-- the scopes round a place and its cursor are bounded, and so are those below its node
pub record IsBoundedPlace (p : Place) : Type 0 where
  pub chain : IsBoundedChain p.chain
  pub cursor : IsWay p.cursor
  pub below : scopes_in p.node.children < limit

abbrev pub IsBoundedStep : Step → Type 0
IsBoundedStep (entering p) = IsBoundedPlace p
IsBoundedStep (opening p s) = IsBoundedPlace p × IsBoundedScope s × (s.opener ≡ p.node.node_id)
IsBoundedStep (header_ending p s) = Unit {0}
IsBoundedStep (closing p s) = Unit {0}
IsBoundedStep (leaving p) = Unit {0}

within_bounded : (p : Place) (r : Role) (own : Option OpenScope) → IsBoundedChain p.chain → IfSome own IsBoundedScope → IsBoundedChain (child_scopes p r own)
within_bounded p r None h k = h
within_bounded p r (Some s) h k = by (is_inside p.node.kind r)
  where
    by : (b : Bool) → IsBoundedChain (cond b (record s { in_header = is_in_header p.node.kind r } ∷ p.chain) p.chain)
    by true = (record { number = k.number; body = k.body; flags = k.flags }, h)
    by false = h

child_bounded : (p : Place) (own : Option OpenScope) (cursor : ℕ) (r : Role) (node : Node) → IsBoundedPlace p → IfSome own IsBoundedScope → IsWay cursor → scopes_in node.children < limit → IsBoundedPlace (child_place p own cursor r node)
child_bounded p own cursor r node h k way few = record {
  chain = by (is_parameter_decorator p.node.kind r);
  cursor = before_way p.node (ambient_inside p.node p.is_ambient) r node cursor way;
  below = few;
}
  where
    by : (b : Bool) → IsBoundedChain (cond b (outside p.chain) (child_scopes p r own))
    by true = outside_bounded p.chain h.chain
    by false = within_bounded p r own h.chain k

-- ---- steps

opening_bounded : (p : Place) (r : Role) (own : Option OpenScope) (n : ℕ) → IsBoundedPlace p → n + left_to_open own p < limit → EachStep IsBoundedStep (opening_at p r own n)
opening_bounded p r (Some s) n h few = tt
opening_bounded p r None n h few = by (is_inside p.node.kind r)
  where
    by : (b : Bool) → EachStep IsBoundedStep (cond b (opening p (opened_scope p n) ∷ []) [])
    by true = ((h, opened_bounded p n (omega (arith, few)) h.below, refl), tt)
    by false = tt

last_bounded : (p : Place) (own : Option OpenScope) (n : ℕ) → IsBoundedPlace p → n + left_to_open own p < limit → EachStep IsBoundedStep (opening_last p own n)
last_bounded p (Some s) n h few = tt
last_bounded p None n h few = by (opens p.node.kind)
  where
    by : (b : Bool) → EachStep IsBoundedStep (cond b (opening p (opened_scope p n) ∷ closing p (opened_scope p n) ∷ []) [])
    by true = ((h, opened_bounded p n (omega (arith, few)) h.below, refl), (tt, tt))
    by false = tt

scope_bounded : (p : Place) (r : Role) (own : Option OpenScope) (n : ℕ) → IsBoundedPlace p → IfSome own IsBoundedScope → n + left_to_open own p < limit → IfSome (scope_at p r own n) IsBoundedScope
scope_bounded p r (Some s) n h k few = k
scope_bounded p r None n h k few = by (is_inside p.node.kind r)
  where
    by : (b : Bool) → IfSome (cond b (Some (opened_scope p n)) None) IsBoundedScope
    by true = opened_bounded p n (omega (arith, few)) h.below
    by false = tt

-- as many scopes are opened and left to open
next_left : (p : Place) (r : Role) (own : Option OpenScope) (n : ℕ) → next_at p r own n + left_to_open (scope_at p r own n) p ≤ n + left_to_open own p
next_left p r (Some s) n = omega arith
next_left p r None n = by (is_inside p.node.kind r) refl
  where
    by : (b : Bool) → is_inside p.node.kind r ≡ b → cond b (suc n) n + left_to_open (cond b (Some (opened_scope p n)) None) p ≤ n + cond (opens p.node.kind) 1 0
    by true e = let is_opened : opens p.node.kind ≡ true = inside_opens p.node.kind r e in rw is_opened (omega arith)
    by false e = omega arith

steps_bounded : (f : Forest) (p : Place) (own : Option OpenScope) (n cursor : ℕ) → IsBoundedPlace p → IfSome own IsBoundedScope → IsWay cursor → n + left_to_open own p + scopes_in f < limit → EachStep IsBoundedStep (steps_below p own n cursor f)
steps_bounded nothing p own n cursor h k way few = last_bounded p own n h (omega (arith, few))
steps_bounded (tree r kind span text marks below id after) p own n cursor h k way few =
    let node : Node = record { kind = kind; span = span; text = text; marks = marks; children = below; node_id = id } in
    let scope : Option OpenScope = scope_at p r own n in
    let next : ℕ = next_at p r own n in
    let child : Place = child_place p scope cursor r node in
    let fits : next + left_to_open scope p ≤ n + left_to_open own p = next_left p r own n in
    let here : n + left_to_open own p < limit = omega (arith, few) in
    let scope_fits : IfSome scope IsBoundedScope = scope_bounded p r own n h k here in
    let child_fits : IsBoundedPlace child = child_bounded p scope cursor r node h scope_fits way (omega (arith, few)) in
    let entered : ℕ = on_entering kind child.cursor in
    let entered_way : IsWay entered = entering_way kind child.cursor child_fits.cursor in
    let past : ℕ = cursor_past p r cursor child in
    let past_way : IsWay past =
    behind_way p.node.kind r cursor (on_leaving kind (cursor_after node child.is_ambient entered below)) way
    (leaving_way kind (cursor_after node child.is_ambient entered below) (after_way node child.is_ambient entered below entered_way)) in
    let before : EachStep IsBoundedStep (opening_at p r own n) = opening_bounded p r own n h here in
    let inner : EachStep IsBoundedStep (steps_below child None next entered below) = steps_bounded below child None next entered child_fits tt entered_way (omega (arith, few, fits)) in
    let whole : EachStep IsBoundedStep (entering child ∷ (steps_below child None next entered below ++ leaving child ∷ [])) = each_of_node IsBoundedStep child (steps_below child None next entered below) child_fits inner tt in
    let behind : EachStep IsBoundedStep (ending_after p r scope after) = ending_case (EachStep IsBoundedStep) p r scope after tt (λ s. (tt, tt)) (λ s. (tt, tt)) (λ s. (tt, (tt, tt))) in
    let others : EachStep IsBoundedStep (steps_below p scope (next + cond (opens kind) 1 0 + scopes_in below) past after) =
    steps_bounded after p scope (next + cond (opens kind) 1 0 + scopes_in below) past h scope_fits past_way (omega (arith, few, fits)) in
    each-append IsBoundedStep (opening_at p r own n ++ (entering child ∷ (steps_below child None next entered below ++ leaving child ∷ [])) ++ ending_after p r scope after)
    (steps_below p scope (next + cond (opens kind) 1 0 + scopes_in below) past after)
    (each-append IsBoundedStep (opening_at p r own n ++ (entering child ∷ (steps_below child None next entered below ++ leaving child ∷ []))) (ending_after p r scope after)
    (each-append IsBoundedStep (opening_at p r own n) (entering child ∷ (steps_below child None next entered below ++ leaving child ∷ [])) before whole) behind)
    others

one_or_none : (b : Bool) → cond b 1 0 ≤ 1
one_or_none true = omega arith
one_or_none false = omega arith

-- no more scopes open than there are nodes
pub scopes_few : (f : Forest) → scopes_in f ≤ count f
scopes_few nothing = omega arith
scopes_few (tree r kind span text marks below id after) = omega (arith, one_or_none (opens kind), scopes_few below, scopes_few after)

pub bounded_steps : (p : Tree) → count p.root.children < 4294967294 → EachStep IsBoundedStep (steps p)
bounded_steps p few =
    let root : Place = root_place p in
    let below : scopes_in p.root.children < limit = omega (arith, few, scopes_few p.root.children) in
    let zero_way : IsWay 0 = lit< tt in
    let place : IsBoundedPlace root = record { chain = tt; cursor = zero_way; below = below } in
    each_of_node IsBoundedStep root (steps_below root None 0 (on_entering p.root.kind 0) p.root.children) place
    (steps_bounded p.root.children root None 0 (on_entering p.root.kind 0) place tt (entering_way p.root.kind 0 zero_way) (omega (arith, few, scopes_few p.root.children, one_or_none (opens p.root.kind)))) tt
