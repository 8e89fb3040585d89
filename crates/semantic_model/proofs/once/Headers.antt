-- Headers end within the numbers of their own scopes.
use Rattle.std.proofs.Common.{◌≡◌, ℕ, suc, ◌+◌, ◌<◌, ◌≤◌, ◌==◌, List, [], ◌∷◌, ◌++◌, Option, Some, None, Bool, true, false, cond, not, ◌&&◌, ◌||◌, ◌⊎◌, inl, inr, refl, subst, arith}
use Rattle.std.proofs.lemmas.Bool.{ne_eqb, eq-eqb}
use Rattle.semantic_tree.specs.Forest.{Forest, nothing, tree}
use Rattle.semantic_kinds.specs.declared.role.Role.{Role}
use Rattle.semantic_tree.specs.declared.node.Node.{Node}
use Rattle.semantic_tree.specs.Views.{has_role}
use Rattle.semantic_model.specs.Place.{Place, OpenScope}
use Rattle.semantic_model.specs.Inside.{opens, is_inside, scopes_in, is_in_header, header_roles, any_inside}
use Rattle.semantic_model.specs.ScopeKind.{opened_scope}
use Rattle.semantic_model.specs.Step.{Step, entering, opening, header_ending, closing, leaving, steps_below, opening_at, ending_after, opening_last, scope_at, next_at}
use Rattle.semantic_model.proofs.steps.TurnCases.{opening_case, last_case}
use Rattle.semantic_model.proofs.steps.Turn.{Turn, turn_at, turn_sum}
use Rattle.semantic_model.proofs.steps.Opened.{left_to_open, inside_opens}

-- how often the header of a scope ends
abbrev pub ends : ℕ → List Step → ℕ
ends c [] = 0
ends c (header_ending p s ∷ steps) = cond (s.number == c) 1 0 + ends c steps
ends c (opening p s ∷ steps) = ends c steps
ends c (entering p ∷ steps) = ends c steps
ends c (closing p s ∷ steps) = ends c steps
ends c (leaving p ∷ steps) = ends c steps

pub ends-append : (c : ℕ) (xs ys : List Step) → ends c (xs ++ ys) ≡ ends c xs + ends c ys
ends-append c [] ys = omega arith
ends-append c (header_ending p s ∷ xs) ys = omega (arith, ends-append c xs ys)
ends-append c (opening p s ∷ xs) ys = ends-append c xs ys
ends-append c (entering p ∷ xs) ys = ends-append c xs ys
ends-append c (closing p s ∷ xs) ys = ends-append c xs ys
ends-append c (leaving p ∷ xs) ys = ends-append c xs ys

pub ends_of_turn : (c : ℕ) (p : Place) (own : Option OpenScope) (n cursor : ℕ) (r : Role) (node : Node) (after : Forest)
    → let turn : Turn = turn_at p own n cursor r node after in ends c (turn.before ++ turn.whole ++ turn.behind ++ turn.others) ≡ ends c turn.before + ends c turn.below + ends c turn.behind + ends c turn.others
ends_of_turn c p own n cursor r node after =
    let turn : Turn = turn_at p own n cursor r node after in omega (arith, turn_sum (ends c) (ends-append c) turn, ends-append c turn.below (leaving turn.child ∷ []))

-- the number is not that of the scope
abbrev pub IsNot : ℕ → Option OpenScope → Type 0
IsNot c None = Unit {0}
IsNot c (Some s) = (s.number == c) ≡ false

-- the number lies outside of those that are opened from n on
abbrev pub LiesOutside : ℕ → ℕ → ℕ → Type 0
LiesOutside c n count = (c < n) ⊎ (n + count ≤ c)

pub none_opening : (c : ℕ) (p : Place) (r : Role) (own : Option OpenScope) (n : ℕ) → ends c (opening_at p r own n) ≡ 0
none_opening c p r own n = opening_case (λ ss. ends c ss ≡ 0) p r own n refl refl

pub none_last : (c : ℕ) (p : Place) (own : Option OpenScope) (n : ℕ) → ends c (opening_last p own n) ≡ 0
none_last c p own n = last_case (λ ss. ends c ss ≡ 0) p own n refl refl

ending_by : (c : ℕ) (a b : Bool) (p : Place) (s : OpenScope) → ends c (cond a (header_ending p s ∷ []) [] ++ cond b (closing p s ∷ []) []) ≡ cond a (cond (s.number == c) 1 0) 0
ending_by c true true p s = omega arith
ending_by c true false p s = omega arith
ending_by c false true p s = refl
ending_by c false false p s = refl

-- after a child the header of the own scope ends, if it was the last part
pub ends_after : (c : ℕ) (p : Place) (r : Role) (s : OpenScope) (after : Forest) → ends c (ending_after p r (Some s) after) ≡ cond (is_in_header p.node.kind r && not (has_role (header_roles p.node.kind) after)) (cond (s.number == c) 1 0) 0
ends_after c p r s after =
    ending_by c (is_in_header p.node.kind r && not (has_role (header_roles p.node.kind) after)) (is_inside p.node.kind r && not (any_inside p.node.kind after)) p s

none_for : (a : Bool) (b : Bool) → b ≡ false → ◌≡◌ {A = ℕ} (cond a (cond b 1 0) 0) 0
none_for true b e = rw e refl
none_for false b e = refl

pub none_ending : (c : ℕ) (p : Place) (r : Role) (own : Option OpenScope) (after : Forest) → IsNot c own → ends c (ending_after p r own after) ≡ 0
none_ending c p r None after h = refl
none_ending c p r (Some s) after h =
    rw (ends_after c p r s after) (none_for (is_in_header p.node.kind r && not (has_role (header_roles p.node.kind) after)) (s.number == c) h)

-- a number outside of a range is outside of its two parts
outside_child : (c n next left left' k after : ℕ) → n ≤ next → next + left' ≡ n + left → LiesOutside c n (left + (k + after)) → LiesOutside c next k
outside_child c n next left left' k after h e (inl l) = inl (omega arith)
outside_child c n next left left' k after h e (inr l) = inr (omega arith)

outside_rest : (c n next left left' k m after : ℕ) → n ≤ next → next + left' ≡ n + left → m ≡ next + k → LiesOutside c n (left + (k + after)) → LiesOutside c m (left' + after)
outside_rest c n next left left' k m after h e q (inl l) = inl (omega arith)
outside_rest c n next left left' k m after h e q (inr l) = inr (omega arith)

pub later : (p : Place) (r : Role) (own : Option OpenScope) (n : ℕ) → n ≤ next_at p r own n
later p r (Some s) n = omega arith
later p r None n = by (is_inside p.node.kind r)
  where
    by : (b : Bool) → n ≤ cond b (suc n) n
    by true = omega arith
    by false = omega arith

-- what is opened here is no longer to open
balance : (p : Place) (r : Role) (own : Option OpenScope) (n : ℕ) → next_at p r own n + left_to_open (scope_at p r own n) p ≡ n + left_to_open own p
balance p r (Some s) n = refl
balance p r None n = by (is_inside p.node.kind r) (inside_opens p.node.kind r)
  where
    by : (b : Bool) → (b ≡ true → opens p.node.kind ≡ true) → cond b (suc n) n + left_to_open (cond b (Some (opened_scope p n)) None) p ≡ n + cond (opens p.node.kind) 1 0
    by true h = rw (h refl) (omega arith)
    by false h = refl

own_after : (c : ℕ) (p : Place) (r : Role) (own : Option OpenScope) (n count : ℕ) → IsNot c own → LiesOutside c n (left_to_open own p + count) → IsNot c (scope_at p r own n)
own_after c p r (Some s) n count h l = h
own_after c p r None n count h l = by (is_inside p.node.kind r) (inside_opens p.node.kind r) l
  where
    apart : LiesOutside c n (1 + count) → n ≡ c → ⊥
    apart (inl l) e = absurd (omega arith)
    apart (inr l) e = absurd (omega arith)

    by : (b : Bool) → (b ≡ true → opens p.node.kind ≡ true) → LiesOutside c n (cond (opens p.node.kind) 1 0 + count) → IsNot c (cond b (Some (opened_scope p n)) None)
    by true h l = ne_eqb n c (apart (subst (λ b. LiesOutside c n (cond b 1 0 + count)) (h refl) l))
    by false h l = tt

-- no header ends below a place but its own and those of the scopes that open there
pub ends_outside : (c : ℕ) (p : Place) (own : Option OpenScope) (n cursor : ℕ) (f : Forest) → IsNot c own → LiesOutside c n (left_to_open own p + scopes_in f) → ends c (steps_below p own n cursor f) ≡ 0
ends_outside c p own n cursor nothing h l = none_last c p own n
ends_outside c p own n cursor (tree r kind span text marks below id after) h l =
    let node : Node = record { kind = kind; span = span; text = text; marks = marks; children = below; node_id = id } in
    let turn : Turn = turn_at p own n cursor r node after in
    let k : ℕ = cond (opens kind) 1 0 + scopes_in below in
    let own_is_not : IsNot c turn.scope = own_after c p r own n (k + scopes_in after) h l in
    omega (
      arith,
      ends_of_turn c p own n cursor r node after,
      none_opening c p r own n,
      none_ending c p r turn.scope after own_is_not,
      ends_outside c turn.child None turn.next turn.inner below tt (outside_child c n turn.next (left_to_open own p) (left_to_open turn.scope p) k (scopes_in after) (later p r own n) (balance p r own n) l),
      ends_outside c p turn.scope turn.rest turn.past after own_is_not (outside_rest c n turn.next (left_to_open own p) (left_to_open turn.scope p) k turn.rest (scopes_in after) (later p r own n) (balance p r own n) (omega arith) l),
    )

pub parts_sum : (a b e : Bool) → e ≡ true → ◌≡◌ {A = ℕ} (cond (a && not b) (cond e 1 0) 0 + cond b 1 0) (cond (a || b) 1 0)
parts_sum true true e h = refl
parts_sum true false e h = rw h refl
parts_sum false true e h = refl
parts_sum false false e h = refl

-- the header of an open scope ends once below its place, if parts of it are left there
pub ends_own : (p : Place) (s : OpenScope) (n cursor : ℕ) (f : Forest) → s.number < n → ends s.number (steps_below p (Some s) n cursor f) ≡ cond (has_role (header_roles p.node.kind) f) 1 0
ends_own p s n cursor nothing h = refl
ends_own p s n cursor (tree r kind span text marks below id after) h =
    let node : Node = record { kind = kind; span = span; text = text; marks = marks; children = below; node_id = id } in
    let turn : Turn = turn_at p (Some s) n cursor r node after in
    omega (
      arith,
      ends_of_turn s.number p (Some s) n cursor r node after,
      ends_outside s.number turn.child None n turn.inner below tt (inl h),
      ends_after s.number p r s after,
      ends_own p s turn.rest turn.past after (omega arith),
      parts_sum (is_in_header p.node.kind r) (has_role (header_roles p.node.kind) after) (s.number == s.number) (eq-eqb s.number s.number refl),
    )
