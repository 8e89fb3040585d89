-- How many scopes open in the steps of a forest.
use Rattle.std.proofs.Common.{◌≡◌, ℕ, suc, ◌+◌, List, [], ◌∷◌, ◌++◌, Option, Some, None, Bool, true, false, cond, refl, arith}
use Rattle.semantic_tree.specs.Forest.{Forest, nothing, tree}
use Rattle.semantic_kinds.specs.declared.kind.AstType.{AstType}
use Rattle.semantic_kinds.specs.declared.role.Role.{Role}
use Rattle.semantic_model.specs.Place.{Place, OpenScope}
use Rattle.semantic_model.specs.Inside.{Inside, no_scope_opens, all_children, only, all_but, inside, opens, is_inside, opens_for, holds_for, scopes_in}
use Rattle.semantic_model.specs.ScopeKind.{opened_scope}
use Rattle.semantic_model.specs.Cursor.{on_entering}
use Rattle.semantic_tree.specs.declared.node.Node.{Node}
use Rattle.semantic_model.specs.Step.{Step, entering, opening, header_ending, closing, leaving, steps_below, steps_of, opening_at, ending_after, opening_last, scope_at, next_at}
use Rattle.semantic_model.proofs.steps.TurnCases.{ending_case}
use Rattle.semantic_model.proofs.steps.Turn.{Turn, turn_at, turn_sum}

-- how many scopes the steps open
abbrev pub openings : List Step → ℕ
openings [] = 0
openings (opening p s ∷ steps) = suc (openings steps)
openings (entering p ∷ steps) = openings steps
openings (header_ending p s ∷ steps) = openings steps
openings (closing p s ∷ steps) = openings steps
openings (leaving p ∷ steps) = openings steps

pub openings-append : (xs ys : List Step) → openings (xs ++ ys) ≡ openings xs + openings ys
openings-append [] ys = omega arith
openings-append (opening p s ∷ xs) ys = omega (arith, openings-append xs ys)
openings-append (entering p ∷ xs) ys = openings-append xs ys
openings-append (header_ending p s ∷ xs) ys = openings-append xs ys
openings-append (closing p s ∷ xs) ys = openings-append xs ys
openings-append (leaving p ∷ xs) ys = openings-append xs ys

inside_opens_for : (i : Inside) (r : Role) → holds_for i r ≡ true → opens_for i ≡ true
inside_opens_for no_scope_opens r h = h
inside_opens_for all_children r h = refl
inside_opens_for (only rs) r h = refl
inside_opens_for (all_but q) r h = refl

-- only a node that opens a scope has children inside it
pub inside_opens : (k : AstType) (r : Role) → is_inside k r ≡ true → opens k ≡ true
inside_opens k r h = inside_opens_for (inside k) r h

-- whether the scope of a place is still to open
abbrev pub left_to_open : Option OpenScope → Place → ℕ
left_to_open (Some s) p = 0
left_to_open None p = cond (opens p.node.kind) 1 0

open_or : (b : Bool) (p : Place) (s : OpenScope) → (b ≡ true → opens p.node.kind ≡ true) → openings (cond b (opening p s ∷ []) []) + left_to_open (cond b (Some s) None) p ≡ cond (opens p.node.kind) 1 0
open_or true p s h = rw (h refl) refl
open_or false p s h = omega arith

opening_here : (p : Place) (r : Role) (own : Option OpenScope) (n : ℕ) → openings (opening_at p r own n) + left_to_open (scope_at p r own n) p ≡ left_to_open own p
opening_here p r (Some s) n = refl
opening_here p r None n = open_or (is_inside p.node.kind r) p (opened_scope p n) (inside_opens p.node.kind r)

-- the number of scopes past the opening
pub next_opened : (p : Place) (r : Role) (own : Option OpenScope) (n : ℕ) → n + openings (opening_at p r own n) ≡ next_at p r own n
next_opened p r (Some s) n = omega arith
next_opened p r None n = by (is_inside p.node.kind r)
  where
    by : (b : Bool) → n + openings (cond b (opening p (opened_scope p n) ∷ []) []) ≡ cond b (suc n) n
    by true = omega arith
    by false = omega arith

-- no scope opens after a child
pub none_after : (p : Place) (r : Role) (own : Option OpenScope) (after : Forest) → openings (ending_after p r own after) ≡ 0
none_after p r own after = ending_case (λ ss. openings ss ≡ 0) p r own after refl (λ s. refl) (λ s. refl) (λ s. refl)

open_last : (b : Bool) (p : Place) (s : OpenScope) → openings (cond b (opening p s ∷ closing p s ∷ []) []) ≡ cond b 1 0
open_last true p s = refl
open_last false p s = refl

opened_last : (p : Place) (own : Option OpenScope) (n : ℕ) → openings (opening_last p own n) ≡ left_to_open own p
opened_last p (Some s) n = refl
opened_last p None n = open_last (opens p.node.kind) p (opened_scope p n)

-- as many scopes open as the forest has nodes that open one, and the scope of the place itself if it is still to open
pub opened_below : (p : Place) (own : Option OpenScope) (n cursor : ℕ) (f : Forest) → openings (steps_below p own n cursor f) ≡ left_to_open own p + scopes_in f
opened_below p own n cursor nothing = omega (arith, opened_last p own n)
opened_below p own n cursor (tree r kind span text marks below id after) =
    let node : Node = record { kind = kind; span = span; text = text; marks = marks; children = below; node_id = id } in
    let turn : Turn = turn_at p own n cursor r node after in
    omega (
      arith,
      turn_sum openings openings-append turn,
      openings-append turn.below (leaving turn.child ∷ []),
      opening_here p r own n,
      none_after p r turn.scope after,
      opened_below turn.child None turn.next turn.inner below,
      opened_below p turn.scope turn.rest turn.past after,
    )

-- as many scopes open in the steps of a node as it and the nodes below it open
pub opened_by_node : (p : Place) (n : ℕ) → openings (steps_of p n) ≡ cond (opens p.node.kind) 1 0 + scopes_in p.node.children
opened_by_node p n =
    omega (
      arith,
      openings-append (steps_below p None n (on_entering p.node.kind p.cursor) p.node.children) (leaving p ∷ []),
      opened_below p None n (on_entering p.node.kind p.cursor) p.node.children,
    )

-- and so many are opened before the children after the first one
pub rest_opened : (p : Place) (own : Option OpenScope) (n cursor : ℕ) (r : Role) (node : Node) (after : Forest) → let turn : Turn = turn_at p own n cursor r node after in n + openings (turn.before ++ turn.whole ++ turn.behind) ≡ turn.rest
rest_opened p own n cursor r node after =
    let turn : Turn = turn_at p own n cursor r node after in
    omega (
      arith,
      openings-append (turn.before ++ turn.whole) turn.behind,
      openings-append turn.before turn.whole,
      next_opened p r own n,
      opened_by_node turn.child turn.next,
      none_after p r turn.scope after,
    )
