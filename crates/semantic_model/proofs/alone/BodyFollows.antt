-- After each place in a catch clause's own scope, the clause's body takes that scope over.
use Rattle.std.proofs.Common.{◌≡◌, ℕ, ◌+◌, ◌==◌, List, [], ◌∷◌, ◌++◌, Option, Some, None, Bool, true, false, cond, ◌&&◌, ◌||◌, inl, inr, refl, sym, subst}
use denote.Enum.Bare.{true_same}
use Rattle.std.proofs.lemmas.Bool.{cases_Bool, or_right, or_left, and_from}
use Rattle.std.proofs.lemmas.Bool.Decides.{eqb_tells}
use Rattle.semantic_syntax.proofs.Truth.{and_first}
use Rattle.semantic_tree.specs.Forest.{Forest, nothing, tree}
use Rattle.semantic_tree.specs.declared.node.Node.{Node}
use Rattle.semantic_kinds.specs.Kinds.{same_kind}
use Rattle.semantic_kinds.specs.Roles.{same_role}
use Rattle.semantic_kinds.specs.contracts.kind.AstType.{the_type as the_kinds}
use Rattle.semantic_kinds.specs.declared.kind.AstType.{AstType}
use Rattle.semantic_kinds.specs.declared.kind.AstType.TheVariants as kind
use Rattle.semantic_kinds.specs.declared.role.Role.{Role}
use Rattle.semantic_kinds.specs.declared.role.Role.TheVariants as role
use Rattle.semantic_tree.specs.Views.{is}
use Rattle.semantic_model.specs.Place.{Place, OpenScope, innermost, outside}
use Rattle.semantic_model.specs.Inside.{opens, is_inside, is_in_header, is_parameter_decorator, scopes_in}
use Rattle.semantic_model.specs.ScopeKind.{opened_scope}
use Rattle.semantic_model.specs.Event.{is_catch_body}
use Rattle.semantic_model.specs.Cursor.{on_entering}
use Rattle.semantic_model.specs.Step.{Step, entering, opening, header_ending, closing, leaving, steps_below, opening_at, ending_after, opening_last, child_place, cursor_past}
use Rattle.semantic_model.proofs.steps.TurnCases.{opening_case, ending_case, last_case}
use Rattle.semantic_model.proofs.steps.Turn.{Turn, turn_at}
use Rattle.semantic_model.proofs.form.Clauses.{kind_is, is_nothing, ends_with_block, later_ends}

pub kind_flips : (a b : AstType) → same_kind a b ≡ true → same_kind b a ≡ true
kind_flips a b h = true_same the_kinds b a (sym (kind_is a b h))

-- a clause's body takes over the scope in the steps
abbrev pub taken_in : ℕ → List Step → Bool
taken_in c [] = false
taken_in c (opening p s ∷ more) = (is_catch_body p && (innermost p.chain).number == c) || taken_in c more
taken_in c (entering p ∷ more) = taken_in c more
taken_in c (header_ending p s ∷ more) = taken_in c more
taken_in c (closing p s ∷ more) = taken_in c more
taken_in c (leaving p ∷ more) = taken_in c more

or_append : (a b d : Bool) → (b ≡ true → d ≡ true) → (a || b) ≡ true → (a || d) ≡ true
or_append true b d f h = refl
or_append false b d f h = f h

pub taken_later : (c : ℕ) (xs ys : List Step) → taken_in c ys ≡ true → taken_in c (xs ++ ys) ≡ true
taken_later c [] ys h = h
taken_later c (opening p s ∷ xs) ys h = or_right (is_catch_body p && (innermost p.chain).number == c) (taken_in c (xs ++ ys)) (taken_later c xs ys h)
taken_later c (entering p ∷ xs) ys h = taken_later c xs ys h
taken_later c (header_ending p s ∷ xs) ys h = taken_later c xs ys h
taken_later c (closing p s ∷ xs) ys h = taken_later c xs ys h
taken_later c (leaving p ∷ xs) ys h = taken_later c xs ys h

pub taken_first : (c : ℕ) (xs ys : List Step) → taken_in c xs ≡ true → taken_in c (xs ++ ys) ≡ true
taken_first c [] ys h = absurd cc
taken_first c (opening p s ∷ xs) ys h = or_append (is_catch_body p && (innermost p.chain).number == c) (taken_in c xs) (taken_in c (xs ++ ys)) (taken_first c xs ys) h
taken_first c (entering p ∷ xs) ys h = taken_first c xs ys h
taken_first c (header_ending p s ∷ xs) ys h = taken_first c xs ys h
taken_first c (closing p s ∷ xs) ys h = taken_first c xs ys h
taken_first c (leaving p ∷ xs) ys h = taken_first c xs ys h

-- if the innermost scope of the chain has a body, that takes it over in the steps
abbrev pub FollowsIn : List OpenScope → List Step → Type 0
FollowsIn chain ss = (b : ℕ) → (innermost chain).body ≡ Some b → taken_in (innermost chain).number ss ≡ true

pub follows_later : (chain : List OpenScope) (xs ys : List Step) → FollowsIn chain ys → FollowsIn chain (xs ++ ys)
follows_later chain xs ys h b e = taken_later (innermost chain).number xs ys (h b e)

-- so it is for each place that is entered
abbrev pub AllFollowed : List Step → Type 0
AllFollowed [] = Unit {0}
AllFollowed (entering p ∷ more) = FollowsIn p.chain more × AllFollowed more
AllFollowed (opening p s ∷ more) = AllFollowed more
AllFollowed (header_ending p s ∷ more) = AllFollowed more
AllFollowed (closing p s ∷ more) = AllFollowed more
AllFollowed (leaving p ∷ more) = AllFollowed more

pub past_opening : (p : Place) (r : Role) (own : Option OpenScope) (n : ℕ) (ys : List Step) → AllFollowed ys → AllFollowed (opening_at p r own n ++ ys)
past_opening p r own n ys h = opening_case (λ xs. AllFollowed (xs ++ ys)) p r own n h h

pub past_last : (p : Place) (own : Option OpenScope) (n : ℕ) (ys : List Step) → AllFollowed ys → AllFollowed (opening_last p own n ++ ys)
past_last p own n ys h = last_case (λ xs. AllFollowed (xs ++ ys)) p own n h h

pub past_ending : (p : Place) (r : Role) (own : Option OpenScope) (after : Forest) (ys : List Step) → AllFollowed ys → AllFollowed (ending_after p r own after ++ ys)
past_ending p r own after ys h = ending_case (λ xs. AllFollowed (xs ++ ys)) p r own after h (λ s. h) (λ s. h) (λ s. h)

-- the body of a clause opens its own scope
body_kind : (q : Place) → is_catch_body q ≡ true → kind.BlockStatement ≡ q.node.kind
body_kind q h = sym (kind_is q.node.kind kind.BlockStatement (and_first (is kind.BlockStatement q.node) (same_role q.role role.Body) (and_first (is kind.BlockStatement q.node && same_role q.role role.Body) _ h)))

own_take : (q : Place) → is_catch_body q ≡ true → (is_catch_body q && (innermost q.chain).number == (innermost q.chain).number) ≡ true
own_take q h = elim (eqb_tells (innermost q.chain).number (innermost q.chain).number) [ inl e ↦ and_from (is_catch_body q) _ h e.0 | inr e ↦ absurd (e.1 refl) ]

pub block_opens : (q : Place) (n cursor : ℕ) (f : Forest) → is_catch_body q ≡ true → taken_in (innermost q.chain).number (steps_below q None n cursor f) ≡ true
block_opens q n cursor nothing h = go (opens q.node.kind) (subst (λ k. opens k ≡ true) (body_kind q h) refl)
  where
    go : (b : Bool) → b ≡ true → taken_in (innermost q.chain).number (cond b (opening q (opened_scope q n) ∷ closing q (opened_scope q n) ∷ []) []) ≡ true
    go true e = or_left (is_catch_body q && (innermost q.chain).number == (innermost q.chain).number) false (own_take q h)
    go false e = e
block_opens q n cursor (tree r k span text marks below id after) h =
    let node : Node = record { kind = k; span = span; text = text; marks = marks; children = below; node_id = id } in
    let turn : Turn = turn_at q None n cursor r node after in
    let c : ℕ = (innermost q.chain).number in
    taken_first c (turn.before ++ turn.whole ++ turn.behind) turn.others (taken_first c (turn.before ++ turn.whole) turn.behind (taken_first c turn.before turn.whole (go (is_inside q.node.kind r) (subst (λ j. is_inside j r ≡ true) (body_kind q h) refl))))
  where
    go : (b : Bool) → b ≡ true → taken_in (innermost q.chain).number (cond b (opening q (opened_scope q n) ∷ []) []) ≡ true
    go true e = or_left (is_catch_body q && (innermost q.chain).number == (innermost q.chain).number) false (own_take q h)
    go false e = e

-- the body child of a clause is its body
pub body_child : (p : Place) (own : Option OpenScope) (cursor : ℕ) (r : Role) (node : Node) → is kind.CatchClause p.node ≡ true → same_role r role.Body ≡ true → is kind.BlockStatement node ≡ true → is_catch_body (child_place p own cursor r node) ≡ true
body_child p own cursor r node h i j = and_from (is kind.BlockStatement node && same_role r role.Body) (is kind.CatchClause p.node) (and_from (is kind.BlockStatement node) (same_role r role.Body) j i) h

-- and stands in the clause's scope
pub body_scope : (p : Place) (s : OpenScope) (cursor : ℕ) (r : Role) (node : Node) → is kind.CatchClause p.node ≡ true → (innermost (child_place p (Some s) cursor r node).chain).number ≡ s.number
body_scope p s cursor r node h = subst (λ k. (innermost (cond (is_parameter_decorator k r) (outside p.chain) (cond (is_inside k r) (record s { in_header = is_in_header k r } ∷ p.chain) p.chain))).number ≡ s.number) (sym (kind_is p.node.kind kind.CatchClause h)) refl

-- a clause that has its body before it takes over its scope
pub body_comes : (p : Place) (s : OpenScope) (n cursor : ℕ) (f : Forest) → is kind.CatchClause p.node ≡ true → ends_with_block f ≡ true → taken_in s.number (steps_below p (Some s) n cursor f) ≡ true
body_comes p s n cursor nothing h e = absurd cc
body_comes p s n cursor (tree r k span text marks below id after) h e =
    let node : Node = record { kind = k; span = span; text = text; marks = marks; children = below; node_id = id } in
    let child : Place = child_place p (Some s) cursor r node in
    let inner : ℕ = on_entering k child.cursor in
    let ys : List Step = steps_below child None n inner below in
    let zs : List Step = entering child ∷ (ys ++ leaving child ∷ []) in
    let es : List Step = ending_after p r (Some s) after in
    let ws : List Step = steps_below p (Some s) (n + cond (opens k) 1 0 + scopes_in below) (cursor_past p r cursor child) after in
    elim (cases_Bool (same_role r role.Body)) [
      | inl i ↦ (let block : is kind.BlockStatement node ≡ true = and_first (same_kind k kind.BlockStatement) (is_nothing after) (rw i at e) in
          taken_first s.number (zs ++ es) ws (taken_first s.number zs es (taken_first s.number ys (leaving child ∷ [])
          (subst (λ c. taken_in c ys ≡ true) (body_scope p s cursor r node h) (block_opens child n inner below (body_child p (Some s) cursor r node h i block))))))
      | inr i ↦ taken_later s.number (zs ++ es) ws (body_comes p s (n + cond (opens k) 1 0 + scopes_in below) (cursor_past p r cursor child) after h (later_ends r k after i e))
    ]
