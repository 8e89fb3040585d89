-- The header of each scope that holds a place ends exactly once.
use Rattle.std.proofs.Common.{◌≡◌, ℕ, zero, suc, ◌+◌, ◌<◌, ◌≤◌, ◌==◌, List, [], ◌∷◌, ◌++◌, Option, Some, None, Bool, true, false, cond, ◌||◌, ◌⊎◌, inl, inr, refl, ap, sym, subst, arith}
use Rattle.std.proofs.lemmas.Bool.{eq-eqb, eqb-false}
use Rattle.std.proofs.lemmas.Bool.Decides.{eqb_tells}
use Rattle.semantic_tree.specs.Forest.{Forest, nothing, tree}
use Rattle.semantic_kinds.specs.declared.role.Role.{Role}
use Rattle.semantic_tree.specs.declared.node.Node.{Node}
use Rattle.semantic_tree.specs.Views.{has_role}
use Rattle.semantic_tree.specs.Tree.{Tree}
use Rattle.semantic_model.specs.Place.{Place, OpenScope, outside}
use Rattle.semantic_model.specs.Inside.{is_inside, is_in_header, header_roles, is_parameter_decorator}
use Rattle.semantic_model.specs.ScopeKind.{opened_scope}
use Rattle.semantic_model.specs.Cursor.{on_entering}
use Rattle.semantic_model.specs.Step.{Step, entering, opening, header_ending, closing, leaving, steps_below, steps, root_place, opening_at, ending_after, opening_last, scope_at, next_at, child_place, child_scopes}
use Rattle.semantic_model.proofs.steps.TurnCases.{opening_case, ending_case, last_case}
use Rattle.semantic_model.proofs.steps.Turn.{Turn, turn_at}
use Rattle.semantic_model.proofs.once.Headers.{ends, ends-append, ends_of_turn, IsNot, none_opening, none_last, none_ending, ends_after, ends_outside, ends_own, parts_sum}
use Rattle.semantic_model.specs.Entries.{Among}

pub less_or : (a b : ℕ) → (a < b) ⊎ (b ≤ a)
less_or a zero = inr (omega arith)
less_or zero (suc b) = inl (omega arith)
less_or (suc a) (suc b) = elim (less_or a b) [ inl h ↦ inl (omega (arith, h)) | inr h ↦ inr (omega (arith, h)) ]

-- an open scope was opened before
abbrev pub OwnBelow : Option OpenScope → ℕ → Type 0
OwnBelow None n = Unit {0}
OwnBelow (Some s) n = s.number < n

own_below : (p : Place) (r : Role) (own : Option OpenScope) (n : ℕ) → OwnBelow own n → OwnBelow (scope_at p r own n) (next_at p r own n)
own_below p r (Some s) n h = h
own_below p r None n h = by (is_inside p.node.kind r)
  where
    by : (b : Bool) → OwnBelow (cond b (Some (opened_scope p n)) None) (cond b (suc n) n)
    by true = omega arith
    by false = tt

own_below_more : (own : Option OpenScope) (n m : ℕ) → n ≤ m → OwnBelow own n → OwnBelow own m
own_below_more None n m h b = tt
own_below_more (Some s) n m h b = omega (arith, h, b)

tells : (c : ℕ) (own : Option OpenScope) → IsNot c own ⊎ (IsNot c own → ⊥)
tells c None = inl tt
tells c (Some s) = elim (eqb_tells s.number c) [ inl h ↦ inr (λ f. eqb-false s.number c f h.1) | inr h ↦ inl h.0 ]

own_less : (c : ℕ) (own : Option OpenScope) (n : ℕ) → (IsNot c own → ⊥) → OwnBelow own n → c < n
own_less c None n is b = absurd (is tt)
own_less c (Some s) n is b = elim (eqb_tells s.number c) [ inl h ↦ omega (arith, h.1, b) | inr h ↦ absurd (is h.0) ]

-- from a child on, the own header ends once if parts of it are left
own_part : (c : ℕ) (p : Place) (r : Role) (own : Option OpenScope) (rest past : ℕ) (after : Forest) → (IsNot c own → ⊥) → OwnBelow own rest → ends c (ending_after p r own after) + ends c (steps_below p own rest past after) ≡ cond (is_in_header p.node.kind r || has_role (header_roles p.node.kind) after) 1 0
own_part c p r None rest past after is b = absurd (is tt)
own_part c p r (Some s) rest past after is b = elim (eqb_tells s.number c) [ inl h ↦ subst (λ d. ends d (ending_after p r (Some s) after) + ends d (steps_below p (Some s) rest past after) ≡ cond (is_in_header p.node.kind r || has_role (header_roles p.node.kind) after) 1 0) h.1 here | inr h ↦ absurd (is h.0) ]
  where
    here : ends s.number (ending_after p r (Some s) after) + ends s.number (steps_below p (Some s) rest past after) ≡ cond (is_in_header p.node.kind r || has_role (header_roles p.node.kind) after) 1 0
    here = omega (arith, ends_after s.number p r s after, ends_own p s rest past after b, parts_sum (is_in_header p.node.kind r) (has_role (header_roles p.node.kind) after) (s.number == s.number) (eq-eqb s.number s.number refl))

bit_le : (b : Bool) → cond b 1 0 ≤ 1
bit_le true = omega arith
bit_le false = omega arith

-- no header ends twice
pub at_most_once : (c : ℕ) (p : Place) (own : Option OpenScope) (n cursor : ℕ) (f : Forest) → OwnBelow own n → ends c (steps_below p own n cursor f) ≤ 1
at_most_once c p own n cursor nothing h = omega (arith, none_last c p own n)
at_most_once c p own n cursor (tree r kind span text marks below id after) h =
    let node : Node = record { kind = kind; span = span; text = text; marks = marks; children = below; node_id = id } in
    let turn : Turn = turn_at p own n cursor r node after in
    let scope_below : OwnBelow turn.scope turn.next = own_below p r own n h in
    let scope_below_rest : OwnBelow turn.scope turn.rest = own_below_more turn.scope turn.next turn.rest (omega arith) scope_below in
    let sum : ends c (turn.before ++ turn.whole ++ turn.behind ++ turn.others) ≡ ends c turn.below + ends c turn.behind + ends c turn.others =
    omega (arith, ends_of_turn c p own n cursor r node after, none_opening c p r own n) in
    elim (tells c turn.scope) [
      | inr is ↦ omega (arith, sum, ends_outside c turn.child None turn.next turn.inner below tt (inl (own_less c turn.scope turn.next is scope_below)), own_part c p r turn.scope turn.rest turn.past after is scope_below_rest, bit_le (is_in_header p.node.kind r || has_role (header_roles p.node.kind) after))
      | inl apart ↦ elim (less_or c turn.rest) [
        | inl l ↦ omega (arith, sum, none_ending c p r turn.scope after apart, ends_outside c p turn.scope turn.rest turn.past after apart (inl l), at_most_once c turn.child None turn.next turn.inner below tt)
        | inr l ↦ omega (arith, sum, none_ending c p r turn.scope after apart, ends_outside c turn.child None turn.next turn.inner below tt (inr (omega (arith, l))), at_most_once c p turn.scope turn.rest turn.past after scope_below_rest)
      ]
    ]

-- a place is entered among the steps
abbrev pub IsEntered : Place → List Step → Type 0
IsEntered q [] = ⊥
IsEntered q (entering p ∷ more) = (p ≡ q) ⊎ IsEntered q more
IsEntered q (opening p s ∷ more) = IsEntered q more
IsEntered q (header_ending p s ∷ more) = IsEntered q more
IsEntered q (closing p s ∷ more) = IsEntered q more
IsEntered q (leaving p ∷ more) = IsEntered q more

pub entered-append : (q : Place) (xs ys : List Step) → IsEntered q (xs ++ ys) → IsEntered q xs ⊎ IsEntered q ys
entered-append q [] ys h = inr h
entered-append q (entering p ∷ xs) ys (inl h) = inl (inl h)
entered-append q (entering p ∷ xs) ys (inr h) = elim (entered-append q xs ys h) [ inl l ↦ inl (inr l) | inr l ↦ inr l ]
entered-append q (opening p s ∷ xs) ys h = entered-append q xs ys h
entered-append q (header_ending p s ∷ xs) ys h = entered-append q xs ys h
entered-append q (closing p s ∷ xs) ys h = entered-append q xs ys h
entered-append q (leaving p ∷ xs) ys h = entered-append q xs ys h

not_in_opening : (q p : Place) (r : Role) (own : Option OpenScope) (n : ℕ) → IsEntered q (opening_at p r own n) → ⊥
not_in_opening q p r own n = opening_case (λ ss. IsEntered q ss → ⊥) p r own n (λ h. h) (λ h. h)

not_in_last : (q p : Place) (own : Option OpenScope) (n : ℕ) → IsEntered q (opening_last p own n) → ⊥
not_in_last q p own n = last_case (λ ss. IsEntered q ss → ⊥) p own n (λ h. h) (λ h. h)

not_in_ending : (q p : Place) (r : Role) (own : Option OpenScope) (after : Forest) → IsEntered q (ending_after p r own after) → ⊥
not_in_ending q p r own after = ending_case (λ ss. IsEntered q ss → ⊥) p r own after (λ h. h) (λ s h. h) (λ s h. h) (λ s h. h)

among_outside : (t : OpenScope) (chain : List OpenScope) → Among t (outside chain) → Among t chain
among_outside t [] h = h
among_outside t (s ∷ ss) h = inr h

-- where a scope of a child's chain comes from: it is around the parent, or the parent's own
record Own (p : Place) (r : Role) (own : Option OpenScope) (t : OpenScope) : Type 0 where
  is : IsNot t.number own → ⊥
  header : t.in_header ≡ is_in_header p.node.kind r

among_within : (p : Place) (r : Role) (own : Option OpenScope) (t : OpenScope) → Among t (child_scopes p r own) → Among t p.chain ⊎ Own p r own t
among_within p r None t h = inl h
among_within p r (Some s) t h = by (is_inside p.node.kind r) h
  where
    by : (b : Bool) → Among t (cond b (record s { in_header = is_in_header p.node.kind r } ∷ p.chain) p.chain) → Among t p.chain ⊎ Own p r (Some s) t
    by true (inl e) = inr (record { is = λ f. eqb-false s.number t.number f (ap (λ x. x.number) e); header = sym (ap (λ x. x.in_header) e) })
    by true (inr h) = inl h
    by false h = inl h

child_chain : (p : Place) (own : Option OpenScope) (cursor : ℕ) (r : Role) (node : Node) (t : OpenScope) → Among t (child_place p own cursor r node).chain → Among t p.chain ⊎ Own p r own t
child_chain p own cursor r node t h = by (is_parameter_decorator p.node.kind r) h
  where
    by : (b : Bool) → Among t (cond b (outside p.chain) (child_scopes p r own)) → Among t p.chain ⊎ Own p r own t
    by true h = inl (among_outside t p.chain h)
    by false h = among_within p r own t h

own_header : {p : Place} {r : Role} {own : Option OpenScope} {t : OpenScope} → Own p r own t → t.in_header ≡ true → is_in_header p.node.kind r ≡ true
own_header o held = rw (sym o.header) held

-- a scope of a place's chain is around the given one, or its header ends if it holds the place
abbrev pub Ends : Place → OpenScope → List Step → Type 0
Ends p t all = Among t p.chain ⊎ (t.in_header ≡ true → 1 ≤ ends t.number all)

or_true : (a b : Bool) → a ≡ true → ◌≡◌ {A = ℕ} (cond (a || b) 1 0) 1
or_true a b h = rw h refl

pub at_least_once : (p : Place) (own : Option OpenScope) (n cursor : ℕ) (f : Forest) → OwnBelow own n → (q : Place) → IsEntered q (steps_below p own n cursor f) → (t : OpenScope) → Among t q.chain → Ends p t (steps_below p own n cursor f)
at_least_once p own n cursor nothing h q entered t among = absurd (not_in_last q p own n entered)
at_least_once p own n cursor (tree r kind span text marks below id after) h q entered t among =
    let node : Node = record { kind = kind; span = span; text = text; marks = marks; children = below; node_id = id } in
    let turn : Turn = turn_at p own n cursor r node after in
    let all : List Step = turn.before ++ turn.whole ++ turn.behind ++ turn.others in
    let scope_below_rest : OwnBelow turn.scope turn.rest = own_below_more turn.scope turn.next turn.rest (omega arith) (own_below p r own n h) in
    let sum : ends t.number all ≡ ends t.number turn.below + ends t.number turn.behind + ends t.number turn.others =
    omega (arith, ends_of_turn t.number p own n cursor r node after, none_opening t.number p r own n) in
    let from_child : Among t turn.child.chain → Ends p t all =
    λ at. elim (child_chain p turn.scope cursor r node t at) [
      | inl l ↦ inl l
      | inr own_is ↦ inr (λ held. omega (arith, sum, own_part t.number p r turn.scope turn.rest turn.past after own_is.is scope_below_rest, or_true (is_in_header p.node.kind r) (has_role (header_roles p.node.kind) after) (own_header own_is held)))
    ] in
    let in_child : IsEntered q turn.below → Ends p t all =
    λ inside. elim (at_least_once turn.child None turn.next turn.inner below tt q inside t among) [
      | inl at ↦ from_child at
      | inr some ↦ inr (λ held. omega (arith, sum, some held))
    ] in
    elim (entered-append q (turn.before ++ turn.whole ++ turn.behind) turn.others entered) [
      | inr in_rest ↦ elim (at_least_once p turn.scope turn.rest turn.past after scope_below_rest q in_rest t among) [
        | inl at ↦ inl at
        | inr some ↦ inr (λ held. omega (arith, sum, some held))
      ]
      | inl before ↦ elim (entered-append q (turn.before ++ turn.whole) turn.behind before) [
        | inr in_ending ↦ absurd (not_in_ending q p r turn.scope after in_ending)
        | inl before' ↦ elim (entered-append q turn.before turn.whole before') [
          | inl in_opening ↦ absurd (not_in_opening q p r own n in_opening)
          | inr in_b ↦ elim in_b [
            | inl is ↦ from_child (subst (λ x. Among t x.chain) (sym is) among)
            | inr below_child ↦ elim (entered-append q turn.below (leaving turn.child ∷ []) below_child) [ inl inside ↦ in_child inside | inr nowhere ↦ absurd nowhere ]
          ]
        ]
      ]
    ]

-- the header of a scope that holds a place of the program ends exactly once
pub held_ends_once : (program : Tree) (q : Place) → IsEntered q (steps program) → (t : OpenScope) → Among t q.chain → t.in_header ≡ true → ends t.number (steps program) ≡ 1
held_ends_once program q (inl is) t among held = absurd (subst (λ x. Among t x.chain) (sym is) among)
held_ends_once program q (inr entered) t among held =
    let root : Place = root_place program in
    let inner : ℕ = on_entering root.node.kind root.cursor in
    let below : List Step = steps_below root None 0 inner root.node.children in
    elim (entered-append q below (leaving root ∷ []) entered) [
      | inl inside ↦ elim (at_least_once root None 0 inner root.node.children tt q inside t among) [
        | inl nowhere ↦ absurd nowhere
        | inr some ↦ omega (arith, ends-append t.number below (leaving root ∷ []), some held, at_most_once t.number root None 0 inner root.node.children tt)
      ]
      | inr nowhere ↦ absurd nowhere
    ]
