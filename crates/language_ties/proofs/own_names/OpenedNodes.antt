-- A node of a kind that opens a scope opens one among the steps, which stands in the list of openers with its number.
use Rattle.std.proofs.Common.{◌≡◌, ℕ, suc, List, [], ◌∷◌, ◌++◌, Option, Some, None, Bool, true, false, cond, inl, inr, refl, sym, ap, subst, zero-add}
use Rattle.std.specs.Prelude.{slice_get}
use Rattle.semantic_kinds.specs.declared.kind.AstType.TheVariants as kind
use Rattle.semantic_tree.specs.Forest.{Forest, nothing, tree}
use Rattle.semantic_tree.specs.Tree.{Tree}
use Rattle.semantic_tree.specs.declared.node.Node.{Node}
use Rattle.semantic_model.specs.Cursor.{on_entering}
use Rattle.semantic_model.specs.Entries.{Among}
use Rattle.semantic_model.specs.Inside.{opens, is_inside}
use Rattle.semantic_model.specs.Place.{Place, OpenScope}
use Rattle.semantic_model.specs.ScopeKind.{opened_scope}
use Rattle.semantic_model.specs.Step.{Step, entering, opening, header_ending, closing, leaving, steps_below, steps_of, steps, root_place, opening_at, scope_at}
use Rattle.semantic_model.proofs.lists.Members.{among_left, among_right, among_cases}
use Rattle.semantic_model.proofs.steps.OpenedFrom.{OpenedFrom}
use Rattle.semantic_model.proofs.steps.Turn.{Turn, turn_at}
use Rattle.semantic_model.proofs.steps.TurnCases.{opening_case, ending_case, last_case}
use Rattle.binding_laws.proofs.EnteredOnce.{entered_place}
use Rattle.binding_laws.proofs.ScopeOpeners.{openers, IsOpened, opened_at}
use Rattle.language_ties.proofs.shared.Numbers.{NumberedFrom, numbered_program}

-- the place's own scope opens among the steps
pub record Opens (q : Place) (ss : List Step) : Type 0 where
  pub number : ℕ
  pub among : Among (opening q (opened_scope q number)) ss

opens_more : (q : Place) (xs ys : List Step) → ((s : Step) → Among s xs → Among s ys) → Opens q xs → Opens q ys
opens_more q xs ys f o = record { number = o.number; among = f (opening q (opened_scope q o.number)) o.among }

-- ---- parts of a turn

module _ (turn : Turn) where
  abbrev all : List Step
  all = turn.before ++ turn.whole ++ turn.behind ++ turn.others

  in_others : (s : Step) → Among s turn.others → Among s all
  in_others s a = among_right s (turn.before ++ turn.whole ++ turn.behind) turn.others a

  in_whole : (s : Step) → Among s turn.whole → Among s all
  in_whole s a = among_left s (turn.before ++ turn.whole ++ turn.behind) turn.others (among_left s (turn.before ++ turn.whole) turn.behind (among_right s turn.before turn.whole a))

  in_before : (s : Step) → Among s turn.before → Among s all
  in_before s a = among_left s (turn.before ++ turn.whole ++ turn.behind) turn.others (among_left s (turn.before ++ turn.whole) turn.behind (among_left s turn.before turn.whole a))

-- nothing is entered as a scope opens and closes
none_opening : (p : Place) (s : OpenScope) (q : Place) → Among (entering q) (opening p s ∷ []) → ⊥
none_opening p s q (inl e) = absurd cc
none_opening p s q (inr a) = a

none_last : (p : Place) (s : OpenScope) (q : Place) → Among (entering q) (opening p s ∷ closing p s ∷ []) → ⊥
none_last p s q (inl e) = absurd cc
none_last p s q (inr (inl e)) = absurd cc
none_last p s q (inr (inr a)) = a

none_ends : (p : Place) (s : OpenScope) (q : Place) → Among (entering q) (header_ending p s ∷ []) → ⊥
none_ends p s q (inl e) = absurd cc
none_ends p s q (inr a) = a

none_closes : (p : Place) (s : OpenScope) (q : Place) → Among (entering q) (closing p s ∷ []) → ⊥
none_closes p s q (inl e) = absurd cc
none_closes p s q (inr a) = a

none_both : (p : Place) (s : OpenScope) (q : Place) → Among (entering q) (header_ending p s ∷ closing p s ∷ []) → ⊥
none_both p s q (inl e) = absurd cc
none_both p s q (inr (inl e)) = absurd cc
none_both p s q (inr (inr a)) = a

none_leaves : (p q : Place) → Among (entering q) (leaving p ∷ []) → ⊥
none_leaves p q (inl e) = absurd cc
none_leaves p q (inr a) = a

-- ---- the scope of a place

own_opens : (q : Place) (n cursor : ℕ) (f : Forest) → opens q.node.kind ≡ true → Opens q (steps_below q None n cursor f)
own_opens q n cursor nothing h = subst (λ b. Opens q (cond b (opening q (opened_scope q n) ∷ closing q (opened_scope q n) ∷ []) [])) (sym h) (record { number = n; among = inl refl })
own_opens q n cursor (tree r k span text marks below id after) h = go (is_inside q.node.kind r) refl (own_opens q t.rest t.past after h)
  where
    t : Turn
    t = turn_at q None n cursor r (record { kind = k; span = span; text = text; marks = marks; children = below; node_id = id }) after

    go : (b : Bool) → is_inside q.node.kind r ≡ b → Opens q (steps_below q None t.rest t.past after) → Opens q (t.before ++ t.whole ++ t.behind ++ t.others)
    go true e later =
        let first : Among (opening q (opened_scope q n)) (opening_at q r None n) = subst (λ b. Among (opening q (opened_scope q n)) (cond b (opening q (opened_scope q n) ∷ []) [])) (sym e) (inl refl) in
        record { number = n; among = in_before t (opening q (opened_scope q n)) first }
    go false e later =
        let none : scope_at q r None n ≡ None = ap (λ b. cond b (Some (opened_scope q n)) None) e in
        opens_more q t.others (t.before ++ t.whole ++ t.behind ++ t.others) (in_others t) (subst (λ o. Opens q (steps_below q o t.rest t.past after)) (sym none) later)

-- of the places under a node, and of its own
abbrev AllOpen : List Step → Type 0
AllOpen ss = (q : Place) → Among (entering q) ss → opens q.node.kind ≡ true → Opens q ss

whole_opens : (c : Place) (n : ℕ) → AllOpen (steps_below c None n (on_entering c.node.kind c.cursor) c.node.children) → AllOpen (steps_of c n)
whole_opens c n h q (inl e) o =
    let same : c ≡ q = entered_place c q e in
    subst (λ z. Opens z (steps_of c n)) same
    (opens_more c below (steps_of c n) (λ s a. inr (among_left s below (leaving c ∷ []) a)) (own_opens c n (on_entering c.node.kind c.cursor) c.node.children (subst (λ z. opens z.node.kind ≡ true) (sym same) o)))
  where
    below : List Step
    below = steps_below c None n (on_entering c.node.kind c.cursor) c.node.children
whole_opens c n h q (inr a) o = elim (among_cases (entering q) below (leaving c ∷ []) a) [
  | inl i ↦ opens_more q below (steps_of c n) (λ s j. inr (among_left s below (leaving c ∷ []) j)) (h q i o)
  | inr i ↦ absurd (none_leaves c q i)
]
  where
    below : List Step
    below = steps_below c None n (on_entering c.node.kind c.cursor) c.node.children

all_open : (p : Place) (own : Option OpenScope) (n cursor : ℕ) (f : Forest) → AllOpen (steps_below p own n cursor f)
all_open p own n cursor nothing q a o = absurd (last_case (λ ss. Among (entering q) ss → ⊥) p own n (λ i. i) (none_last p (opened_scope p n) q) a)
all_open p own n cursor (tree r k span text marks below id after) q a o =
    let node : Node = record { kind = k; span = span; text = text; marks = marks; children = below; node_id = id } in
    let turn : Turn = turn_at p own n cursor r node after in
    elim (among_cases (entering q) (turn.before ++ turn.whole ++ turn.behind) turn.others a) [
      | inr b ↦ opens_more q turn.others (all turn) (in_others turn) (all_open p turn.scope turn.rest turn.past after q b o)
      | inl b ↦ elim (among_cases (entering q) (turn.before ++ turn.whole) turn.behind b) [
        | inr c ↦ absurd (ending_case (λ ss. Among (entering q) ss → ⊥) p r turn.scope after (λ i. i) (λ s. none_ends p s q) (λ s. none_closes p s q) (λ s. none_both p s q) c)
        | inl c ↦ elim (among_cases (entering q) turn.before turn.whole c) [
          | inl d ↦ absurd (opening_case (λ ss. Among (entering q) ss → ⊥) p r own n (λ i. i) (none_opening p (opened_scope p n) q) d)
          | inr d ↦ opens_more q turn.whole (all turn) (in_whole turn) (whole_opens turn.child turn.next (λ z i j. all_open turn.child None turn.next turn.inner below z i j) q d o)
        ]
      ]
    ]

-- in a program
pub scope_opens : (p : Tree) (q : Place) → Among (entering q) (steps p) → opens q.node.kind ≡ true → Opens q (steps p)
scope_opens p q a o = whole_opens (root_place p) 0 (λ z i j. all_open (root_place p) None 0 (on_entering p.root.kind 0) p.root.children z i j) q a o

-- ---- where it stands

opened_step : (p q : Place) (s o : OpenScope) → opening p s ≡ opening q o → s ≡ o
opened_step p q s o e = cc

stands_there : (table : List ℕ) (n : ℕ) (ss : List Step) → OpenedFrom (λ m q s. slice_get table m ≡ Some s.opener) n ss → NumberedFrom n ss → (q : Place) (o : OpenScope) → Among (opening q o) ss → slice_get table o.number ≡ Some o.opener
stands_there table n [] h k q o a = absurd a
stands_there table n (opening p s ∷ ss) h k q o (inl e) =
    subst (λ (z : OpenScope). slice_get table z.number ≡ Some z.opener) (opened_step p q s o e) (subst (λ m. slice_get table m ≡ Some s.opener) (sym k.0) h.0)
stands_there table n (opening p s ∷ ss) h k q o (inr a) = stands_there table (suc n) ss h.1 k.1 q o a
stands_there table n (entering p ∷ ss) h k q o (inl e) = absurd cc
stands_there table n (entering p ∷ ss) h k q o (inr a) = stands_there table n ss h k.1 q o a
stands_there table n (header_ending p s ∷ ss) h k q o (inl e) = absurd cc
stands_there table n (header_ending p s ∷ ss) h k q o (inr a) = stands_there table n ss h k q o a
stands_there table n (closing p s ∷ ss) h k q o (inl e) = absurd cc
stands_there table n (closing p s ∷ ss) h k q o (inr a) = stands_there table n ss h k q o a
stands_there table n (leaving p ∷ ss) h k q o (inl e) = absurd cc
stands_there table n (leaving p ∷ ss) h k q o (inr a) = stands_there table n ss h k q o a

pub scope_stands : (p : Tree) → p.root.kind ≡ kind.Program → (q : Place) (o : OpenScope) → Among (opening q o) (steps p) → IsOpened (openers (steps p)) o
scope_stands p k q o a =
    let table : List ℕ = openers (steps p) in
    stands_there table 0 (steps p) (opened_at table 0 (steps p) (λ i. ap (slice_get table) (zero-add i))) (numbered_program p k) q o a
