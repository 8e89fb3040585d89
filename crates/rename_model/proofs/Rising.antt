-- The nodes of a numbered program are entered in the order of their ids.
use Rattle.std.proofs.Common.{◌≡◌, ℕ, ◌+◌, ◌≤◌, List, [], ◌∷◌, ◌++◌, Option, None, inl, inr, ap, subst, arith}
use Rattle.semantic_kinds.specs.declared.role.Role.{Role}
use Rattle.semantic_tree.specs.Forest.{Forest, nothing, tree, count, numbered}
use Rattle.semantic_tree.specs.Tree.{Tree, IsNumbered}
use Rattle.semantic_tree.specs.declared.node.Node.{Node}
use Rattle.semantic_model.specs.Cursor.{on_entering}
use Rattle.semantic_model.specs.Entries.{Among}
use Rattle.semantic_model.specs.Place.{Place, OpenScope}
use Rattle.semantic_model.specs.Step.{Step, entering, opening, header_ending, closing, leaving, steps_below, steps, opening_at, ending_after, opening_last, root_place}
use Rattle.semantic_model.proofs.steps.TurnCases.{opening_case, ending_case, last_case}
use Rattle.semantic_model.proofs.steps.Turn.{Turn, turn_at}
use Rattle.semantic_tree.proofs.Forests.{below_same}

-- the ids of the nodes that are entered rise from the first number, and stay below the second
abbrev pub Rises : ℕ → ℕ → List Step → Type 0
Rises low high [] = low ≤ high
Rises low high (entering p ∷ ss) = (low ≤ p.node.node_id) × Rises (p.node.node_id + 1) high ss
Rises low high (opening p s ∷ ss) = Rises low high ss
Rises low high (header_ending p s ∷ ss) = Rises low high ss
Rises low high (closing p s ∷ ss) = Rises low high ss
Rises low high (leaving p ∷ ss) = Rises low high ss

lower : (low low' high : ℕ) (ss : List Step) → low' ≤ low → Rises low high ss → Rises low' high ss
lower low low' high [] l h = omega (arith, l, h)
lower low low' high (entering p ∷ ss) l h = (let k : low ≤ p.node.node_id = h.0 in omega (arith, l, k), h.1)
lower low low' high (opening p s ∷ ss) l h = lower low low' high ss l h
lower low low' high (header_ending p s ∷ ss) l h = lower low low' high ss l h
lower low low' high (closing p s ∷ ss) l h = lower low low' high ss l h
lower low low' high (leaving p ∷ ss) l h = lower low low' high ss l h

append : (low mid high : ℕ) (xs ys : List Step) → Rises low mid xs → Rises mid high ys → Rises low high (xs ++ ys)
append low mid high [] ys h k = lower mid low high ys h k
append low mid high (entering p ∷ xs) ys h k = (h.0, append (p.node.node_id + 1) mid high xs ys h.1 k)
append low mid high (opening p s ∷ xs) ys h k = append low mid high xs ys h k
append low mid high (header_ending p s ∷ xs) ys h k = append low mid high xs ys h k
append low mid high (closing p s ∷ xs) ys h k = append low mid high xs ys h k
append low mid high (leaving p ∷ xs) ys h k = append low mid high xs ys h k

opening_rises : (p : Place) (r : Role) (own : Option OpenScope) (n low : ℕ) → Rises low low (opening_at p r own n)
opening_rises p r own n low = opening_case (Rises low low) p r own n (omega arith) (omega arith)

last_rises : (p : Place) (own : Option OpenScope) (n low : ℕ) → Rises low low (opening_last p own n)
last_rises p own n low = last_case (Rises low low) p own n (omega arith) (omega arith)

ending_rises : (p : Place) (r : Role) (own : Option OpenScope) (after : Forest) (low : ℕ) → Rises low low (ending_after p r own after)
ending_rises p r own after low = ending_case (Rises low low) p r own after (omega arith) (λ s. omega arith) (λ s. omega arith) (λ s. omega arith)

below_rises : (m : ℕ) (p : Place) (own : Option OpenScope) (n cursor : ℕ) (g : Forest) → numbered m g ≡ g → Rises m (m + count g) (steps_below p own n cursor g)
below_rises m p own n cursor nothing h = subst (λ k. Rises m k (opening_last p own n)) (omega arith) (last_rises p own n m)
below_rises m p own n cursor (tree r k span text marks below id after) h =
    let (inner, is, rest) = below_same h in
    let node : Node = record { kind = k; span = span; text = text; marks = marks; children = below; node_id = id } in
    let turn : Turn = turn_at p own n cursor r node after in
    let mid : ℕ = m + 1 + count below in
    let xs_rise : Rises m m turn.before = opening_rises p r own n m in
    let ys_rise : Rises (id + 1) mid turn.below = subst (λ i. Rises (i + 1) mid turn.below) is (below_rises (m + 1) turn.child None turn.next turn.inner below inner) in
    let middle_rise : Rises m mid turn.whole = (omega (arith, is), append (id + 1) mid mid turn.below (leaving turn.child ∷ []) ys_rise (omega arith)) in
    let es_rise : Rises mid mid turn.behind = ending_rises p r turn.scope after mid in
    let ws_rise : Rises mid (mid + count after) turn.others = below_rises mid p turn.scope turn.rest turn.past after rest in
    subst (λ i. Rises m i (turn.before ++ turn.whole ++ turn.behind ++ turn.others)) (omega arith)
    (append m mid (mid + count after) (turn.before ++ turn.whole ++ turn.behind) turn.others
    (append m mid mid (turn.before ++ turn.whole) turn.behind (append m m mid turn.before turn.whole xs_rise middle_rise) es_rise) ws_rise)

pub steps_rise : (p : Tree) → IsNumbered p.root → Rises 0 (1 + count p.root.children) (steps p)
steps_rise p h =
    let root : Place = root_place p in
    let first : 0 ≡ p.root.node_id = ap (λ n. n.node_id) h in
    let below : List Step = steps_below root None 0 (on_entering p.root.kind 0) p.root.children in
    let rise : Rises 1 (1 + count p.root.children) below = below_rises 1 root None 0 (on_entering p.root.kind 0) p.root.children (ap (λ n. n.children) h) in
    (omega arith, append (p.root.node_id + 1) (1 + count p.root.children) (1 + count p.root.children) below (leaving root ∷ []) (lower 1 (p.root.node_id + 1) (1 + count p.root.children) below (omega (arith, first)) rise) (omega arith))

-- what is entered later has at least the first number
pub at_least : (low high : ℕ) (ss : List Step) → Rises low high ss → (p : Place) → Among (entering p) ss → low ≤ p.node.node_id
at_least low high [] h p a = absurd a
at_least low high (entering q ∷ ss) h p (inl e) = subst (λ i. low ≤ i) (ap (λ s. id_at s) e) h.0
  where
    id_at : Step → ℕ
    id_at (entering x) = x.node.node_id
    id_at _ = 0
at_least low high (entering q ∷ ss) h p (inr a) = let k : low ≤ q.node.node_id = h.0 in let l : q.node.node_id + 1 ≤ p.node.node_id = at_least (q.node.node_id + 1) high ss h.1 p a in omega (arith, k, l)
at_least low high (opening q s ∷ ss) h p (inl e) = absurd cc
at_least low high (opening q s ∷ ss) h p (inr a) = at_least low high ss h p a
at_least low high (header_ending q s ∷ ss) h p (inl e) = absurd cc
at_least low high (header_ending q s ∷ ss) h p (inr a) = at_least low high ss h p a
at_least low high (closing q s ∷ ss) h p (inl e) = absurd cc
at_least low high (closing q s ∷ ss) h p (inr a) = at_least low high ss h p a
at_least low high (leaving q ∷ ss) h p (inl e) = absurd cc
at_least low high (leaving q ∷ ss) h p (inr a) = at_least low high ss h p a
