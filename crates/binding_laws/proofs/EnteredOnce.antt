-- In a numbered program the nodes are entered in order of their ids, so each once.
use Rattle.std.proofs.Common.{◌≡◌, ℕ, suc, ◌+◌, ◌≤◌, List, [], ◌∷◌, ◌++◌, Option, None, inl, inr, sym, ap, subst, ◌∙◌, arith}
use Rattle.semantic_tree.specs.Forest.{Forest, nothing, tree, count, numbered}
use Rattle.semantic_tree.specs.Tree.{Tree, IsNumbered}
use Rattle.semantic_tree.specs.declared.node.Node.{Node}
use Rattle.semantic_model.specs.Cursor.{on_entering}
use Rattle.semantic_model.specs.Entries.{Among}
use Rattle.semantic_model.specs.Place.{Place, OpenScope}
use Rattle.semantic_model.specs.Step.{Step, entering, opening, header_ending, closing, leaving, steps_below, steps, root_place}
use Rattle.semantic_model.proofs.steps.Turn.{Turn, turn_at}
use Rattle.semantic_model.proofs.steps.TurnCases.{opening_case, ending_case, last_case}
use Rattle.walk_model.proofs.once.NodeIds.{FirstNumbered, first_numbered, root_numbered}

-- the ids of the places that are entered rise, from lo on and below hi
abbrev Rising : ℕ → ℕ → List Step → Type 0
Rising lo hi [] = lo ≤ hi
Rising lo hi (entering p ∷ ss) = (lo ≤ p.node.node_id) × Rising (suc p.node.node_id) hi ss
Rising lo hi (opening p s ∷ ss) = Rising lo hi ss
Rising lo hi (header_ending p s ∷ ss) = Rising lo hi ss
Rising lo hi (closing p s ∷ ss) = Rising lo hi ss
Rising lo hi (leaving p ∷ ss) = Rising lo hi ss

rising_from : (lo mid hi : ℕ) (ss : List Step) → lo ≤ mid → Rising mid hi ss → Rising lo hi ss
rising_from lo mid hi [] i h = omega arith
rising_from lo mid hi (entering p ∷ ss) i h = ((let w : mid ≤ p.node.node_id = h.0 in omega arith), h.1)
rising_from lo mid hi (opening p s ∷ ss) i h = rising_from lo mid hi ss i h
rising_from lo mid hi (header_ending p s ∷ ss) i h = rising_from lo mid hi ss i h
rising_from lo mid hi (closing p s ∷ ss) i h = rising_from lo mid hi ss i h
rising_from lo mid hi (leaving p ∷ ss) i h = rising_from lo mid hi ss i h

rising-append : (lo mid hi : ℕ) (xs ys : List Step) → Rising lo mid xs → Rising mid hi ys → Rising lo hi (xs ++ ys)
rising-append lo mid hi [] ys h k = rising_from lo mid hi ys h k
rising-append lo mid hi (entering p ∷ xs) ys h k = (h.0, rising-append (suc p.node.node_id) mid hi xs ys h.1 k)
rising-append lo mid hi (opening p s ∷ xs) ys h k = rising-append lo mid hi xs ys h k
rising-append lo mid hi (header_ending p s ∷ xs) ys h k = rising-append lo mid hi xs ys h k
rising-append lo mid hi (closing p s ∷ xs) ys h k = rising-append lo mid hi xs ys h k
rising-append lo mid hi (leaving p ∷ xs) ys h k = rising-append lo mid hi xs ys h k

rising_steps : (p : Place) (own : Option OpenScope) (n cursor : ℕ) (f : Forest) (k : ℕ) → numbered k f ≡ f → Rising k (k + count f) (steps_below p own n cursor f)
rising_steps p own n cursor nothing k e = last_case (Rising k (k + 0)) p own n (omega arith) (omega arith)
rising_steps p own n cursor (tree r kd span text marks below id after) k e =
    let node : Node = record { kind = kd; span = span; text = text; marks = marks; children = below; node_id = id } in
    let turn : Turn = turn_at p own n cursor r node after in
    let g : FirstNumbered k id below after = first_numbered k r kd span text marks below id after e in
    let mid : ℕ = k + 1 + count below in
    let hi : ℕ = k + (count below + count after + 1) in
    let inner : Rising (k + 1) mid turn.below = rising_steps turn.child None turn.next turn.inner below (k + 1) g.inner in
    let left : Rising (k + 1) mid (turn.below ++ leaving turn.child ∷ []) = rising-append (k + 1) mid mid turn.below (leaving turn.child ∷ []) inner (omega arith) in
    let whole : Rising k mid turn.whole = (omega (arith, g.first), rising_from (suc id) (k + 1) mid (turn.below ++ leaving turn.child ∷ []) (omega (arith, g.first)) left) in
    let before : Rising k k turn.before = opening_case (Rising k k) p r own n (omega arith) (omega arith) in
    let behind : Rising mid mid turn.behind = ending_case (Rising mid mid) p r turn.scope after (omega arith) (λ s. omega arith) (λ s. omega arith) (λ s. omega arith) in
    let others : Rising mid hi turn.others = subst (λ m. Rising mid m turn.others) (omega arith) (rising_steps p turn.scope turn.rest turn.past after mid g.others) in
    rising-append k mid hi (turn.before ++ turn.whole ++ turn.behind) turn.others
    (rising-append k mid mid (turn.before ++ turn.whole) turn.behind (rising-append k k mid turn.before turn.whole before whole) behind) others

pub entered_place : (p q : Place) → entering p ≡ entering q → p ≡ q
entered_place p q e = cc

beyond : (lo hi : ℕ) (ss : List Step) (q : Place) → Rising lo hi ss → Among (entering q) ss → lo ≤ q.node.node_id
beyond lo hi [] q h a = absurd a
beyond lo hi (entering p ∷ ss) q h (inl e) = let w : p.node.node_id ≡ q.node.node_id = ap (λ z. z.node.node_id) (entered_place p q e) in let v : lo ≤ p.node.node_id = h.0 in omega (arith, w, v)
beyond lo hi (entering p ∷ ss) q h (inr a) = let w : lo ≤ p.node.node_id = h.0 in let v : suc p.node.node_id ≤ q.node.node_id = beyond (suc p.node.node_id) hi ss q h.1 a in omega (arith, w, v)
beyond lo hi (opening p s ∷ ss) q h (inl e) = absurd cc
beyond lo hi (opening p s ∷ ss) q h (inr a) = beyond lo hi ss q h a
beyond lo hi (header_ending p s ∷ ss) q h (inl e) = absurd cc
beyond lo hi (header_ending p s ∷ ss) q h (inr a) = beyond lo hi ss q h a
beyond lo hi (closing p s ∷ ss) q h (inl e) = absurd cc
beyond lo hi (closing p s ∷ ss) q h (inr a) = beyond lo hi ss q h a
beyond lo hi (leaving p ∷ ss) q h (inl e) = absurd cc
beyond lo hi (leaving p ∷ ss) q h (inr a) = beyond lo hi ss q h a

once : (lo hi : ℕ) (ss : List Step) (q r : Place) → Rising lo hi ss → Among (entering q) ss → Among (entering r) ss → q.node.node_id ≡ r.node.node_id → q ≡ r
once lo hi [] q r h a b e = absurd a
once lo hi (entering p ∷ ss) q r h (inl i) (inl j) e = entered_place q r (sym i ∙ j)
once lo hi (entering p ∷ ss) q r h (inl i) (inr b) e =
    let w : suc p.node.node_id ≤ r.node.node_id = beyond (suc p.node.node_id) hi ss r h.1 b in
    let v : p.node.node_id ≡ q.node.node_id = ap (λ z. z.node.node_id) (entered_place p q i) in
    absurd (omega (arith, w, v, e))
once lo hi (entering p ∷ ss) q r h (inr a) (inl j) e =
    let w : suc p.node.node_id ≤ q.node.node_id = beyond (suc p.node.node_id) hi ss q h.1 a in
    let v : p.node.node_id ≡ r.node.node_id = ap (λ z. z.node.node_id) (entered_place p r j) in
    absurd (omega (arith, w, v, e))
once lo hi (entering p ∷ ss) q r h (inr a) (inr b) e = once (suc p.node.node_id) hi ss q r h.1 a b e
once lo hi (opening p s ∷ ss) q r h (inl i) b e = absurd cc
once lo hi (opening p s ∷ ss) q r h (inr a) (inl j) e = absurd cc
once lo hi (opening p s ∷ ss) q r h (inr a) (inr b) e = once lo hi ss q r h a b e
once lo hi (header_ending p s ∷ ss) q r h (inl i) b e = absurd cc
once lo hi (header_ending p s ∷ ss) q r h (inr a) (inl j) e = absurd cc
once lo hi (header_ending p s ∷ ss) q r h (inr a) (inr b) e = once lo hi ss q r h a b e
once lo hi (closing p s ∷ ss) q r h (inl i) b e = absurd cc
once lo hi (closing p s ∷ ss) q r h (inr a) (inl j) e = absurd cc
once lo hi (closing p s ∷ ss) q r h (inr a) (inr b) e = once lo hi ss q r h a b e
once lo hi (leaving p ∷ ss) q r h (inl i) b e = absurd cc
once lo hi (leaving p ∷ ss) q r h (inr a) (inl j) e = absurd cc
once lo hi (leaving p ∷ ss) q r h (inr a) (inr b) e = once lo hi ss q r h a b e

-- two places of one node are the same
pub entered_once : (p : Tree) → IsNumbered p.root → (q r : Place) → Among (entering q) (steps p) → Among (entering r) (steps p) → q.node.node_id ≡ r.node.node_id → q ≡ r
entered_once p e q r a b i =
    let root : Place = root_place p in
    let n : ℕ = on_entering p.root.kind 0 in
    let w : (p.root.node_id ≡ 0) × (numbered 1 p.root.children ≡ p.root.children) = root_numbered p e in
    let below : List Step = steps_below root None 0 n p.root.children in
    let rise : Rising 1 (1 + count p.root.children) below = rising_steps root None 0 n p.root.children 1 w.1 in
    let left : Rising 1 (1 + count p.root.children) (below ++ leaving root ∷ []) = rising-append 1 (1 + count p.root.children) (1 + count p.root.children) below (leaving root ∷ []) rise (omega arith) in
    once 0 (1 + count p.root.children) (steps p) q r (omega arith, rising_from (suc p.root.node_id) 1 (1 + count p.root.children) (below ++ leaving root ∷ []) (omega (arith, w.0)) left) a b i
