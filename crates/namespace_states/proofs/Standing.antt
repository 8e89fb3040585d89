-- The nodes of a program as statements are known apart by their ids.
use Rattle.std.proofs.Common.{◌≡◌, ℕ, ◌+◌, ◌<◌, ◌≤◌, List, [], ◌∷◌, ◌⊎◌, inl, inr, ap, sym, ◌∙◌, arith}
use Rattle.semantic_tree.specs.Forest.{Forest, nothing, tree, count, numbered}
use Rattle.semantic_tree.specs.Children.{node_count}
use Rattle.semantic_tree.specs.Tree.{IsNumbered}
use Rattle.semantic_tree.specs.declared.node.Node.{Node}
use Rattle.semantic_tree.proofs.Forests.{below_same}
use Rattle.semantic_model.specs.Entries.{Among}
use Rattle.semantic_model.specs.Namespace.{Item}
use Rattle.namespace_states.specs.Statements.{lists_inside, items_below, items_from}
use Rattle.namespace_states.proofs.Lists.{among-append}

record IsWithin (low high : ℕ) (i : Item) : Type 0 where
  from : low ≤ i.node.node_id
  to : i.node.node_id < high

-- the ids of a forest's nodes are those of its range
ranged : (lists : List (List Node)) (f : Forest) (m : ℕ) (i : Item) → numbered m f ≡ f → Among i (items_below lists f) → IsWithin m (m + count f) i
ranged lists nothing m i h a = absurd a
ranged lists (tree role kind span text marks below id after) m i h a =
    let node : Node = record { kind = kind; span = span; text = text; marks = marks; children = below; node_id = id } in
    let inside : List (List Node) = lists_inside node lists in
    let (inner, own, rest) = below_same h in
    elim (among-append i (record { node = node; lists = lists } ∷ items_below inside below) (items_below lists after) a) [
      | inl b ↦ elim b [
        | inl e ↦ (let same : id ≡ i.node.node_id = ap (λ (x : Item). x.node.node_id) e in record { from = omega (arith, own, same); to = omega (arith, own, same) })
        | inr c ↦ (let r = ranged inside below (m + 1) i inner c in record { from = omega (arith, r.from); to = omega (arith, r.to) })
      ]
      | inr b ↦ (let r = ranged lists after (m + 1 + count below) i rest b in record { from = omega (arith, r.from); to = omega (arith, r.to) })
    ]

-- of the three parts of a tree, its node, what is below it and what comes after it, no two have an id in common
module _ (i j : Item) (first : Item) (inside : List Item) (later : List Item) (m size rest : ℕ)
    (own : m ≡ first.node.node_id)
    (inner : (k : Item) → Among k inside → IsWithin (m + 1) (m + 1 + size) k)
    (outer : (k : Item) → Among k later → IsWithin (m + 1 + size) (m + 1 + size + rest) k)
    (e : i.node.node_id ≡ j.node.node_id) where
  first_id : (k : Item) → first ≡ k → m ≡ k.node.node_id
  first_id k p = own ∙ ap (λ (x : Item). x.node.node_id) p

  apart_parts : (Among i inside → Among j inside → i ≡ j) → (Among i later → Among j later → i ≡ j) → ((first ≡ i) ⊎ Among i inside) ⊎ Among i later → ((first ≡ j) ⊎ Among j inside) ⊎ Among j later → i ≡ j
  apart_parts x y (inl (inl p)) (inl (inl q)) = sym p ∙ q
  apart_parts x y (inl (inl p)) (inl (inr q)) = absurd (omega (arith, first_id i p, (inner j q).from, e))
  apart_parts x y (inl (inl p)) (inr q) = absurd (omega (arith, first_id i p, (outer j q).from, e))
  apart_parts x y (inl (inr p)) (inl (inl q)) = absurd (omega (arith, first_id j q, (inner i p).from, e))
  apart_parts x y (inl (inr p)) (inl (inr q)) = x p q
  apart_parts x y (inl (inr p)) (inr q) = absurd (omega (arith, (inner i p).to, (outer j q).from, e))
  apart_parts x y (inr p) (inl (inl q)) = absurd (omega (arith, first_id j q, (outer i p).from, e))
  apart_parts x y (inr p) (inl (inr q)) = absurd (omega (arith, (inner j q).to, (outer i p).from, e))
  apart_parts x y (inr p) (inr q) = y p q

-- two of one id are the same
apart_below : (lists : List (List Node)) (f : Forest) (m : ℕ) (i j : Item) → numbered m f ≡ f → Among i (items_below lists f) → Among j (items_below lists f) → i.node.node_id ≡ j.node.node_id → i ≡ j
apart_below lists nothing m i j h a b e = absurd a
apart_below lists (tree role kind span text marks below id after) m i j h a b e =
    let node : Node = record { kind = kind; span = span; text = text; marks = marks; children = below; node_id = id } in
    let first : Item = record { node = node; lists = lists } in
    let inside : List (List Node) = lists_inside node lists in
    let (inner, own, rest) = below_same h in
    apart_parts i j first (items_below inside below) (items_below lists after) m (count below) (count after) own
    (λ k a. ranged inside below (m + 1) k inner a)
    (λ k a. ranged lists after (m + 1 + count below) k rest a)
    e
    (λ p q. apart_below inside below (m + 1) i j inner p q e)
    (λ p q. apart_below lists after (m + 1 + count below) i j rest p q e)
    (among-append i (first ∷ items_below inside below) (items_below lists after) a)
    (among-append j (first ∷ items_below inside below) (items_below lists after) b)

children_numbered : (root : Node) → IsNumbered root → (0 ≡ root.node_id) × (numbered 1 root.children ≡ root.children)
children_numbered root h = (ap (λ (x : Node). x.node_id) h, ap (λ (x : Node). x.children) h)

-- ids are below the number of nodes
pub below_count : (root : Node) (i : Item) → IsNumbered root → Among i (items_from root) → i.node.node_id < node_count root
below_count root i h (inl e) =
    let same : root.node_id ≡ i.node.node_id = ap (λ (x : Item). x.node.node_id) e in
    let own = (children_numbered root h).0 in
    omega (arith, same, own)
below_count root i h (inr a) =
    let r = ranged (lists_inside root []) root.children 1 i (children_numbered root h).1 a in
    omega (arith, r.to)

pub apart : (root : Node) (i j : Item) → IsNumbered root → Among i (items_from root) → Among j (items_from root) → i.node.node_id ≡ j.node.node_id → i ≡ j
apart root i j h (inl p) (inl q) e = sym p ∙ q
apart root i j h (inl p) (inr q) e =
    let same : root.node_id ≡ i.node.node_id = ap (λ (x : Item). x.node.node_id) p in
    let own = (children_numbered root h).0 in
    let r = ranged (lists_inside root []) root.children 1 j (children_numbered root h).1 q in
    absurd (omega (arith, same, own, r.from, e))
apart root i j h (inr p) (inl q) e =
    let same : root.node_id ≡ j.node.node_id = ap (λ (x : Item). x.node.node_id) q in
    let own = (children_numbered root h).0 in
    let r = ranged (lists_inside root []) root.children 1 i (children_numbered root h).1 p in
    absurd (omega (arith, same, own, r.from, e))
apart root i j h (inr p) (inr q) e = apart_below (lists_inside root []) root.children 1 i j (children_numbered root h).1 p q e
