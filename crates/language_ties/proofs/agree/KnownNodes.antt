-- In a numbered tree each node is known by its id.
use Rattle.std.proofs.Common.{◌≡◌, ℕ, ◌+◌, ◌<◌, ◌≤◌, ◌==◌, Option, Some, None, cond, inl, inr, ◌⊎◌, refl, sym, ◌∙◌, arith}
use Rattle.std.proofs.lemmas.Bool.Decides.{eqb_tells}
use Rattle.semantic_tree.specs.Forest.{Forest, nothing, tree, count, numbered}
use Rattle.semantic_tree.specs.Tree.{Tree, IsNumbered}
use Rattle.semantic_tree.specs.declared.node.Node.{Node}
use Rattle.semantic_model.proofs.once.HeadersEndOnce.{less_or}
use Rattle.walk_model.proofs.once.NodeIds.{FirstNumbered, first_numbered, root_numbered}

abbrev pub or_node : Option Node → Option Node → Option Node
or_node None o = o
or_node (Some x) o = Some x

-- the node of the forest with the id
abbrev pub node_in : Forest → ℕ → Option Node
node_in nothing i = None
node_in (tree r k span text marks below id after) i =
    cond (id == i) (Some (record { kind = k; span = span; text = text; marks = marks; children = below; node_id = id })) (or_node (node_in below i) (node_in after i))

-- the node of the tree with the id
abbrev pub node_at : Tree → ℕ → Option Node
node_at p i = cond (p.root.node_id == i) (Some p.root) (node_in p.root.children i)

-- each node of the forest is found by its id
abbrev pub AllFound : (ℕ → Option Node) → Forest → Type 0
AllFound g nothing = Unit {0}
AllFound g (tree r k span text marks below id after) = (g id ≡ Some (record { kind = k; span = span; text = text; marks = marks; children = below; node_id = id })) × AllFound g below × AllFound g after

found_more : (g h : ℕ → Option Node) (f : Forest) → ((i : ℕ) (x : Node) → g i ≡ Some x → h i ≡ Some x) → AllFound g f → AllFound h f
found_more g h nothing more a = tt
found_more g h (tree r k span text marks below id after) more a = (more id _ a.0, found_more g h below more a.1, found_more g h after more a.2)

-- ids beyond those of the forest are none of its nodes'
outside : (k : ℕ) (f : Forest) (i : ℕ) → numbered k f ≡ f → (i < k) ⊎ (k + count f ≤ i) → node_in f i ≡ None
outside k nothing i e h = refl
outside k (tree r kd span text marks below id after) i e h =
    let g : FirstNumbered k id below after = first_numbered k r kd span text marks below id after e in
    elim (eqb_tells id i) [
      | inl q ↦ absurd (not_here g.first q.1 h)
      | inr q ↦ rw (q.0, outside (k + 1) below i g.inner (before h)) (outside (k + 1 + count below) after i g.others (behind h))
    ]
  where
    not_here : id ≡ k → id ≡ i → (i < k) ⊎ (k + (count below + count after + 1) ≤ i) → ⊥
    not_here a b (inl l) = omega (arith, a, b, l)
    not_here a b (inr l) = omega (arith, a, b, l)

    before : (i < k) ⊎ (k + (count below + count after + 1) ≤ i) → (i < k + 1) ⊎ (k + 1 + count below ≤ i)
    before (inl l) = inl (omega (arith, l))
    before (inr l) = inr (omega (arith, l))

    behind : (i < k) ⊎ (k + (count below + count after + 1) ≤ i) → (i < k + 1 + count below) ⊎ (k + 1 + count below + count after ≤ i)
    behind (inl l) = inl (omega (arith, l))
    behind (inr l) = inr (omega (arith, l))

found_self : (k : ℕ) (f : Forest) → numbered k f ≡ f → AllFound (node_in f) f
found_self k nothing e = tt
found_self k (tree r kd span text marks below id after) e =
    let g : FirstNumbered k id below after = first_numbered k r kd span text marks below id after e in
    (head, found_more (node_in below) (node_in (tree r kd span text marks below id after)) below (in_below g) (found_self (k + 1) below g.inner), found_more (node_in after) (node_in (tree r kd span text marks below id after)) after (in_after g) (found_self (k + 1 + count below) after g.others))
  where
    head : node_in (tree r kd span text marks below id after) id ≡ Some (record { kind = kd; span = span; text = text; marks = marks; children = below; node_id = id })
    head = elim (eqb_tells id id) [ inl q ↦ rw q.0 refl | inr q ↦ absurd (q.1 refl) ]

    in_below : FirstNumbered k id below after → (i : ℕ) (x : Node) → node_in below i ≡ Some x → node_in (tree r kd span text marks below id after) i ≡ Some x
    in_below g i x q = elim (eqb_tells id i) [
      | inl w ↦ (let z : None ≡ Some x = sym (outside (k + 1) below i g.inner (inl (omega (arith, g.first, w.1)))) ∙ q in absurd cc)
      | inr w ↦ rw (w.0, q) refl
    ]

    in_after : FirstNumbered k id below after → (i : ℕ) (x : Node) → node_in after i ≡ Some x → node_in (tree r kd span text marks below id after) i ≡ Some x
    in_after g i x q = elim (less_or i (k + 1 + count below)) [
      | inl l ↦ (let z : None ≡ Some x = sym (outside (k + 1 + count below) after i g.others (inl l)) ∙ q in absurd cc)
      | inr l ↦ elim (eqb_tells id i) [
        | inl w ↦ absurd (omega (arith, g.first, w.1, l))
        | inr w ↦ rw (w.0, outside (k + 1) below i g.inner (inr l)) q
      ]
    ]

-- so it is in a numbered tree
pub all_found : (p : Tree) → IsNumbered p.root → AllFound (node_at p) p.root.children
all_found p e =
    let r : (p.root.node_id ≡ 0) × (numbered 1 p.root.children ≡ p.root.children) = root_numbered p e in
    found_more (node_in p.root.children) (node_at p) p.root.children (λ i x q. beside i x r.0 r.1 q) (found_self 1 p.root.children r.1)
  where
    beside : (i : ℕ) (x : Node) → p.root.node_id ≡ 0 → numbered 1 p.root.children ≡ p.root.children → node_in p.root.children i ≡ Some x → node_at p i ≡ Some x
    beside i x z n q = elim (eqb_tells p.root.node_id i) [
      | inl w ↦ (let v : None ≡ Some x = sym (outside 1 p.root.children i n (inl (omega (arith, z, w.1)))) ∙ q in absurd cc)
      | inr w ↦ rw w.0 q
    ]

pub root_found : (p : Tree) → node_at p p.root.node_id ≡ Some p.root
root_found p = elim (eqb_tells p.root.node_id p.root.node_id) [ inl q ↦ rw q.0 refl | inr q ↦ absurd (q.1 refl) ]
