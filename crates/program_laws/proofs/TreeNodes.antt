-- The nodes of a tree. In a numbered tree no two have one id.
use Rattle.std.proofs.Common.{◌≡◌, ℕ, ◌+◌, ◌<◌, ◌≤◌, List, [], ◌∷◌, ◌++◌, inl, inr, sym, ap, subst, ◌∙◌, arith, if◌then◌else◌, Bool, true, false}
use Rattle.semantic_kinds.specs.Roles.{same_role}
use Rattle.semantic_kinds.specs.declared.kind.AstType.{AstType}
use Rattle.semantic_kinds.specs.declared.role.Role.{Role}
use Rattle.semantic_tree.specs.Forest.{Forest, nothing, tree, count, numbered}
use Rattle.semantic_tree.specs.Place.{child_place, placed_below, all_placed}
use Rattle.semantic_tree.specs.Tree.{IsNumbered}
use Rattle.semantic_tree.specs.declared.node.Node.{Node}
use Rattle.semantic_tree.specs.declared.place.Place.{Place}
use Rattle.semantic_tree.proofs.Forests.{below_same}
use Rattle.semantic_model.specs.Entries.{Among}
use Rattle.semantic_tree.specs.Views.{children_of}
use Rattle.semantic_model.proofs.lists.Members.{among_left, among_right, among_cases}

abbrev pub nodes_below : Forest → List Node
nodes_below nothing = []
nodes_below (tree r k span text marks below id after) =
    record { kind = k; span = span; text = text; marks = marks; children = below; node_id = id } ∷ (nodes_below below ++ nodes_below after)

abbrev pub nodes_from : Node → List Node
nodes_from node = node ∷ nodes_below node.children

placed_in : (place : Place) (kind : AstType) (f : Forest) (here : Place) (x : Node) → Among (here, x) (placed_below place kind f) → Among x (nodes_below f)
placed_in place kind nothing here x a = absurd a
placed_in place kind (tree r k span text marks below id after) here x (inl e) = inl (ap (λ q. q.1) e)
placed_in place kind (tree r k span text marks below id after) here x (inr a) =
    elim (among_cases (here, x) (placed_below (child_place place kind r) k below) (placed_below place kind after) a) [
      | inl b ↦ inr (among_left x (nodes_below below) (nodes_below after) (placed_in (child_place place kind r) k below here x b))
      | inr b ↦ inr (among_right x (nodes_below below) (nodes_below after) (placed_in place kind after here x b))
    ]

-- a node with its place is a node
pub placed_node : (root : Node) (here : Place) (x : Node) → Among (here, x) (all_placed root) → Among x (nodes_from root)
placed_node root here x (inl e) = inl (ap (λ q. q.1) e)
placed_node root here x (inr a) = inr (placed_in _ root.kind root.children here x a)

-- the ids lie between the first number and the end
pub ids_between : (n : ℕ) (f : Forest) (x : Node) → numbered n f ≡ f → Among x (nodes_below f) → (n ≤ x.node_id) × (x.node_id < n + count f)
ids_between n nothing x h a = absurd a
ids_between n (tree r k span text marks below id after) x h (inl e) =
    let (b, own, rest) = below_same h in
    let same : id ≡ x.node_id = ap (λ y. y.node_id) e in
    (omega (arith, own, same), omega (arith, own, same))
ids_between n (tree r k span text marks below id after) x h (inr a) =
    let (b, own, rest) = below_same h in
    elim (among_cases x (nodes_below below) (nodes_below after) a) [
      | inl q ↦ (let (low, high) = ids_between (n + 1) below x b q in (omega (arith, low), omega (arith, high)))
      | inr q ↦ (let (low, high) = ids_between (n + 1 + count below) after x rest q in (omega (arith, low), omega (arith, high)))
    ]

one_below : (n : ℕ) (f : Forest) (x y : Node) → numbered n f ≡ f → Among x (nodes_below f) → Among y (nodes_below f) → x.node_id ≡ y.node_id → x ≡ y
one_below n nothing x y h a b e = absurd a
one_below n (tree r k span text marks below id after) x y h (inl a) (inl b) e = sym a ∙ b
one_below n (tree r k span text marks below id after) x y h (inl a) (inr b) e =
    let (inner, own, rest) = below_same h in
    let same : id ≡ x.node_id = ap (λ z. z.node_id) a in
    elim (among_cases y (nodes_below below) (nodes_below after) b) [
      | inl q ↦ (let (low, high) = ids_between (n + 1) below y inner q in absurd (omega (arith, low, own, same, e)))
      | inr q ↦ (let (low, high) = ids_between (n + 1 + count below) after y rest q in absurd (omega (arith, low, own, same, e)))
    ]
one_below n (tree r k span text marks below id after) x y h (inr a) (inl b) e =
    let (inner, own, rest) = below_same h in
    let same : id ≡ y.node_id = ap (λ z. z.node_id) b in
    elim (among_cases x (nodes_below below) (nodes_below after) a) [
      | inl q ↦ (let (low, high) = ids_between (n + 1) below x inner q in absurd (omega (arith, low, own, same, e)))
      | inr q ↦ (let (low, high) = ids_between (n + 1 + count below) after x rest q in absurd (omega (arith, low, own, same, e)))
    ]
one_below n (tree r k span text marks below id after) x y h (inr a) (inr b) e =
    let (inner, own, rest) = below_same h in
    elim (among_cases x (nodes_below below) (nodes_below after) a) [
      | inl q ↦ elim (among_cases y (nodes_below below) (nodes_below after) b) [
        | inl w ↦ one_below (n + 1) below x y inner q w e
        | inr w ↦ (let (low, high) = ids_between (n + 1) below x inner q in let (low', high') = ids_between (n + 1 + count below) after y rest w in absurd (omega (arith, high, low', e)))
      ]
      | inr q ↦ elim (among_cases y (nodes_below below) (nodes_below after) b) [
        | inl w ↦ (let (low, high) = ids_between (n + 1 + count below) after x rest q in let (low', high') = ids_between (n + 1) below y inner w in absurd (omega (arith, low, high', e)))
        | inr w ↦ one_below (n + 1 + count below) after x y rest q w e
      ]
    ]

-- in a numbered tree the id tells the node
pub one_node : (root x y : Node) → IsNumbered root → Among x (nodes_from root) → Among y (nodes_from root) → x.node_id ≡ y.node_id → x ≡ y
one_node root x y h (inl a) (inl b) e = sym a ∙ b
one_node root x y h (inl a) (inr b) e =
    let (low, high) = ids_between 1 root.children y (ap (λ n. n.children) h) b in
    let first : 0 ≡ root.node_id = ap (λ n. n.node_id) h in
    let same : root.node_id ≡ x.node_id = ap (λ n. n.node_id) a in
    absurd (omega (arith, low, first, same, e))
one_node root x y h (inr a) (inl b) e =
    let (low, high) = ids_between 1 root.children x (ap (λ n. n.children) h) a in
    let first : 0 ≡ root.node_id = ap (λ n. n.node_id) h in
    let same : root.node_id ≡ y.node_id = ap (λ n. n.node_id) b in
    absurd (omega (arith, low, first, same, e))
one_node root x y h (inr a) (inr b) e = one_below 1 root.children x y (ap (λ n. n.children) h) a b e

-- a child in a role, and all below it, stand below
pub child_in : (r : Role) (f : Forest) (x : Node) → Among x (children_of r f) → (y : Node) → Among y (nodes_from x) → Among y (nodes_below f)
child_in r nothing x a y b = absurd a
child_in r (tree q k span text marks below id after) x a y b = go (same_role q r) a (λ c. child_in r after x c y b)
  where
    old : Node
    old = record { kind = k; span = span; text = text; marks = marks; children = below; node_id = id }

    from_old : old ≡ x → Among y (nodes_from old)
    from_old e = subst (λ n. Among y (nodes_from n)) (sym e) b

    own : Among y (nodes_from old) → Among y (nodes_below (tree q k span text marks below id after))
    own (inl e) = inl e
    own (inr c) = inr (among_left y (nodes_below below) (nodes_below after) c)

    later : Among y (nodes_below after) → Among y (nodes_below (tree q k span text marks below id after))
    later c = inr (among_right y (nodes_below below) (nodes_below after) c)

    go : (t : Bool) → Among x (if t then old ∷ children_of r after else children_of r after) → (Among x (children_of r after) → Among y (nodes_below after)) → Among y (nodes_below (tree q k span text marks below id after))
    go true (inl e) more = own (from_old e)
    go true (inr c) more = later (more c)
    go false c more = later (more c)
