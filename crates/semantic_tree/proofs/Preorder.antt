-- Names in a tree whose nodes are numbered in preorder.
use Rattle.std.proofs.Common.{◌≡◌, ℕ, zero, suc, ◌+◌, ◌<◌, ◌≤◌, nat_le, List, [], ◌∷◌, ◌++◌, Bool, true, false, if◌then◌else◌, length, get_or, refl, ap, sym, ◌∙◌, arith}
use Rattle.std.proofs.lemmas.Bool.Decides.{nat_tests}
use Rattle.semantic_kinds.specs.Kinds.{same_kind}
use Rattle.semantic_kinds.specs.declared.kind.AstType.{AstType}
use Rattle.semantic_kinds.specs.declared.kind.AstType.TheVariants as kinds
use Rattle.semantic_kinds.specs.declared.role.Role.{Role}
use Rattle.semantic_tree.specs.Forest.{Forest, nothing, tree, count, numbered}
use Rattle.semantic_tree.specs.Children.{numbered_node}
use Rattle.semantic_tree.specs.Nodes.{trees}
use Rattle.semantic_tree.specs.Tree.{IsNumbered, IsPreorder}
use Rattle.semantic_tree.specs.BoundNames.{binds_by, bound_below, bound_names, rising}
use Rattle.semantic_tree.specs.declared.node.Node.{Node}
use Rattle.semantic_tree.proofs.Forests.{below_same}

-- the ids rise from the first number, and stay below the second
abbrev Between : ℕ → ℕ → List Node → Type 0
Between low high [] = low ≤ high
Between low high (node ∷ rest) = (low ≤ node.node_id) × Between (node.node_id + 1) high rest

reach : (low high : ℕ) (xs : List Node) → Between low high xs → low ≤ high
reach low high [] h = h
reach low high (x ∷ xs) (here, rest) = let r = reach (x.node_id + 1) high xs rest in omega (arith, here, r)

lower : (low low' high : ℕ) (xs : List Node) → low' ≤ low → Between low high xs → Between low' high xs
lower low low' high [] l h = omega (arith, l, h)
lower low low' high (x ∷ xs) l (here, rest) = (omega (arith, l, here), rest)

between-append : (low mid high : ℕ) (xs ys : List Node) → Between low mid xs → Between mid high ys → Between low high (xs ++ ys)
between-append low mid high [] ys h k = lower mid low high ys h k
between-append low mid high (x ∷ xs) ys (here, rest) k = (here, between-append (x.node_id + 1) mid high xs ys rest k)

-- ids that rise are all kept
all_rise : (from low high : ℕ) (xs : List Node) → from ≤ low → Between low high xs → rising from xs ≡ xs
all_rise from low high [] l h = refl
all_rise from low high (x ∷ xs) l (here, rest) =
    let test : nat_le from x.node_id ≡ true = grind (arith, nat_tests) in
    ap (λ b. if b then x ∷ rising (x.node_id + 1) xs else rising from xs) test ∙ ap (λ ys. x ∷ ys) (all_rise (x.node_id + 1) (x.node_id + 1) high xs (omega arith) rest)

-- one name, those below it, or none
chosen : (binds is_name : Bool) (low high : ℕ) (node : Node) (below : List Node) → low ≤ node.node_id → node.node_id + 1 ≤ high → Between (node.node_id + 1) high below → Between low high (if binds then (if is_name then node ∷ [] else below) else [])
chosen true true low high node below l h b = (l, h)
chosen true false low high node below l h b = lower (node.node_id + 1) low high below (omega arith) b
chosen false true low high node below l h b = omega (arith, l, h)
chosen false false low high node below l h b = omega (arith, l, h)

names_between : (n : ℕ) (parent : AstType) (f : Forest) → Between n (n + count f) (bound_below parent (numbered n f))
names_between n parent nothing = omega arith
names_between n parent (tree role kind span text marks below id after) =
    let node : Node = record { kind = kind; span = span; text = text; marks = marks; children = numbered (n + 1) below; node_id = n } in
    let inner = names_between (n + 1) kind below in
    let rest = names_between (n + 1 + count below) parent after in
    let end : n + 1 + count below + count after ≡ n + (count below + count after + 1) = omega arith in
    between-append n (n + 1 + count below) (n + (count below + count after + 1))
    (if binds_by parent role then (if same_kind kind kinds.BindingIdentifier then node ∷ [] else bound_below kind (numbered (n + 1) below)) else [])
    (bound_below parent (numbered (n + 1 + count below) after))
    (chosen (binds_by parent role) (same_kind kind kinds.BindingIdentifier) n (n + 1 + count below) node (bound_below kind (numbered (n + 1) below)) (omega arith) (omega arith) inner)
    (rw (← end) rest)

own_or_below : (is_name : Bool) (node : Node) (below : List Node) → rising 0 below ≡ below → rising 0 (if is_name then node ∷ [] else below) ≡ (if is_name then node ∷ [] else below)
own_or_below true node below h = let test : nat_le 0 node.node_id ≡ true = grind (arith, nat_tests) in ap (λ b. if b then node ∷ [] else []) test
own_or_below false node below h = h

-- in preorder the ids of the names rise
pub names_rise : (node : Node) → IsPreorder node → rising 0 (bound_names node) ≡ bound_names node
names_rise node h =
    let below : numbered (node.node_id + 1) node.children ≡ node.children = ap (λ n. n.children) h in
    let all : rising 0 (bound_below node.kind (numbered (node.node_id + 1) node.children)) ≡ bound_below node.kind (numbered (node.node_id + 1) node.children) =
    all_rise 0 (node.node_id + 1) (node.node_id + 1 + count node.children) (bound_below node.kind (numbered (node.node_id + 1) node.children)) (omega arith) (names_between (node.node_id + 1) node.kind node.children) in
    own_or_below (same_kind node.kind kinds.BindingIdentifier) node (bound_below node.kind node.children) (rw below at all)

-- what is numbered from a number on has children that are numbered from their own ids on
pub child_in_preorder : (f : Forest) (n i : ℕ) (d : Role × Node) → numbered n f ≡ f → i < length (trees f) → IsPreorder (get_or (trees f) i d).1
child_in_preorder nothing n i d h k = absurd (omega arith)
child_in_preorder (tree role kind span text marks below id after) n zero d h k =
    let (inner, own, rest) = below_same h in
    ap (λ (b : Forest). record { kind = kind; span = span; text = text; marks = marks; children = b; node_id = id }) (ap (λ m. numbered (m + 1) below) (sym own) ∙ inner)
child_in_preorder (tree role kind span text marks below id after) n (suc i) d h k =
    let (inner, own, rest) = below_same h in
    child_in_preorder after (n + 1 + count below) i d rest (omega arith)

-- a tree that is numbered from 0 is numbered from the id of its root
pub root_in_preorder : (node : Node) → IsNumbered node → IsPreorder node
root_in_preorder node h = let first : 0 ≡ node.node_id = ap (λ n. n.node_id) h in ap (λ m. numbered_node m node) (sym first) ∙ h

pub children_in_preorder : (node : Node) (i : ℕ) (d : Role × Node) → IsPreorder node → i < length (trees node.children) → IsPreorder (get_or (trees node.children) i d).1
children_in_preorder node i d h k = child_in_preorder node.children (node.node_id + 1) i d (ap (λ n. n.children) h) k
