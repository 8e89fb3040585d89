-- Laws on how many nodes of each kind there are.
use Rattle.std.proofs.Common.{◌≡◌, ℕ, zero, suc, ◌+◌, ◌<◌, ◌≤◌, List, [], ◌∷◌, Bool, true, false, cond, length, drop, get_or, slice_set, refl, arith}
use Rattle.std.proofs.Math.Dec.{eqb, eqb-zero-suc, eqb-suc-zero, eqb-suc-suc}
use Rattle.semantic_syntax.proofs.Truth.{drop_here}
use Rattle.semantic_kinds.specs.Kinds.{same_kind}
use Rattle.semantic_kinds.specs.declared.kind.AstType.{AstType}
use Rattle.semantic_kinds.specs.declared.role.Role.{Role}
use Rattle.semantic_kinds.specs.declared.role.Role.TheVariants as roles
use Rattle.semantic_tree.specs.Forest.{Forest, nothing, tree, count, numbered}
use Rattle.semantic_tree.specs.Children.{forest_of, single, node_count, numbered_node}
use Rattle.semantic_tree.specs.Renamed.{renamed, setting_below}
use Rattle.semantic_tree.specs.KindCounts.{kind_count}
use Rattle.semantic_tree.specs.declared.node.Node.{Node}
use Rattle.semantic_tree.specs.declared.swap.Setting.{Setting}

-- one more at a place
pub counted_at : (counts : List ℕ) (i k : ℕ) → i < length counts → get_or (slice_set counts i (get_or counts i 0 + 1)) k 0 ≡ get_or counts k 0 + cond (eqb k i) 1 0
counted_at [] i k h = absurd (omega arith)
counted_at (c ∷ cs) zero zero h = refl
counted_at (c ∷ cs) zero (suc k) h = rw (eqb-suc-zero k) (omega arith)
counted_at (c ∷ cs) (suc i) zero h = rw (eqb-zero-suc i) (omega arith)
counted_at (c ∷ cs) (suc i) (suc k) h = rw (eqb-suc-suc k i) (counted_at cs i k (omega arith))

at_most_one : (b : Bool) → cond b 1 0 ≤ 1
at_most_one true = omega arith
at_most_one false = omega arith

-- there are at most as many of a kind as nodes
pub kind_within : (k : AstType) (f : Forest) → kind_count k f ≤ count f
kind_within k nothing = omega arith
kind_within k (tree role kind span text marks below id after) =
    omega (arith, at_most_one (same_kind k kind), kind_within k below, kind_within k after)

-- a child before the others
pub kind_turn : (k : AstType) (items : List (Role × Node)) (i : ℕ) (role : Role) (node : Node) → i < length items → (role, node) ≡ get_or items i (role, node)
    → kind_count k (forest_of (drop i items)) ≡ kind_count k (single roles.Root node) + kind_count k (forest_of (drop (i + 1) items))
kind_turn k items i role node h e = rw (drop_here items i (role, node) h e) (omega arith)

-- numbers and names change no kind
pub kinds-numbered : (k : AstType) (n : ℕ) (f : Forest) → kind_count k (numbered n f) ≡ kind_count k f
kinds-numbered k n nothing = refl
kinds-numbered k n (tree role kind span text marks below id after) =
    rw (kinds-numbered k (n + 1) below, kinds-numbered k (n + 1 + count below) after) refl

pub kinds-renamed : (k : AstType) (f : List ℕ → List ℕ) (s : Setting) (t : Forest) → kind_count k (renamed f s t) ≡ kind_count k t
kinds-renamed k f s nothing = refl
kinds-renamed k f s (tree role kind span text marks below id after) =
    rw (kinds-renamed k f (setting_below s role kind) below, kinds-renamed k f s after) refl

-- one node counted
pub counts_one : (k : AstType) (node : Node) (before now after : ℕ) → now ≡ before + cond (same_kind k node.kind) 1 0 → after ≡ now + kind_count k node.children → after ≡ before + kind_count k (single roles.Root node)
counts_one k node before now after e f = omega arith

pub one_more_within : (b : Bool) (before now n : ℕ) → before ≤ n → now ≡ before + cond b 1 0 → now ≤ n + 1
one_more_within b before now n h e = omega (arith, at_most_one b)

-- a node counted is within the next number
pub node_within : (k : AstType) (node : Node) (before now n : ℕ) → before ≤ n → now ≡ before + kind_count k (single roles.Root node) → now ≤ n + node_count node
node_within k node before now n h e = omega (arith, kind_within k (single roles.Root node))

-- all nodes are counted once they are numbered
pub counts_all : (k : AstType) (root numbered : Node) (before now : ℕ) → numbered ≡ numbered_node 0 root → before ≡ 0 → now ≡ before + kind_count k (single roles.Root root) → now ≡ kind_count k (single roles.Root numbered)
counts_all k root numbered before now e z h = rw e (omega (arith, kinds-numbered k 1 root.children))
