-- Sets of kinds, bit by bit.
use Rattle.std.proofs.Common.{◌≡◌, ℕ, zero, suc, ◌<◌, List, [], ◌∷◌, Bool, true, false, ◌||◌, length, get_or, slice_set, refl, arith}
use Rattle.std.specs.List.{list_all, list_any}
use Rattle.semantic_kinds.specs.Kinds.{same_kind}
use Rattle.node_store.specs.NodeList.{SeenNode}
use Rattle.semantic_kinds.specs.declared.kind.AstType.{AstType}
use Rattle.std.proofs.Math.Dec.{eqb, eqb-zero-suc, eqb-suc-zero, eqb-suc-suc}
use Rattle.semantic_syntax.proofs.Truth.{or_assoc}

or_false : (b : Bool) → b ≡ b || false
or_false true = refl
or_false false = refl

or_true : (b : Bool) → true ≡ b || true
or_true true = refl
or_true false = refl

pub set_at : (bits : List Bool) (i k : ℕ) → i < length bits → get_or (slice_set bits i true) k false ≡ get_or bits k false || eqb k i
set_at [] i k h = absurd (omega arith)
set_at (b ∷ bs) zero zero h = or_true b
set_at (b ∷ bs) zero (suc k) h = rw (eqb-suc-zero k) (or_false (get_or bs k false))
set_at (b ∷ bs) (suc i) zero h = rw (eqb-zero-suc i) (or_false b)
set_at (b ∷ bs) (suc i) (suc k) h = rw (eqb-suc-suc k i) (set_at bs i k (omega arith))

-- tests that agree on each kind agree on a list
pub all_alike : (p q : AstType → Bool) → ((k : AstType) → p k ≡ q k) → (kinds : List AstType) → list_all p kinds ≡ list_all q kinds
all_alike p q same [] = refl
all_alike p q same (k ∷ ks) = rw (same k, all_alike p q same ks) refl

-- a kind that is set for a node before the others
pub one_more : (k ty : AstType) (a b : Bool) (s : SeenNode) (rest left : List SeenNode) → b ≡ (a || same_kind k ty) → ty ≡ s.node.kind → left ≡ s ∷ rest
    → (b || list_any (λ s. same_kind k s.node.kind) rest) ≡ (a || list_any (λ s. same_kind k s.node.kind) left)
one_more k ty a b s rest left set is e = rw (set, is, e) (or_assoc a (same_kind k s.node.kind) (list_any (λ s. same_kind k s.node.kind) rest))
