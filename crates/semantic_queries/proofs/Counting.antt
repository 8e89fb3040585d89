-- Counting nodes kind by kind.
use Rattle.std.proofs.Common.{◌≡◌, ℕ, ◌+◌, ◌^◌, ◌<◌, ◌≤◌, List, Bool, true, false, cond, length, drop, get_or, refl, ap, sym, ◌∙◌, arith, add-one}
use Rattle.std.proofs.Math.ListN.{drop_of_length-le}
use Rattle.std.proofs.Math.Seq.{drop-cons}
use Rattle.semantic_kinds.specs.Kinds.{all_kinds}
use Rattle.semantic_kinds.specs.declared.kind.AstType.{AstType}
use Rattle.semantic_tree.specs.Forest.{Forest, nothing, tree, count}
use Rattle.semantic_tree.specs.KindCounts.{kind_count, how_many, among_kinds}
use Rattle.semantic_tree.proofs.KindSums.{kinds_make_up}
use Rattle.semantic_model.specs.Inside.{opens, scopes_in}
use Rattle.walk_model.proofs.sizes.ProgramRoom.{passes_few}

-- a scope for each node that opens one
pub openers : (f : Forest) → how_many opens f ≡ scopes_in f
openers nothing = refl
openers (tree role kind span text marks below id after) = rw (openers below, openers after) refl

-- a kind before the others
kind_first : (test : AstType → Bool) (f : Forest) (kinds : List AstType) (i : ℕ) (d : AstType) → i < length kinds
    → among_kinds test f (drop i kinds) ≡ cond (test (get_or kinds i d)) (kind_count (get_or kinds i d) f) 0 + among_kinds test f (drop (i + 1) kinds)
kind_first test f kinds i d h = rw (drop-cons kinds i d h, add-one) refl

within : (test : AstType → Bool) (f : Forest) (so_far here rest : ℕ) → count f < 2 ^ 32 → so_far + (here + rest) ≡ among_kinds test f all_kinds → so_far + here < 2 ^ 32
within test f so_far here rest small e = omega (arith, kinds_make_up test f, passes_few test f)

-- what is counted so far and the next kind are no more than all nodes
pub kind_fits : (test : AstType → Bool) (f : Forest) (kinds : List AstType) (i : ℕ) (d : AstType) (so_far n : ℕ) → count f < 2 ^ 32 → i < length kinds → n ≡ kind_count (get_or kinds i d) f
    → so_far + among_kinds test f (drop i kinds) ≡ among_kinds test f all_kinds → so_far + cond (test (get_or kinds i d)) n 0 < 2 ^ 32
kind_fits test f kinds i d so_far n small h e all =
    rw e (within test f so_far (cond (test (get_or kinds i d)) (kind_count (get_or kinds i d) f) 0) (among_kinds test f (drop (i + 1) kinds)) small (ap (λ m. so_far + m) (sym (kind_first test f kinds i d h)) ∙ all))

-- behind the last kind all are counted
pub kinds_added : (test : AstType → Bool) (f : Forest) (kinds : List AstType) (i so_far : ℕ) → length kinds ≤ i → so_far + among_kinds test f (drop i kinds) ≡ among_kinds test f all_kinds → so_far ≡ how_many test f
kinds_added test f kinds i so_far h all = omega (arith, ap (among_kinds test f) (drop_of_length-le kinds h), kinds_make_up test f, all)
