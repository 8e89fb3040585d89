-- Pairs that get numbers as they are met.
use Rattle.std.specs.Prelude.{◌≡◌, ◌<◌, ℕ, ◌==◌, List, [], ◌∷◌, ◌++◌, Bool, ◌&&◌, Some, cond, slice_get}
use Rattle.std.specs.List.{list_any}
use Rattle.reachability.specs.Rows.{Among}

-- a pair of numbers
abbrev pub Pair : Type 0
Pair = ℕ × ℕ

-- both have the same first and second
abbrev pub same_pair : Pair → Pair → Bool
same_pair a b = (a.0 == b.0) && (a.1 == b.1)

-- a pair is met: it is there, or goes last
abbrev pub with_pair : List Pair → Pair → List Pair
with_pair ps p = cond (list_any (same_pair p) ps) ps (ps ++ p ∷ [])

-- one pair after the other
abbrev pub with_pairs : List Pair → List Pair → List Pair
with_pairs ps [] = ps
with_pairs ps (p ∷ more) = with_pairs (with_pair ps p) more

-- the numbers are the places of the pairs
abbrev pub AreNumbersOf : List Pair → List ℕ → List Pair → Type 0
AreNumbersOf ps [] [] = Unit {0}
AreNumbersOf ps (i ∷ is) (q ∷ qs) = (slice_get ps i ≡ Some q) × AreNumbersOf ps is qs
AreNumbersOf ps _ _ = ⊥

-- no pair stands twice
abbrev pub AreDistinctPairs : List Pair → Type 0
AreDistinctPairs [] = Unit {0}
AreDistinctPairs (p ∷ ps) = (Among p ps → ⊥) × AreDistinctPairs ps

-- firsts and seconds are below their bounds
abbrev pub ArePairsWithin : (m n : ℕ) → List Pair → Type 0
ArePairsWithin m n [] = Unit {0}
ArePairsWithin m n (p ∷ ps) = (p.0 < m) × (p.1 < n) × ArePairsWithin m n ps
