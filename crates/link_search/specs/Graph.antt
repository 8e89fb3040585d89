-- The graph of the pairs that have numbers.
use Rattle.std.specs.Prelude.{◌≡◌, ◌<◌, ◌≤◌, ℕ, List, [], ◌∷◌, Some, slice_get, length}
use Rattle.reachability.specs.Rows.{Among, row}
use Rattle.link_search.specs.Numbering.{Pair, AreNumbersOf, ArePairsWithin, AreDistinctPairs}

-- each pair that is met has a number
abbrev pub StartAmong : List Pair → List Pair → Type 0
StartAmong keys [] = Unit {0}
StartAmong keys (p ∷ ps) = ((i : ℕ) × (slice_get keys i ≡ Some p)) × StartAmong keys ps

-- the row of each pair has the numbers of those to which it leads
pub record AreRowsOf (leads : Pair → List Pair) (keys : List Pair) (rows : List (List ℕ)) : Type 0 where
  pub many : length rows ≡ length keys
  pub each : (i : ℕ) (p : Pair) → slice_get keys i ≡ Some p → AreNumbersOf keys (row rows i) (leads p)

-- the least set that has the starts, and with a pair those to which it leads
pub data IsReached (leads : Pair → List Pair) (starts : List Pair) : Pair → Type 0 where
  start : (p : Pair) → Among p starts → IsReached leads starts p
  onward : (p q : Pair) → IsReached leads starts p → Among q (leads p) → IsReached leads starts q

-- the pairs up to a number have rows
pub record AreRowsSoFar (m n : ℕ) (leads : Pair → List Pair) (starts keys : List Pair) (rows : List (List ℕ)) : Type 0 where
  pub distinct : AreDistinctPairs keys
  pub within : ArePairsWithin m n keys
  pub reached : (p : Pair) → Among p keys → IsReached leads starts p
  pub begun : StartAmong keys starts
  pub few : length rows ≤ length keys
  pub each : (i : ℕ) (p : Pair) → i < length rows → slice_get keys i ≡ Some p → AreNumbersOf keys (row rows i) (leads p)
