-- Rows of numbers. Each number leads to those in its row.
use Rattle.std.specs.Prelude.{◌≡◌, ◌⊎◌, ◌<◌, ℕ, zero, suc, List, [], ◌∷◌, ◌++◌, map, set, replicate, Vec, All}
use Rattle.std.specs.declared.alloc.Global.{Global}

-- the element stands in the list
abbrev pub Among : {A : Type 0} → A → List A → Type 0
Among x [] = ⊥
Among x (y ∷ ys) = (y ≡ x) ⊎ Among x ys

-- the row of a number, empty where there is none
abbrev pub row : {A : Type 0} → List (List A) → ℕ → List A
row [] a = []
row (r ∷ rs) zero = r
row (r ∷ rs) (suc a) = row rs a

-- the lists of vectors
abbrev pub lists : {A : Type 0} → List (Vec A Global) → List (List A)
lists vs = map (λ v. v.items) vs

-- the least set that has the seeds, and with a number all to which that leads
pub data Reached (rows : List (List ℕ)) (seeds : List ℕ) : ℕ → Type 0 where
  seed : (a : ℕ) → Among a seeds → Reached rows seeds a
  onward : (a b : ℕ) → Reached rows seeds a → Among b (row rows a) → Reached rows seeds b

-- each number in a row is below a bound
abbrev pub AreWithin : ℕ → List (List ℕ) → Type 0
AreWithin n rows = All (All (λ a. a < n)) rows

-- the second goes last into the row of the first
abbrev pub with_pair : {A : Type 0} → List (List A) → ℕ × A → List (List A)
with_pair rows pair = set rows pair.0 (row rows pair.0 ++ pair.1 ∷ [])

-- one pair after the other
abbrev pub with_pairs : {A : Type 0} → List (List A) → List (ℕ × A) → List (List A)
with_pairs rows [] = rows
with_pairs rows (pair ∷ pairs) = with_pairs (with_pair rows pair) pairs

-- so many rows: in each the seconds of the pairs whose first is its number, in order
abbrev pub rows_from_pairs : {A : Type 0} → ℕ → List (ℕ × A) → List (List A)
rows_from_pairs n pairs = with_pairs (replicate n []) pairs

-- no number stands twice
abbrev pub AreDistinct : List ℕ → Type 0
AreDistinct [] = Unit {0}
AreDistinct (x ∷ xs) = (Among x xs → ⊥) × AreDistinct xs
