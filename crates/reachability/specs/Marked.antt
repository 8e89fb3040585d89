-- Numbers that are marked, each once.
use Rattle.std.specs.Prelude.{ℕ, zero, suc, ◌+◌, List, [], ◌∷◌, ◌++◌, Bool, true, false, cond, set, slice_index_or, nat_lt, length, replicate}
use Rattle.reachability.specs.Rows.{row}

-- a mark for each number, and the marked ones in order of marking
pub record Marked : Type 0 where
  pub marks : List Bool
  pub list : List ℕ

-- the number has a mark
abbrev pub is_marked : List Bool → ℕ → Bool
is_marked marks a = slice_index_or marks a false

-- a number gets its mark, unless it has it
abbrev pub with_number_marked : Marked → ℕ → Marked
with_number_marked m a = cond (is_marked m.marks a) m (record { marks = set m.marks a true; list = m.list ++ a ∷ [] })

-- one number after the other
abbrev pub with_numbers_marked : Marked → List ℕ → Marked
with_numbers_marked m [] = m
with_numbers_marked m (a ∷ more) = with_numbers_marked (with_number_marked m a) more

-- the row of each listed number from a place on is marked, at most so often
abbrev pub closed_from : List (List ℕ) → (rounds next : ℕ) → Marked → Marked
closed_from rows zero next m = m
closed_from rows (suc rounds) next m =
    cond (nat_lt next (length m.list)) (closed_from rows rounds (next + 1) (with_numbers_marked m (row rows (slice_index_or m.list next 0)))) m

-- the marks of all that is reached, by computation
abbrev pub reached_marks : List (List ℕ) → List ℕ → List Bool
reached_marks rows seeds =
    (closed_from rows (length rows) 0 (with_numbers_marked (record { marks = replicate (length rows) false; list = [] }) seeds)).marks
