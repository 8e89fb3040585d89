-- Marks at numbers.
use Rattle.std.specs.Prelude.{ℕ, List, Bool, false, slice_index_or}

-- the number is marked in a list of marks
abbrev pub is_number_marked : List Bool → ℕ → Bool
is_number_marked bits s = slice_index_or bits s false
