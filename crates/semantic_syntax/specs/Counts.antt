-- A counter that stands still at the greatest number of 64 bits.
use Rattle.std.specs.Prelude.{ℕ, ◌+◌, min, max}

-- the count after so many probes more
abbrev pub raised : ℕ → ℕ → ℕ
raised count steps = max count (min (count + steps) 18446744073709551615)
