-- How often the root scope binds each symbol.
use Rattle.std.specs.Prelude.{◌≡◌, ℕ, zero, suc, ◌+◌, ◌<◌, List, [], ◌++◌, ◌==◌, filter, map, length, slice_index_or}
use Rattle.semantic_syntax.specs.Tables.{Tables}
use Rattle.semantic_diagnostics.specs.declared.diagnostic.Diagnostic.{Diagnostic}
use Rattle.semantic_syntax.specs.Reading.{bindings_of}

-- the symbols that the root scope binds
abbrev pub root_symbols : Tables → List ℕ
root_symbols t = map (λ b. b.1) (bindings_of t 0)

-- how often a list has the number
abbrev pub times_in : List ℕ → ℕ → ℕ
times_in bound number = length (filter (λ other. other == number) bound)

-- for each symbol how often it is bound
pub record AreCounts (bound : List ℕ) (symbols : ℕ) (counts : List ℕ) : Type 0 where
  pub for_each : length counts ≡ symbols
  pub are_times : (number : ℕ) → number < symbols → slice_index_or counts number 0 ≡ times_in bound number

-- the same, but for those that are left to count
pub record AreCounting (bound left : List ℕ) (symbols : ℕ) (counts : List ℕ) : Type 0 where
  pub for_each : length counts ≡ symbols
  pub are_times : (number : ℕ) → number < symbols → slice_index_or counts number 0 + times_in left number ≡ times_in bound number

-- the rows so often
abbrev pub rows_repeated : ℕ → List Diagnostic → List Diagnostic
rows_repeated zero rows = []
rows_repeated (suc times) rows = rows ++ rows_repeated times rows
