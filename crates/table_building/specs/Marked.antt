-- Marks of scopes.
use Rattle.std.specs.Prelude.{◌≡◌, ℕ, List, Bool, true, false, slice_index_or}
use Rattle.std.specs.List.{AllByRecursion}

-- what is marked stays marked
abbrev pub KeepsMarks : List Bool → List Bool → Type 0
KeepsMarks old new = (s : ℕ) → slice_index_or old s false ≡ true → slice_index_or new s false ≡ true

-- the scopes of the entries are marked
abbrev pub AreMarked : List Bool → List ((ℕ × ℕ) × ℕ) → Type 0
AreMarked marks es = AllByRecursion (λ e. slice_index_or marks e.0.0 false ≡ true) es
