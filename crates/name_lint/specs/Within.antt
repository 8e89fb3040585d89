-- What is known of a program's names speaks of symbols that there are.
use Rattle.std.specs.Prelude.{◌≡◌, ◌<◌, ℕ, List, Option, length, All}
use Rattle.semantic_syntax.specs.Tables.{Tables}
use Rattle.reachability.specs.Rows.{Reached, rows_from_pairs}
use Rattle.name_lint.specs.Live.{at_once, owned_by}

-- the symbol is in use, by the tables, the symbols of nodes, what exports bind and the owners of references
abbrev pub LiveIn : Tables → (ℕ → Option ℕ) → (exported : List ℕ) → (owners : List (Option ℕ)) → ℕ → Type 0
LiveIn t symbol exported owners s = Reached (rows_from_pairs (length t.symbols) (owned_by t owners)) (at_once t symbol exported owners) s

-- each reference has an owner or none, and all symbols are the tables'
pub record OwnersAreSymbols (t : Tables) (symbol : ℕ → Option ℕ) (exported : List ℕ) (owners : List (Option ℕ)) : Type 0 where
  pub references : length owners ≡ length t.references
  pub seeds : All (λ s. s < length t.symbols) (at_once t symbol exported owners)
  pub owning : All (λ pair. pair.0 < length t.symbols) (owned_by t owners)
  pub used : All (λ pair. pair.1 < length t.symbols) (owned_by t owners)
