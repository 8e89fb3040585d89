-- The entries of a symbol, by its row.
use Rattle.std.proofs.Common.{◌≡◌, ℕ, ◌<◌, ◌≤◌, [], length, ap}
use Rattle.std.specs.Prelude.{slice_get}
use Rattle.std.proofs.lemmas.Option.{slice_get-get_or, slice_get_past}
use Rattle.semantic_syntax.specs.Tables.{Tables}
use Rattle.semantic_syntax.specs.Reading.{redeclarations_of, no_symbol}
use Rattle.check_model.specs.Sight.{entries_in}

-- a symbol of the table has those of its row
pub entries_within : (t : Tables) (y : ℕ) → y < length t.symbols → entries_in (slice_get t.symbols y) ≡ redeclarations_of t y
entries_within t y h = ap entries_in (slice_get-get_or t.symbols y no_symbol h)

-- another has none
pub entries_past : (t : Tables) (y : ℕ) → length t.symbols ≤ y → entries_in (slice_get t.symbols y) ≡ []
entries_past t y h = ap entries_in (slice_get_past t.symbols y h)

pub ruleset entries = (entries_within, entries_past)
