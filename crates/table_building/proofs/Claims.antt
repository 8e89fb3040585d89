-- A claim of a name.
use Rattle.std.proofs.Common.{ℕ, Option, None, Some}
use Rattle.std.specs.Option.{option_map_or}
use Rattle.std.specs.Map.{lookup}
use Rattle.std.specs.Str.{bytes_eq}
use Rattle.semantic_syntax.specs.Tables.{Symbol, Tables}
use Rattle.semantic_syntax.specs.Reading.{bindings_of}
use Rattle.scoping.specs.Claimed.{claimed, with_own}
use Rattle.table_building.specs.Growth.{Grows}
use Rattle.table_building.proofs.Growing.{grows-refl}
use Rattle.table_building.proofs.Grown.{at_least, one_more}

-- the tables grow
pub grows_claimed : (t : Tables) (x : Symbol) → Grows t (claimed t x)
grows_claimed t x = by (lookup (bytes_eq x.name) (bindings_of t x.scope))
  where
    by : (o : Option ℕ) → Grows t (option_map_or (λ y. t) o (with_own t x))
    by None = record { scopes = at_least _; symbols = one_more _ _; references = at_least _ }
    by (Some y) = grows-refl t
