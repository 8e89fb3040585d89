-- A name that a scope binds to a new symbol, unless it binds the name.
use Rattle.std.specs.Prelude.{[], ◌∷◌, ◌++◌, length}
use Rattle.std.specs.Map.{lookup}
use Rattle.std.specs.Option.{option_map_or}
use Rattle.std.specs.Str.{bytes_eq}
use Rattle.semantic_syntax.specs.Tables.{Symbol, Tables}
use Rattle.semantic_syntax.specs.Reading.{bindings_of}
use Rattle.semantic_syntax.specs.Writing.{bound}

-- the symbol is added, and its scope binds its name to it
abbrev pub with_own : Tables → Symbol → Tables
with_own t x = record (bound t x.scope x.name (length t.symbols)) { symbols = t.symbols ++ x ∷ []; uses = t.uses ++ [] ∷ [] }

-- and so where the scope doesn't bind the name
abbrev pub claimed : Tables → Symbol → Tables
claimed t x = option_map_or (λ y. t) (lookup (bytes_eq x.name) (bindings_of t x.scope)) (with_own t x)
