-- Under which number a table of bindings has a name.
use Rattle.std.specs.Prelude.{◌≡◌, ℕ, List, Option, map}
use Rattle.std.specs.Map.{lookup}
use Rattle.std.specs.Str.{bytes_eq}
use Rattle.semantic_syntax.specs.Tables.{Name, Tables}
use Rattle.scoping_rows.specs.Flat.{Numbered, bound_under}

-- what each scope binds to the name, the list has under the number, if there is one
abbrev pub IsPlaceOf : Tables → Name → List Numbered → Option ℕ → Type 0
IsPlaceOf t name bs number = map (bound_under number) bs ≡ map (lookup (bytes_eq name)) t.bindings
