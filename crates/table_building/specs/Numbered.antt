-- Names that scopes remember, under the numbers of the names.
use Rattle.std.specs.Prelude.{ℕ, ◌<◌, List, map, length}
use Rattle.std.specs.List.{AllByRecursion}
use Rattle.semantic_syntax.specs.Tables.{Name}
use Rattle.scoping_rows.specs.Names.{name_at}
use Rattle.semantic_model.specs.Binding.{Binding}
use Rattle.table_building.specs.Marked.{AreMarked}
use Rattle.table_building.specs.declared.hoisting_variables.HoistingVariables.TheInside.{Inside}

-- an entry with the name in place of its number
abbrev pub binding_of : List Name → (ℕ × ℕ) × ℕ → Binding
binding_of names e = record { scope = e.0.0; name = name_at names e.0.1; symbol = e.1 }

abbrev pub bindings_named : List Name → List ((ℕ × ℕ) × ℕ) → List Binding
bindings_named names es = map (binding_of names) es

-- each number is that of a name
abbrev pub AreNumbered : ℕ → List ((ℕ × ℕ) × ℕ) → Type 0
AreNumbered count es = AllByRecursion (λ e. e.0.1 < count) es

abbrev pub remembered : Inside → List Binding
remembered r = bindings_named r.names r.symbols.entries

-- and each scope that remembers one is marked
pub record IsNumberedTable (r : Inside) : Type 0 where
  pub numbered : AreNumbered (length r.names) r.symbols.entries
  pub marked : AreMarked r.remembering r.symbols.entries
