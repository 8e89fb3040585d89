-- What the fields of a table of bindings show, and what is true of them.
use Rattle.std.specs.Prelude.{List, map}
use Rattle.scoping_rows.specs.declared.binding_table.BindingTable.TheInside.{Inside}
use Rattle.scoping_rows.specs.Flat.{Numbered, filled, AreIndexed}

-- what each scope binds
abbrev pub bindings_of_table : Inside → List Numbered
bindings_of_table a = map filled a.scopes.items

-- the map tells the places of all bindings behind the first ones of their scopes
abbrev pub IsKept : Inside → Type 0
IsKept a = AreIndexed a.positions.entries a.scopes.items
