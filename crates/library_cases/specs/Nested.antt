-- Scopes one inside the other, each of which binds one name.
use Rattle.std.specs.Prelude.{ℕ, ◌==◌, ◌-◌, List, Option, None, Some, length, if◌then◌else◌}
use Rattle.std.specs.Str.{bytes_eq}
use Rattle.semantic_syntax.specs.Tables.{Name}
use Rattle.semantic_syntax.specs.Source.{Source}
use Rattle.scoping_rows.specs.Names.{name_at}

-- the scope around the scope: the one before it
abbrev pub scope_around : ℕ → Option ℕ
scope_around s = if s == 0 then None else Some (s - 1)

-- the symbol of the scope's own number, if the name is that of the scope
abbrev pub own_symbol : List Name → ℕ → Name → Option ℕ
own_symbol names s name = if bytes_eq name (name_at names s) then Some s else None

-- as many scopes as there are names, all with the same flags, as are their symbols and the ways of references
abbrev pub nest_of : List Name → ℕ → ℕ → ℕ → Source
nest_of names flags declared way = record {
  scopes = length names;
  symbols = length names;
  references = 1;
  parent = scope_around;
  scope_flags = λ s. flags;
  bound = own_symbol names;
  symbol_flags = λ y. declared;
  way = λ r. way;
}
