-- The tables of the fields, and what is true of the fields.
use Rattle.std.specs.Prelude.{◌≡◌, ℕ, ◌<◌, List, length, map}
use Rattle.std.specs.List.{AllByRecursion}
use Rattle.semantic_syntax.specs.Tables.{Scope, Tables}
use Rattle.scoping.specs.declared.scoping.ScopeRow.{ScopeRow}
use Rattle.scoping.specs.declared.scoping.Scoping.TheInside.{Inside}
use Rattle.scoping_rows.specs.Names.{named}
use Rattle.scoping_rows.specs.Row.{Row, symbol_of_row}
use Rattle.semantic_syntax.specs.Reading.{IsForest}

abbrev pub scope_of_row : ScopeRow → Scope
scope_of_row x = record { parent = x.parent; node = x.node; flags = x.flags }

abbrev pub tables : Inside → Tables
tables a = record {
  scopes = map scope_of_row a.scopes.items;
  bindings = map (named a.names) a.bindings;
  symbols = map (symbol_of_row a.names) a.symbols.items;
  references = a.references.items;
  uses = map (λ v. v.items) a.uses.items;
  free = named a.names a.free;
  pure_symbols = a.pure_symbols.keys;
}

-- a pair of a name's number and a symbol, both within bounds
abbrev pub IsBoundWithin : ℕ → ℕ → ℕ × ℕ → Type 0
IsBoundWithin names symbols b = (b.0 < names) × (b.1 < symbols)

-- a list under a name's number, all within bounds
abbrev pub IsListedWithin : ℕ → ℕ → ℕ × List ℕ → Type 0
IsListedWithin names references e = (e.0 < names) × AllByRecursion (λ r. r < references) e.1

pub record IsSound (a : Inside) : Type 0 where
  pub counted : length a.bindings ≡ length a.scopes.items
  pub bound : AllByRecursion (AllByRecursion (IsBoundWithin (length a.names) (length a.symbols.items))) a.bindings
  pub named : AllByRecursion (λ (y : Row). y.name < length a.names) a.symbols.items
  pub used : length a.uses.items ≡ length a.symbols.items
  pub uses : AllByRecursion (AllByRecursion (λ r. r < length a.references.items)) (map (λ v. v.items) a.uses.items)
  pub free : AllByRecursion (IsListedWithin (length a.names) (length a.references.items)) a.free
  pub forest : IsForest (map scope_of_row a.scopes.items)
  pub symbols_fit : length a.symbols.items < 4294967296
  pub scopes_fit : length a.scopes.items < 4294967296
  pub references_fit : length a.references.items < 4294967296
