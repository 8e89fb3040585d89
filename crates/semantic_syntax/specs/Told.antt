-- What the tables tell a look-up.
use Rattle.std.specs.Prelude.{length}
use Rattle.semantic_syntax.specs.Tables.{Tables}
use Rattle.semantic_syntax.specs.Source.{Source}
use Rattle.semantic_syntax.specs.Reading.{parent_of, scope_flags, bound_in, symbol_flags, way_of}

abbrev pub source_of : Tables → Source
source_of t = record {
  scopes = length t.scopes;
  symbols = length t.symbols;
  references = length t.references;
  parent = parent_of t.scopes;
  scope_flags = scope_flags t;
  bound = bound_in t;
  symbol_flags = symbol_flags t;
  way = way_of t;
}
