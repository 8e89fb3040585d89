-- A symbol with the number of its name.
use Rattle.std.specs.Prelude.{ℕ, List, Option, None, slice_set, slice_index_or}
use Rattle.semantic_syntax.specs.declared.spans.Span.{Span}
use Rattle.semantic_syntax.specs.declared.symbol_flags.SymbolFlags.{SymbolFlags}
use Rattle.semantic_syntax.specs.declared.references.Redeclaration.{Redeclaration}
use Rattle.semantic_syntax.specs.Tables.{Symbol}
use Rattle.semantic_syntax.specs.Tables.{Name}
use Rattle.scoping_rows.specs.Names.{name_at}

pub record Row : Type 0 where
  pub name : ℕ
  pub span : Span
  pub flags : SymbolFlags
  pub scope : ℕ
  pub node : ℕ
  pub redeclarations : Option (List Redeclaration)

-- the symbol, with its name in place of the number
abbrev pub symbol_of_row : List Name → Row → Symbol
symbol_of_row names y = record { name = name_at names y.name; span = y.span; flags = y.flags; scope = y.scope; node = y.node; redeclarations = y.redeclarations }

-- the row's own entry among its declarations
abbrev pub own_entry_of_row : Row → Redeclaration
own_entry_of_row y = record { span = y.span; declaration = y.node; flags = y.flags }

-- what stands past the end of a list
abbrev pub no_row : Row
no_row = record { name = 0; span = record { start = 0; end = 0 }; flags = record { bits = 0 }; scope = 0; node = 0; redeclarations = None }

-- the rows with another name for one of them
abbrev pub row_named : ℕ → List Row → ℕ → List Row
row_named name ys y = slice_set ys y (record (slice_index_or ys y no_row) { name = name })

-- the rows with another scope for one of them
abbrev pub row_moved : ℕ → List Row → ℕ → List Row
row_moved scope ys y = slice_set ys y (record (slice_index_or ys y no_row) { scope = scope })
