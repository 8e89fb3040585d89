-- What a symbol lends.
use Rattle.std.specs.Borrow.{Lends, MutBor, Fml}
use Rattle.semantic_syntax.specs.declared.symbol_flags.SymbolFlags.{SymbolFlags}
use Rattle.semantic_syntax.specs.contracts.symbol_flags.SymbolFlags as symbol_flags
use Rattle.scoping_rows.specs.contracts.symbol_row.SymbolRow as row
use Rattle.scoping_rows.specs.Row.{Row}

-- the symbol ends with the last flags that were written through the loan
abbrev pub LendsRowFlags : MutBor Row → MutBor SymbolFlags → Fml
LendsRowFlags y lent = Lends row.the_row symbol_flags.the_row y lent (λ flags. record y.now { flags = flags })
