-- What the tables lend.
use Rattle.std.specs.Prelude.{ℕ}
use Rattle.std.specs.Borrow.{Lends, MutBor, Fml}
use Rattle.semantic_syntax.specs.Tables.{Tables}
use Rattle.semantic_syntax.specs.declared.references.Reference.{Reference}
use Rattle.semantic_syntax.specs.declared.scope_flags.ScopeFlags.{ScopeFlags}
use Rattle.semantic_syntax.specs.declared.symbol_flags.SymbolFlags.{SymbolFlags}
use Rattle.semantic_syntax.specs.contracts.references.Reference as reference
use Rattle.semantic_syntax.specs.contracts.scope_flags.ScopeFlags as scope_flags
use Rattle.semantic_syntax.specs.contracts.symbol_flags.SymbolFlags as symbol_flags
use Rattle.scoping.specs.contracts.scoping.Scoping as scoping
use Rattle.semantic_syntax.specs.Reading.{scope_of, symbol_of}
use Rattle.semantic_syntax.specs.Writing.{with_scope, with_symbol, with_reference}

-- the tables end with the last reference that was written through the loan
abbrev pub LendsReference : MutBor Tables → ℕ → MutBor Reference → Fml
LendsReference t r lent = Lends scoping.the_row reference.the_row t lent (with_reference t.now r)

-- the tables end with the last flags of the scope that were written through the loan
abbrev pub LendsScopeFlags : MutBor Tables → ℕ → MutBor ScopeFlags → Fml
LendsScopeFlags t s lent = Lends scoping.the_row scope_flags.the_row t lent (λ flags. with_scope t.now s (record (scope_of t.now s) { flags = flags }))

-- the tables end with the last flags of the symbol that were written through the loan
abbrev pub LendsSymbolFlags : MutBor Tables → ℕ → MutBor SymbolFlags → Fml
LendsSymbolFlags t y lent = Lends scoping.the_row symbol_flags.the_row t lent (λ flags. with_symbol t.now y (record (symbol_of t.now y) { flags = flags }))
