-- Symbols that count as a variable, in the words of the definitions.
use Rattle.std.specs.Prelude.{ℕ, List}
use Rattle.semantic_model.specs.Naming.{Naming}
use Rattle.semantic_model.specs.Hoist.{PassedSymbol as PassedSymbolOnWay}
use Rattle.walk_model.specs.WalkState.{WalkState}
use Rattle.walk_model.specs.Hoists.{passed_symbol, against_way, hoisted_by, hoisted_symbol}
use Rattle.table_building.specs.declared.hoist.PassedSymbol.{PassedSymbol}

abbrev pub passed_symbol_of : PassedSymbol → PassedSymbolOnWay
passed_symbol_of h = record { scope = h.scope; symbol = h.symbol }

-- a `var` has its symbol
abbrev pub hoisted : WalkState → List ℕ → ℕ → Naming → WalkState
hoisted w passed target d = hoisted_by (against_way w d passed) target d (passed_symbol w passed d.name)

-- that symbol
abbrev pub symbol_hoisted : WalkState → List ℕ → ℕ → Naming → ℕ
symbol_hoisted w passed target d = hoisted_symbol (against_way w d passed) target d (passed_symbol w passed d.name)
