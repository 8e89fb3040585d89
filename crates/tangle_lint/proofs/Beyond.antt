-- What the tables tell of symbols that they don't hold.
use Rattle.std.proofs.Common.{◌≡◌, ◌≤◌, ℕ, zero, suc, List, [], ◌∷◌, refl, ap, length, slice_index_or, arith}
use Rattle.std.specs.Str.{encode_utf8_all}
use Rattle.semantic_syntax.specs.Tables.{Tables, Symbol}
use Rattle.semantic_syntax.specs.Reading.{no_symbol, symbol_of}

symbol_beyond : (symbols : List Symbol) (y : ℕ) → length symbols ≤ y → slice_index_or symbols y no_symbol ≡ no_symbol
symbol_beyond [] y h = refl
symbol_beyond (e ∷ es) zero h = absurd (omega arith)
symbol_beyond (e ∷ es) (suc y) h = symbol_beyond es y (omega arith)

-- a symbol that isn't there has no name
pub name_beyond : (t : Tables) (y : ℕ) → length t.symbols ≤ y → encode_utf8_all (symbol_of t y).name ≡ []
name_beyond t y h = ap (λ (e : Symbol). encode_utf8_all e.name) (symbol_beyond t.symbols y h)

pub ruleset names = (name_beyond)
