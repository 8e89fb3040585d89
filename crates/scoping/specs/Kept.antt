-- The tables as types are dropped, and symbols that a use writes.
use Rattle.std.specs.Prelude.{ℕ, ◌==◌, ◌&&◌, not, Bool, List, map, filter, slice_index_or}
use Rattle.std.specs.List.{list_any}
use Rattle.std.specs.Int.RustNames.{bit_and}
use Rattle.semantic_syntax.specs.declared.references.Reference.{Reference}
use Rattle.semantic_syntax.specs.declared.reference_flags.TheConstants.ReferenceFlags as way
use Rattle.semantic_syntax.specs.declared.symbol_flags.TheConstants.SymbolFlags as symbol
use Rattle.semantic_syntax.specs.Sets.{meets}
use Rattle.semantic_syntax.specs.Tables.{Symbol, Tables}
use Rattle.semantic_syntax.specs.Reading.{no_symbol, symbol_of, reference_of, uses_of}
use Rattle.scoping_rows.specs.Kept.{goes_with_types, without_type_uses, lists_without_types}

-- the bindings of symbols that stay
abbrev pub without_types : {K : Type 0} → List Symbol → List (K × ℕ) → List (K × ℕ)
without_types ys bs = filter (λ b. not (goes_with_types (slice_index_or ys b.1 no_symbol).flags.bits)) bs

-- the tables without what stands for types alone: uses, free references and bindings
abbrev pub without_typescript : Tables → Tables
without_typescript t = record t {
  bindings = map (without_types t.symbols) t.bindings;
  uses = map (without_type_uses t.references) t.uses;
  free = lists_without_types t.references t.free;
}

-- whether the symbol is not a constant, and a use of it writes
abbrev pub is_mutated : Tables → ℕ → Bool
is_mutated t y =
    not (bit_and (symbol_of t y).flags.bits symbol.ConstVariable.bits == symbol.ConstVariable.bits)
    && list_any (λ (r : Reference). meets r.flags.bits way.Write.bits) (map (reference_of t) (uses_of t y))
