-- The tables with one entry changed.
use Rattle.std.specs.Prelude.{ℕ, List, [], nat_eq, slice_set, slice_index_or, fold, if◌then◌else◌}
use Rattle.std.specs.Option.{option_map_or}
use Rattle.std.specs.Map.{lookup, values_of}
use Rattle.std.specs.Str.{bytes_eq}
use Rattle.indexmap.specs.IndexMap.{insert_entry, shift_remove_entry, swap_remove_by}
use Rattle.semantic_syntax.specs.declared.references.Reference.{Reference}
use Rattle.semantic_syntax.specs.Tables.{Name, Scope, Symbol, Bindings, Tables}
use Rattle.semantic_syntax.specs.Reading.{bindings_of, uses_of, no_symbol}

abbrev pub with_scope : Tables → ℕ → Scope → Tables
with_scope t s x = record t { scopes = slice_set t.scopes s x }

abbrev pub with_symbol : Tables → ℕ → Symbol → Tables
with_symbol t y x = record t { symbols = slice_set t.symbols y x }

abbrev pub with_reference : Tables → ℕ → Reference → Tables
with_reference t r x = record t { references = slice_set t.references r x }

abbrev pub with_bindings : Tables → ℕ → Bindings → Tables
with_bindings t s bs = record t { bindings = slice_set t.bindings s bs }

abbrev pub with_uses : Tables → ℕ → List ℕ → Tables
with_uses t y rs = record t { uses = slice_set t.uses y rs }

-- the name bound in the scope: a new name goes last, a bound one keeps its place and takes the symbol
abbrev pub bound : Tables → ℕ → Name → ℕ → Tables
bound t s name y = with_bindings t s (insert_entry bytes_eq (bindings_of t s) name y)

-- the name unbound in the scope: the others keep their order
abbrev pub unbound : Tables → ℕ → Name → Tables
unbound t s name = with_bindings t s (shift_remove_entry (bytes_eq name) (bindings_of t s))

-- the name moved from one scope to another, where it is bound
abbrev pub name_moved : Tables → ℕ → ℕ → Name → Tables
name_moved t from to name = option_map_or (λ y. unbound (bound t to name y) from name) (lookup (bytes_eq name) (bindings_of t from)) t

-- the old name unbound in the scope, and the new one bound to the symbol; equal names stay as they are
abbrev pub binding_renamed : Tables → ℕ → ℕ → Name → Name → Tables
binding_renamed t s y old new = if bytes_eq new old then t else bound (unbound t s old) s new y

-- the symbols with another name for one of them
abbrev pub with_symbol_name : Name → List Symbol → ℕ → List Symbol
with_symbol_name name ys y = slice_set ys y (record (slice_index_or ys y no_symbol) { name = name })

-- the symbols with another scope for one of them
abbrev pub with_home : ℕ → List Symbol → ℕ → List Symbol
with_home scope ys y = slice_set ys y (record (slice_index_or ys y no_symbol) { scope = scope })

-- the list of one scope made the other's, and its symbols with it
abbrev pub bindings_taken_over : Tables → ℕ → ℕ → Tables
bindings_taken_over t from to = record (with_bindings (with_bindings t from []) to (bindings_of t from)) {
  symbols = fold (with_home to) t.symbols (values_of (bindings_of t from));
}

-- the symbol's uses without the reference: the last one takes its place
abbrev pub without_use : Tables → ℕ → ℕ → Tables
without_use t y r = with_uses t y (swap_remove_by (nat_eq r) (uses_of t y))
