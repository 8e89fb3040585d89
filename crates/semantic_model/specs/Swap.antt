-- Two names swapped, in a program and in its tables.
use Rattle.std.specs.Prelude.{◌≡◌, codes, [], false, map, bytes_eq}
use Rattle.semantic_syntax.specs.Tables.{Name, Tables, Symbol}
use Rattle.semantic_tree.specs.Renamed.{swap}
use Rattle.semantic_model.specs.Reference.{Occurrence}

-- a name that the rules do not know: it is neither empty nor `arguments` nor `eval`
pub record IsSwappable (a : Name) : Type 0 where
  pub not_empty : bytes_eq [] a ≡ false
  pub not_arguments : bytes_eq (codes "arguments") a ≡ false
  pub not_eval : bytes_eq (codes "eval") a ≡ false

-- a reference whose name is changed
abbrev pub renamed_occurrence : (Name → Name) → Occurrence → Occurrence
renamed_occurrence f r = record r { name = f r.name }

abbrev pub renamed_symbol : (Name → Name) → Symbol → Symbol
renamed_symbol f y = record y { name = f y.name }

-- a pair whose first is a name
abbrev pub renamed_key : {A : Type 0} → (Name → Name) → Name × A → Name × A
renamed_key f pair = (f pair.0, pair.1)

-- names changed in the symbols, bindings and free lists
abbrev pub renamed_tables : (Name → Name) → Tables → Tables
renamed_tables f t = record t {
  bindings = map (map (renamed_key f)) t.bindings;
  symbols = map (renamed_symbol f) t.symbols;
  free = map (renamed_key f) t.free;
}

abbrev pub swapped_tables : Name → Name → Tables → Tables
swapped_tables a b t = renamed_tables (swap a b) t
