-- How a name is declared in one scope.
use Rattle.std.specs.Prelude.{ℕ, [], ◌∷◌, ◌++◌, Option, Some, None, cond, length, nat_eq}
use Rattle.std.specs.Ordering.{nat_cmp}
use Rattle.std.specs.Option.{unwrap_or}
use Rattle.std.specs.BTreeSet.{insert_key}
use Rattle.indexmap.specs.IndexMap.{insert_entry}
use Rattle.semantic_syntax.specs.Tables.{Name, Tables}
use Rattle.semantic_syntax.specs.Reading.{bound_in, symbol_of, symbol_flags}
use Rattle.semantic_syntax.specs.Writing.{bound, with_symbol}
use Rattle.semantic_model.specs.Naming.{Naming}
use Rattle.semantic_model.specs.Binding.{get}
use Rattle.semantic_model.specs.Fold.{or_else, unless_expression, conflict_of, new_symbol, redeclared, united}
use Rattle.walk_model.specs.WalkState.{WalkState}

-- the symbol that the scope binds to the name, else the one that it remembers; the name of a function expression counts as none
abbrev pub found : WalkState → ℕ → Name → Option ℕ
found w s x = unless_expression (symbol_flags w.tables) (or_else (bound_in w.tables s x) (get w.remembered s x))

-- a conflict with the symbol is noted
abbrev pub against : WalkState → Naming → ℕ → WalkState
against w d y = record w { conflicts = w.conflicts ++ conflict_of d (symbol_of w.tables y) }

abbrev pub with_new : Tables → ℕ → Naming → Tables
with_new t s d = record (bound t s d.name (length t.symbols)) { symbols = t.symbols ++ new_symbol s d ∷ []; uses = t.uses ++ [] ∷ [] }

-- a new symbol, bound in the scope
abbrev pub make : WalkState → ℕ → Naming → WalkState
make w s d = record w { tables = with_new w.tables s d }

-- one more declaration of the symbol, without its flags; without a list, its own goes first
abbrev pub redeclare : WalkState → ℕ → Naming → WalkState
redeclare w y d = record w { tables = with_symbol w.tables y (redeclared d (symbol_of w.tables y)) }

-- the flags of one more declaration are added to the symbol's
abbrev pub add_flags : WalkState → ℕ → ℕ → WalkState
add_flags w y flags = record w { tables = with_symbol w.tables y (united flags (symbol_of w.tables y)) }

-- the symbol is declared once more
abbrev pub unite : WalkState → ℕ → Naming → WalkState
unite w y d = add_flags (redeclare (against w d y) y d) y d.flags

abbrev pub pure_with : Tables → ℕ → Tables
pure_with t y = record t { pure_symbols = insert_key nat_cmp t.pure_symbols y }

-- the declaration gets the symbol
abbrev pub note_symbol : WalkState → ℕ → Naming → WalkState
note_symbol w y d = record w {
  nodes = record w.nodes { symbols = insert_entry nat_eq w.nodes.symbols d.identifier y };
  tables = cond d.is_pure (pure_with w.tables y) w.tables;
}

abbrev pub with_found_symbol : WalkState → ℕ → Naming → Option ℕ → WalkState
with_found_symbol w s d None = make w s d
with_found_symbol w s d (Some y) = unite w y d

-- what is found in the scope is declared once more, else a new symbol is bound
abbrev pub with_symbol_in : WalkState → ℕ → Naming → WalkState
with_symbol_in w s d = with_found_symbol w s d (found w s d.name)

-- the symbol that the name has then: the one that is found, else the new one
abbrev pub symbol_in : WalkState → ℕ → Naming → ℕ
symbol_in w s d = unwrap_or (found w s d.name) (length w.tables.symbols)

-- declared in a scope, by what is found there
abbrev pub declare : WalkState → ℕ → Naming → WalkState
declare w s d = note_symbol (with_symbol_in w s d) (symbol_in w s d) d

-- declared in a scope, always anew
abbrev pub declare_anew : WalkState → ℕ → Naming → WalkState
declare_anew w s d = note_symbol (make w s d) (length w.tables.symbols) d
