-- A program in which one symbol has another name.
use Rattle.std.specs.Prelude.{ℕ, Bool, ◌||◌}
use Rattle.semantic_syntax.specs.Tables.{Name}
use Rattle.semantic_tree.specs.Tree.{Tree}
use Rattle.semantic_model.specs.TablesOf.{is_symbol}
use Rattle.rename_model.specs.WithName.{with_name_in}
use Rattle.semantic_model.specs.Analysis.{Analysis, symbol_at, tied_at}

-- the node bears the name of symbol s: it is a binding identifier or enum member of the symbol, or a reference that is tied to it
abbrev pub bears_name : Analysis → ℕ → ℕ → Bool
bears_name a s id = is_symbol s (symbol_at a id) || is_symbol s (tied_at a id)

-- the program in which symbol s has the name
abbrev pub program_renamed : Tree → Analysis → ℕ → Name → Tree
program_renamed p a s name = with_name_in (bears_name a s) name p
