-- The names that are written, as a pass over the program collects them.
use Rattle.std.specs.Prelude.{◌≡◌, ℕ, List, [], ◌||◌, slice_index_or, cond}
use Rattle.semantic_syntax.specs.Tables.{Name}
use Rattle.semantic_tree.specs.Tree.{Tree}
use Rattle.walk_model.specs.WrittenNames.{WrittenName, is_written, is_sloppy, names_written}
use Rattle.walk_model.specs.WrittenNames as written
use Rattle.walk_notes.specs.declared.namesakes.Openers.{Openers}

-- the new ones are these and the old ones
abbrev pub Adds : List WrittenName → List WrittenName → List WrittenName → Type 0
Adds old new ws = (opener : ℕ) (name : Name) → is_written new opener name ≡ (is_written old opener name || is_written ws opener name)

-- the openers, in the words of the definition
abbrev pub openers_of : Openers → written.Openers
openers_of o = record { innermost = o.innermost; around = o.around }

-- a name under its number
abbrev pub written_of : List Name → ℕ × ℕ → WrittenName
written_of names key = record { opener = key.0; name = slice_index_or names key.1 [] }

-- the names past which block functions of the program don't move: none where functions don't move at all
abbrev pub barring : Tree → List WrittenName
barring program = cond (is_sloppy program.source_type) (names_written program) []

-- these are the names, in whatever order
abbrev pub HoldsNames : List WrittenName → List WrittenName → Type 0
HoldsNames names held = (opener : ℕ) (name : Name) → is_written held opener name ≡ is_written names opener name
