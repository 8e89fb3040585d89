-- What is seen of a map from names to statements.
use Rattle.std.specs.Prelude.{List, ℕ}
use Rattle.std.specs.Borrow.{Bor}
use Rattle.std.specs.Str.{chars, IsUtf8}
use Rattle.semantic_tree.specs.declared.view.AstKind.{AstKind}
use Rattle.namespace_states.specs.FirstNames.{NamedStatement}

-- an entry as it is stored
abbrev pub Stored : Type 0
Stored = Bor (List ℕ) × AstKind

-- what is seen of an entry
abbrev pub entry_shown : Stored → NamedStatement
entry_shown e = (chars e.0.now, e.1.node.now)

-- the name of an entry is a text
abbrev pub IsSpelled : Stored → Type 0
IsSpelled e = IsUtf8 e.0.now
