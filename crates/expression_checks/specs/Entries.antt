-- What is seen of a map from names to elements.
use Rattle.std.specs.Prelude.{List, ℕ}
use Rattle.std.specs.Borrow.{Bor}
use Rattle.std.specs.Str.{chars, IsUtf8}
use Rattle.semantic_syntax.specs.Tables.{Name}
use Rattle.semantic_model.specs.Element.{Element}
use Rattle.class_table.specs.Seen.{element_seen}
use Rattle.class_table.specs.declared.element.Element.{Element as StoredElement}

-- a name, and the last element that has it
abbrev pub NamedElement : Type 0
NamedElement = Name × Element

-- an entry as it is stored
abbrev pub Stored : Type 0
Stored = Bor (List ℕ) × Bor StoredElement

-- what is seen of an entry
abbrev pub entry_seen : Stored → NamedElement
entry_seen e = (chars e.0.now, element_seen e.1.now)

-- the name of an entry is a text
abbrev pub IsSpelled : Stored → Type 0
IsSpelled e = IsUtf8 e.0.now
