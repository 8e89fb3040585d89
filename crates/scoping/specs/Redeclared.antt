-- A symbol, as one of its declarations is dropped.
use Rattle.std.specs.Prelude.{List, [], ◌∷◌, Option, None, Some}
use Rattle.semantic_syntax.specs.declared.spans.Span.{Span}
use Rattle.semantic_syntax.specs.declared.references.Redeclaration.{Redeclaration}
use Rattle.semantic_syntax.specs.Tables.{Symbol}
use Rattle.scoping_rows.specs.Redeclared.{elsewhere, united, kept_list}

-- the symbol that the declarations leave: where there are none it stays
abbrev pub symbol_left : Symbol → List Redeclaration → Symbol
symbol_left y [] = record y { redeclarations = Some [] }
symbol_left y (d ∷ ds) = record y { span = d.span; node = d.declaration; flags = united (d ∷ ds); redeclarations = kept_list (d ∷ ds) }

abbrev pub or_stays : Symbol → Span → Option (List Redeclaration) → Symbol
or_stays y span None = y
or_stays y span (Some ds) = symbol_left y (elsewhere span ds)

-- the symbol without its redeclarations of the span; without a list it stays
abbrev pub without_declaration : Symbol → Span → Symbol
without_declaration y span = or_stays y span y.redeclarations
