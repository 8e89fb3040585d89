-- The declarations of a symbol, as one is dropped.
use Rattle.std.specs.Prelude.{◌==◌, ◌&&◌, Bool, not, List, [], ◌∷◌, Option, None, Some, filter, fold}
use Rattle.std.specs.Int.RustNames.{bit_or}
use Rattle.semantic_syntax.specs.declared.spans.Span.{Span}
use Rattle.semantic_syntax.specs.declared.symbol_flags.SymbolFlags.{SymbolFlags}
use Rattle.semantic_syntax.specs.declared.references.Redeclaration.{Redeclaration}
use Rattle.scoping_rows.specs.Row.{Row}

-- whether the declaration is another one than that of the span
abbrev pub is_elsewhere : Span → Redeclaration → Bool
is_elsewhere span d = not ((d.span.start == span.start) && (d.span.end == span.end))

abbrev pub elsewhere : Span → List Redeclaration → List Redeclaration
elsewhere span ds = filter (is_elsewhere span) ds

-- the flags of all of them
abbrev pub united : List Redeclaration → SymbolFlags
united ds = record { bits = fold (λ bits (d : Redeclaration). bit_or bits d.flags.bits) 0 ds }

-- the list that is kept of these: none where it is one alone
abbrev pub kept_list : List Redeclaration → Option (List Redeclaration)
kept_list [] = Some []
kept_list (d ∷ []) = None
kept_list (d ∷ e ∷ ds) = Some (d ∷ e ∷ ds)

-- the row that the declarations leave: where there are none it stays
abbrev pub row_declared_by : Row → List Redeclaration → Row
row_declared_by y [] = record y { redeclarations = Some [] }
row_declared_by y (d ∷ ds) = record y { span = d.span; node = d.declaration; flags = united (d ∷ ds); redeclarations = kept_list (d ∷ ds) }

abbrev pub row_or_stays : Row → Span → Option (List Redeclaration) → Row
row_or_stays y span None = y
row_or_stays y span (Some ds) = row_declared_by y (elsewhere span ds)

-- the row without its redeclarations of the span; without a list it stays
abbrev pub row_without_declaration : Row → Span → Row
row_without_declaration y span = row_or_stays y span y.redeclarations
