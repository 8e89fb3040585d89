-- The lines on unused symbols and on undeclared references.
use Rattle.std.specs.Prelude.{◌≡◌, ℕ, List, [], ◌∷◌, ◌++◌, codes, decimal, slice_index_or}
use Rattle.std.specs.List.{concat, flat_map}
use Rattle.std.specs.Str.{encode_utf8_all}
use Rattle.semantic_syntax.specs.declared.spans.Span.{Span}
use Rattle.semantic_syntax.specs.Tables.{Name, Symbol, Tables}
use Rattle.semantic_tree.specs.Tree.{Tree}
use Rattle.semantic_syntax.specs.Reading.{symbol_of}
use Rattle.semantic_model.specs.Step.{Step, steps}
use Rattle.semantic_model.specs.TablesOf.{tables_by}
use Rattle.report_lines.specs.Pieces.{quoted, span_text}
use Rattle.name_lint.specs.Undeclared.{reference_names, reference_spans}

-- a line on a name, given in UTF-8: what is said of it, the number that it has there, and where it stands
unfoldable pub name_line : (what : List ℕ) → ℕ → List ℕ → Span → List ℕ
name_line what number name span = concat (what ∷ decimal number ∷ codes " " ∷ quoted name ∷ codes " " ∷ span_text span ∷ codes "\n" ∷ [])

-- the text is one line on a name
abbrev pub IsNameLine : List ℕ → Type 0
IsNameLine text = (what : List ℕ) × (number : ℕ) × (name : List ℕ) × (span : Span) × (name_line what number name span ≡ text)

-- the line of an unused symbol
abbrev pub symbol_line : ℕ → Symbol → List ℕ
symbol_line number symbol = name_line (codes "unused ") number (encode_utf8_all symbol.name) symbol.span

abbrev pub unused_line : Tables → ℕ → List ℕ
unused_line t number = symbol_line number (symbol_of t number)

-- the line of an undeclared reference
abbrev pub reference_line : ℕ → Name → Span → List ℕ
reference_line number name span = name_line (codes "undeclared ") number (encode_utf8_all name) span

-- what stands past the end of a list
abbrev pub no_span : Span
no_span = record { start = 0; end = 0 }

-- the line of one of the references of these names and spans
abbrev pub undeclared_line : List Name → List Span → ℕ → List ℕ
undeclared_line names spans number = reference_line number (slice_index_or names number []) (slice_index_or spans number no_span)

-- the lines of unused symbols, and then those of undeclared references
abbrev pub name_lines : Tables → List Name → List Span → (unused undeclared : List ℕ) → List ℕ
name_lines t names spans unused undeclared = flat_map (unused_line t) unused ++ flat_map (undeclared_line names spans) undeclared

abbrev lines_by : List Step → (unused undeclared : List ℕ) → List ℕ
lines_by walk unused undeclared = name_lines (tables_by walk) (reference_names walk) (reference_spans walk) unused undeclared

-- the lines of a program's unused symbols and undeclared references
abbrev pub finding_lines : Tree → (unused undeclared : List ℕ) → List ℕ
finding_lines p unused undeclared = lines_by (steps p) unused undeclared
