-- The lines of a report on scopes, symbols and references.
use Rattle.std.specs.Prelude.{ℕ, ◌==◌, List, [], ◌∷◌, ◌++◌, Option, Some, None, codes, decimal}
use Rattle.std.specs.List.{concat, flat_map, list_any, find}
use Rattle.std.specs.Option.{option_map, unwrap_or}
use Rattle.std.specs.Str.{encode_utf8_all}
use Rattle.semantic_syntax.specs.declared.spans.Span.{Span}
use Rattle.semantic_syntax.specs.declared.references.Reference.{Reference}
use Rattle.semantic_syntax.specs.declared.references.Redeclaration.{Redeclaration}
use Rattle.semantic_syntax.specs.declared.symbol_flags.SymbolFlags.{SymbolFlags}
use Rattle.semantic_syntax.specs.Tables.{Name, Scope, Symbol, FreeLists, Tables}
use Rattle.semantic_syntax.specs.Reading.{symbol_of, bindings_of, uses_of}
use Rattle.report_ends.specs.Streams.{numbered_text}
use Rattle.report_lines.specs.Pieces.{quoted, number_or_dash, numbers_text, span_text, scope_flags_text, symbol_flags_text, reference_flags}

-- ---- scopes

-- the line of a scope
unfoldable pub scope_line : ℕ → Scope → List ℕ
scope_line number scope = concat (codes "scope " ∷ decimal number ∷ codes " parent " ∷ number_or_dash scope.parent ∷ codes " node " ∷ decimal scope.node ∷ codes " flags " ∷ scope_flags_text scope.flags ∷ codes "\n" ∷ [])

-- the line of a binding of a name, given in UTF-8
unfoldable pub bind_text : ℕ → List ℕ → ℕ → List ℕ
bind_text scope name symbol = concat (codes "bind " ∷ decimal scope ∷ codes " " ∷ quoted name ∷ codes " " ∷ decimal symbol ∷ codes "\n" ∷ [])

-- the line of a binding
abbrev pub bind_line : ℕ → Name × ℕ → List ℕ
bind_line scope bound = bind_text scope (encode_utf8_all bound.0) bound.1

-- a scope, and what it binds
abbrev pub scope_lines : Tables → ℕ → Scope → List ℕ
scope_lines t number scope = scope_line number scope ++ flat_map (bind_line number) (bindings_of t number)

-- ---- symbols

-- the end of a line on a declaration
unfoldable pub declaration_text : ℕ → Span → SymbolFlags → List ℕ
declaration_text node span flags = concat (codes " node " ∷ decimal node ∷ codes " span " ∷ span_text span ∷ codes " flags " ∷ symbol_flags_text flags ∷ codes "\n" ∷ [])

-- the line of a symbol whose name is given in UTF-8
unfoldable pub symbol_text : ℕ → List ℕ → ℕ → ℕ → Span → SymbolFlags → List ℕ
symbol_text number name scope node span flags = concat (codes "symbol " ∷ decimal number ∷ codes " " ∷ quoted name ∷ codes " scope " ∷ decimal scope ∷ declaration_text node span flags ∷ [])

-- the line of a symbol
abbrev pub symbol_line : ℕ → Symbol → List ℕ
symbol_line number symbol = symbol_text number (encode_utf8_all symbol.name) symbol.scope symbol.node symbol.span symbol.flags

-- the line of one declaration of a symbol that was declared again
unfoldable pub redeclaration_line : ℕ → Redeclaration → List ℕ
redeclaration_line symbol entry = concat (codes "redecl " ∷ decimal symbol ∷ declaration_text entry.declaration entry.span entry.flags ∷ [])

-- the line of the references that are tied to a symbol
unfoldable pub uses_line : ℕ → List ℕ → List ℕ
uses_line symbol references = concat (codes "uses " ∷ decimal symbol ∷ numbers_text references ∷ codes "\n" ∷ [])

-- a symbol, and its declarations where it was declared again
abbrev pub declaration_lines : ℕ → Symbol → List ℕ
declaration_lines number symbol = symbol_line number symbol ++ flat_map (redeclaration_line number) (unwrap_or symbol.redeclarations [])

-- a symbol, its declarations, and its uses
abbrev pub symbol_lines : Tables → ℕ → Symbol → List ℕ
symbol_lines t number symbol = declaration_lines number symbol ++ uses_line number (uses_of t number)

-- the line of a symbol without side effects
unfoldable pub pure_line : ℕ → List ℕ
pure_line symbol = concat (codes "pure " ∷ decimal symbol ∷ codes "\n" ∷ [])

-- ---- references

-- the name of the free list that holds the reference
abbrev pub free_name : FreeLists → ℕ → Name
free_name free number = unwrap_or (option_map (λ entry. entry.0) (find (λ entry. list_any (λ other. other == number) entry.1) free)) []

-- the name of a reference to a symbol, or to none
abbrev pub name_by : Tables → ℕ → Option ℕ → Name
name_by t number None = free_name t.free number
name_by t number (Some symbol) = (symbol_of t symbol).name

-- the name of a reference: its symbol's, or that of the free list that holds it
abbrev pub reference_name : Tables → ℕ → Reference → Name
reference_name t number reference = name_by t number reference.symbol_id

-- the end of the line of a reference
unfoldable pub use_text : Reference → List ℕ
use_text reference = concat (codes " node " ∷ decimal reference.node_id ∷ codes " scope " ∷ decimal reference.scope_id ∷ codes " flags " ∷ reference_flags reference.flags ∷ codes " symbol " ∷ number_or_dash reference.symbol_id ∷ codes "\n" ∷ [])

-- the line of a reference whose name is given in UTF-8
unfoldable pub reference_text : ℕ → List ℕ → Reference → List ℕ
reference_text number name reference = concat (codes "ref " ∷ decimal number ∷ codes " " ∷ quoted name ∷ use_text reference ∷ [])

-- the line of a reference
abbrev pub reference_line : Tables → ℕ → Reference → List ℕ
reference_line t number reference = reference_text number (encode_utf8_all (reference_name t number reference)) reference

-- the line of the free references of a name, given in UTF-8
unfoldable pub free_text : List ℕ → List ℕ → List ℕ
free_text name references = concat (codes "free " ∷ quoted name ∷ numbers_text references ∷ codes "\n" ∷ [])

-- the line of the free references of a name
abbrev pub free_line : Name × List ℕ → List ℕ
free_line entry = free_text (encode_utf8_all entry.0) entry.1

-- ---- all

-- the lines of the symbols, and those of the symbols without side effects
abbrev pub all_symbol_lines : Tables → List ℕ
all_symbol_lines t = numbered_text (symbol_lines t) 0 t.symbols ++ flat_map pure_line t.pure_symbols

-- the lines of the references, and those of the free ones by name
abbrev pub all_reference_lines : Tables → List ℕ
all_reference_lines t = numbered_text (reference_line t) 0 t.references ++ flat_map free_line t.free

-- the lines of the tables
abbrev pub table_lines : Tables → List ℕ
table_lines t = numbered_text (scope_lines t) 0 t.scopes ++ (all_symbol_lines t ++ all_reference_lines t)
