-- The lines on scopes, symbols and references, as a form.
use Rattle.std.proofs.Common.{◌≡◌, ℕ, List, [], ◌∷◌, ◌++◌, map, flat_map, codes, decimal, encode_utf8_all, append_assoc, refl, ap, ◌∙◌}
use Rattle.std.specs.Option.{unwrap_or}
use Rattle.semantic_syntax.specs.declared.spans.Span.{Span}
use Rattle.semantic_syntax.specs.declared.symbol_flags.SymbolFlags.{SymbolFlags}
use Rattle.semantic_syntax.specs.declared.references.Reference.{Reference}
use Rattle.semantic_syntax.specs.declared.references.Redeclaration.{Redeclaration}
use Rattle.semantic_syntax.specs.FlagNames.{scope_flag_names, symbol_flag_names, reference_flag_names}
use Rattle.semantic_syntax.specs.Tables.{Name, Scope, Symbol, Tables}
use Rattle.semantic_syntax.specs.Reading.{bindings_of, uses_of}
use Rattle.report_lines.specs.Pieces as pieces
use Rattle.report_lines.specs.TableLines.{scope_line, bind_line, bind_text, scope_lines, declaration_text, symbol_text, symbol_line, redeclaration_line, uses_line, declaration_lines, symbol_lines, pure_line, reference_name, use_text, reference_text, reference_line, free_text, free_line, all_symbol_lines, all_reference_lines, table_lines}
use Rattle.report_ends.specs.Streams.{numbered_text}
use Rattle.report_laws.proofs.Lists.{concat_onto, numbered, each_line, numbered_lines}
use Rattle.report_laws.proofs.Forms.{number, number_or_dash, name, flags, Form, end, word, piece, each, Values, written}

-- ---- forms

-- numbers, each behind a space, and the end of the line
abbrev pub numbers_form : Form → Form
numbers_form f = each (codes " ") (piece number end) (word (codes "\n") f)

abbrev pub span_form : Form → Form
span_form f = piece number (word (codes "-") (piece number f))

abbrev pub bind_form : Form
bind_form = piece number (word (codes " ") (piece name (word (codes " ") (piece number (word (codes "\n") end)))))

abbrev pub scope_form : Form
scope_form = piece number (word (codes " parent ") (piece number_or_dash (word (codes " node ") (piece number (word (codes " flags ") (piece (flags scope_flag_names) (word (codes "\n") (each (codes "bind ") bind_form end))))))))

abbrev pub declaration_form : Form → Form
declaration_form f = word (codes " node ") (piece number (word (codes " span ") (span_form (word (codes " flags ") (piece (flags symbol_flag_names) (word (codes "\n") f))))))

abbrev pub entry_form : Form
entry_form = piece number (declaration_form end)

abbrev pub symbol_form : Form
symbol_form = piece number (word (codes " ") (piece name (word (codes " scope ") (piece number (declaration_form (each (codes "redecl ") entry_form (word (codes "uses ") (piece number (numbers_form end)))))))))

abbrev pub pure_form : Form
pure_form = piece number (word (codes "\n") end)

abbrev pub reference_form : Form
reference_form = piece number (word (codes " ") (piece name (word (codes " node ") (piece number (word (codes " scope ") (piece number (word (codes " flags ") (piece (flags reference_flag_names) (word (codes " symbol ") (piece number_or_dash (word (codes "\n") end)))))))))))

abbrev pub free_form : Form
free_form = piece name (numbers_form end)

-- the lines of tables, and then those of another form
abbrev pub table_form : Form → Form
table_form f = each (codes "scope ") scope_form (each (codes "symbol ") symbol_form (each (codes "pure ") pure_form (each (codes "ref ") reference_form (each (codes "free ") free_form f))))

-- ---- what tables tell

abbrev pub number_value : ℕ → Values (piece number end)
number_value n = (n, tt)

abbrev pub bind_value : ℕ → Name × ℕ → Values bind_form
bind_value scope b = (scope, (b.0, (b.1, tt)))

abbrev pub scope_value : Tables → ℕ → Scope → Values scope_form
scope_value t i s = (i, (s.parent, (s.node, (s.flags.bits, (map (bind_value i) (bindings_of t i), tt)))))

abbrev pub entry_value : ℕ → Redeclaration → Values entry_form
entry_value symbol e = (symbol, (e.declaration, (e.span.start, (e.span.end, (e.flags.bits, tt)))))

abbrev pub symbol_value : Tables → ℕ → Symbol → Values symbol_form
symbol_value t i y =
    (i, (y.name, (y.scope, (y.node, (y.span.start, (y.span.end, (y.flags.bits, (map (entry_value i) (unwrap_or y.redeclarations []), (i, (map number_value (uses_of t i), tt))))))))))

abbrev pub pure_value : ℕ → Values pure_form
pure_value symbol = (symbol, tt)

abbrev pub reference_value : Tables → ℕ → Reference → Values reference_form
reference_value t i r = (i, (reference_name t i r, (r.node_id, (r.scope_id, (r.flags.bits, (r.symbol_id, tt))))))

abbrev pub free_value : Name × List ℕ → Values free_form
free_value entry = (entry.0, (map number_value entry.1, tt))

abbrev pub table_value : (f : Form) → Tables → Values f → Values (table_form f)
table_value f t v =
    (numbered (scope_value t) 0 t.scopes, (numbered (symbol_value t) 0 t.symbols, (map pure_value t.pure_symbols, (numbered (reference_value t) 0 t.references, (map free_value t.free, v)))))

-- ---- each line is of its form

numbers_written : (ns : List ℕ) (rest : List ℕ) → pieces.numbers_text ns ++ rest ≡ written (each (codes " ") (piece number end) end) (map number_value ns, tt) rest
numbers_written ns rest =
    each_line (codes " ") (written (piece number end)) pieces.behind_space number_value (λ n more. append_assoc (codes " ") (decimal n) more) ns rest rest refl

-- numbers at the end of a line
pub numbers_end : (ns : List ℕ) (rest : List ℕ) → pieces.numbers_text ns ++ (codes "\n" ++ rest) ≡ written (numbers_form end) (map number_value ns, tt) rest
numbers_end ns rest = numbers_written ns (codes "\n" ++ rest)

pub span_written : (span : Span) (rest : List ℕ) → pieces.span_text span ++ rest ≡ decimal span.start ++ (codes "-" ++ (decimal span.end ++ rest))
span_written span rest = concat_onto (decimal span.start ∷ codes "-" ∷ decimal span.end ∷ []) rest

bind_written : (scope : ℕ) (b : Name × ℕ) (rest : List ℕ) → bind_line scope b ++ rest ≡ codes "bind " ++ written bind_form (bind_value scope b) rest
unfolding bind_text
bind_written scope b rest =
    concat_onto (codes "bind " ∷ decimal scope ∷ codes " " ∷ pieces.quoted (encode_utf8_all b.0) ∷ codes " " ∷ decimal b.1 ∷ codes "\n" ∷ []) rest

scope_written : (t : Tables) (i : ℕ) (s : Scope) (rest : List ℕ) → scope_lines t i s ++ rest ≡ codes "scope " ++ written scope_form (scope_value t i s) rest
unfolding scope_line
scope_written t i s rest =
    let line : List ℕ = scope_line i s in
    append_assoc (scope_line i s) (flat_map (bind_line i) (bindings_of t i)) rest
    ∙ ap (λ more. scope_line i s ++ more) (each_line (codes "bind ") (written bind_form) (bind_line i) (bind_value i) (bind_written i) (bindings_of t i) rest rest refl)
    ∙ concat_onto (codes "scope " ∷ decimal i ∷ codes " parent " ∷ pieces.number_or_dash s.parent ∷ codes " node " ∷ decimal s.node ∷ codes " flags " ∷ pieces.scope_flags_text s.flags ∷ codes "\n" ∷ [])
    (written (each (codes "bind ") bind_form end) (map (bind_value i) (bindings_of t i), tt) rest)

declaration_written : (node : ℕ) (span : Span) (set : SymbolFlags) (rest : List ℕ)
    → declaration_text node span set ++ rest ≡ codes " node " ++ (decimal node ++ (codes " span " ++ (decimal span.start ++ (codes "-" ++ (decimal span.end ++ (codes " flags " ++ (pieces.symbol_flags_text set ++ (codes "\n" ++ rest))))))))
unfolding declaration_text
declaration_written node span set rest =
    concat_onto (codes " node " ∷ decimal node ∷ codes " span " ∷ pieces.span_text span ∷ codes " flags " ∷ pieces.symbol_flags_text set ∷ codes "\n" ∷ []) rest
    ∙ ap (λ more. codes " node " ++ (decimal node ++ (codes " span " ++ more))) (span_written span (codes " flags " ++ (pieces.symbol_flags_text set ++ (codes "\n" ++ rest))))

entry_written : (symbol : ℕ) (e : Redeclaration) (rest : List ℕ) → redeclaration_line symbol e ++ rest ≡ codes "redecl " ++ written entry_form (entry_value symbol e) rest
unfolding redeclaration_line
entry_written symbol e rest =
    concat_onto (codes "redecl " ∷ decimal symbol ∷ declaration_text e.declaration e.span e.flags ∷ []) rest
    ∙ ap (λ more. codes "redecl " ++ (decimal symbol ++ more)) (declaration_written e.declaration e.span e.flags rest)

symbol_line_written : (i : ℕ) (y : Symbol) (rest : List ℕ)
    → symbol_line i y ++ rest ≡ codes "symbol " ++ (decimal i ++ (codes " " ++ (pieces.quoted (encode_utf8_all y.name) ++ (codes " scope " ++ (decimal y.scope ++ (codes " node " ++ (decimal y.node ++ (codes " span " ++ (decimal y.span.start ++ (codes "-" ++ (decimal y.span.end ++ (codes " flags " ++ (pieces.symbol_flags_text y.flags ++ (codes "\n" ++ rest))))))))))))))
unfolding symbol_text
symbol_line_written i y rest =
    concat_onto (codes "symbol " ∷ decimal i ∷ codes " " ∷ pieces.quoted (encode_utf8_all y.name) ∷ codes " scope " ∷ decimal y.scope ∷ declaration_text y.node y.span y.flags ∷ []) rest
    ∙ ap (λ more. codes "symbol " ++ (decimal i ++ (codes " " ++ (pieces.quoted (encode_utf8_all y.name) ++ (codes " scope " ++ (decimal y.scope ++ more)))))) (declaration_written y.node y.span y.flags rest)

uses_written : (symbol : ℕ) (rs : List ℕ) (rest : List ℕ) → uses_line symbol rs ++ rest ≡ codes "uses " ++ (decimal symbol ++ written (numbers_form end) (map number_value rs, tt) rest)
unfolding uses_line
uses_written symbol rs rest =
    concat_onto (codes "uses " ∷ decimal symbol ∷ pieces.numbers_text rs ∷ codes "\n" ∷ []) rest
    ∙ ap (λ more. codes "uses " ++ (decimal symbol ++ more)) (numbers_end rs rest)

symbol_written : (t : Tables) (i : ℕ) (y : Symbol) (rest : List ℕ) → symbol_lines t i y ++ rest ≡ codes "symbol " ++ written symbol_form (symbol_value t i y) rest
symbol_written t i y rest =
    let entries : List Redeclaration = unwrap_or y.redeclarations [] in
    append_assoc (declaration_lines i y) (uses_line i (uses_of t i)) rest
    ∙ append_assoc (symbol_line i y) (flat_map (redeclaration_line i) entries) (uses_line i (uses_of t i) ++ rest)
    ∙ ap (λ more. symbol_line i y ++ more)
    (each_line (codes "redecl ") (written entry_form) (redeclaration_line i) (entry_value i) (entry_written i) entries (uses_line i (uses_of t i) ++ rest)
    (codes "uses " ++ (decimal i ++ written (numbers_form end) (map number_value (uses_of t i), tt) rest)) (uses_written i (uses_of t i) rest))
    ∙ symbol_line_written i y (written (each (codes "redecl ") entry_form (word (codes "uses ") (piece number (numbers_form end)))) (map (entry_value i) entries, (i, (map number_value (uses_of t i), tt))) rest)

pure_written : (symbol : ℕ) (rest : List ℕ) → pure_line symbol ++ rest ≡ codes "pure " ++ written pure_form (pure_value symbol) rest
unfolding pure_line
pure_written symbol rest = concat_onto (codes "pure " ∷ decimal symbol ∷ codes "\n" ∷ []) rest

use_written : (r : Reference) (rest : List ℕ)
    → use_text r ++ rest ≡ codes " node " ++ (decimal r.node_id ++ (codes " scope " ++ (decimal r.scope_id ++ (codes " flags " ++ (pieces.reference_flags r.flags ++ (codes " symbol " ++ (pieces.number_or_dash r.symbol_id ++ (codes "\n" ++ rest))))))))
unfolding use_text
use_written r rest =
    concat_onto (codes " node " ∷ decimal r.node_id ∷ codes " scope " ∷ decimal r.scope_id ∷ codes " flags " ∷ pieces.reference_flags r.flags ∷ codes " symbol " ∷ pieces.number_or_dash r.symbol_id ∷ codes "\n" ∷ []) rest

reference_written : (t : Tables) (i : ℕ) (r : Reference) (rest : List ℕ) → reference_line t i r ++ rest ≡ codes "ref " ++ written reference_form (reference_value t i r) rest
unfolding reference_text
reference_written t i r rest =
    concat_onto (codes "ref " ∷ decimal i ∷ codes " " ∷ pieces.quoted (encode_utf8_all (reference_name t i r)) ∷ use_text r ∷ []) rest
    ∙ ap (λ more. codes "ref " ++ (decimal i ++ (codes " " ++ (pieces.quoted (encode_utf8_all (reference_name t i r)) ++ more)))) (use_written r rest)

free_written : (entry : Name × List ℕ) (rest : List ℕ) → free_line entry ++ rest ≡ codes "free " ++ written free_form (free_value entry) rest
unfolding free_text
free_written entry rest =
    concat_onto (codes "free " ∷ pieces.quoted (encode_utf8_all entry.0) ∷ pieces.numbers_text entry.1 ∷ codes "\n" ∷ []) rest
    ∙ ap (λ more. codes "free " ++ (pieces.quoted (encode_utf8_all entry.0) ++ more)) (numbers_end entry.1 rest)

-- ---- all lines of tables

references_written : (f : Form) (v : Values f) (t : Tables) (rest : List ℕ)
    → all_reference_lines t ++ written f v rest ≡ written (each (codes "ref ") reference_form (each (codes "free ") free_form f)) (numbered (reference_value t) 0 t.references, (map free_value t.free, v)) rest
references_written f v t rest =
    append_assoc (numbered_text (reference_line t) 0 t.references) (flat_map free_line t.free) (written f v rest)
    ∙ numbered_lines (codes "ref ") (written reference_form) (reference_line t) (reference_value t) (reference_written t) 0 t.references
    (flat_map free_line t.free ++ written f v rest) (written (each (codes "free ") free_form f) (map free_value t.free, v) rest)
    (each_line (codes "free ") (written free_form) free_line free_value free_written t.free (written f v rest) (written f v rest) refl)

pub tables_written : (f : Form) (v : Values f) (t : Tables) (rest : List ℕ) → table_lines t ++ written f v rest ≡ written (table_form f) (table_value f t v) rest
tables_written f v t rest =
    let tail : Form = each (codes "ref ") reference_form (each (codes "free ") free_form f) in
    let told : Values tail = (numbered (reference_value t) 0 t.references, (map free_value t.free, v)) in
    append_assoc (numbered_text (scope_lines t) 0 t.scopes) (all_symbol_lines t ++ all_reference_lines t) (written f v rest)
    ∙ numbered_lines (codes "scope ") (written scope_form) (scope_lines t) (scope_value t) (scope_written t) 0 t.scopes
    ((all_symbol_lines t ++ all_reference_lines t) ++ written f v rest)
    (written (each (codes "symbol ") symbol_form (each (codes "pure ") pure_form tail)) (numbered (symbol_value t) 0 t.symbols, (map pure_value t.pure_symbols, told)) rest)
    (append_assoc (all_symbol_lines t) (all_reference_lines t) (written f v rest)
    ∙ append_assoc (numbered_text (symbol_lines t) 0 t.symbols) (flat_map pure_line t.pure_symbols) (all_reference_lines t ++ written f v rest)
    ∙ numbered_lines (codes "symbol ") (written symbol_form) (symbol_lines t) (symbol_value t) (symbol_written t) 0 t.symbols
    (flat_map pure_line t.pure_symbols ++ (all_reference_lines t ++ written f v rest)) (written (each (codes "pure ") pure_form tail) (map pure_value t.pure_symbols, told) rest)
    (each_line (codes "pure ") (written pure_form) pure_line pure_value pure_written t.pure_symbols (all_reference_lines t ++ written f v rest) (written tail told rest) (references_written f v t rest)))
