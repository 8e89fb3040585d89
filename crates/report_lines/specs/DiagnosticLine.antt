-- The line of a report on a diagnostic.
use Rattle.std.specs.Prelude.{ℕ, List, [], ◌∷◌, Option, codes, option_map}
use Rattle.std.specs.List.{concat, flat_map}
use Rattle.std.specs.Str.{encode_utf8_all}
use Rattle.semantic_diagnostics.specs.declared.diagnostic.Label.{Label}
use Rattle.semantic_diagnostics.specs.declared.diagnostic.Diagnostic.{Diagnostic}
use Rattle.report_lines.specs.Pieces.{quoted, quoted_or_dash, plain_or_dash, span_text}

-- a text as a JSON string, or a dash
abbrev pub said_or_dash : Option (List ℕ) → List ℕ
said_or_dash text = quoted_or_dash (option_map encode_utf8_all text)

-- the part of the line on a label
unfoldable pub label_text : Label → List ℕ
label_text label = concat (codes " at " ∷ span_text label.span ∷ codes " " ∷ said_or_dash label.text ∷ [])

-- the line of a diagnostic
unfoldable pub diagnostic_line : Diagnostic → List ℕ
diagnostic_line d = concat (codes "diag " ∷ plain_or_dash (option_map encode_utf8_all d.code) ∷ codes " " ∷ quoted (encode_utf8_all d.message) ∷ flat_map label_text d.labels ∷ codes " help " ∷ said_or_dash d.help ∷ codes " note " ∷ said_or_dash d.note ∷ codes "\n" ∷ [])
