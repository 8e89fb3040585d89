-- What is wrong with an escape.
use Rattle.std.specs.Prelude.{ℕ, List, [], ◌∷◌, true, Option, Some, None, ◌||◌, if◌then◌else◌}
use Rattle.std.specs.List.{find}
use Rattle.std.specs.Option.{option_and_then}
use Rattle.std.specs.Borrow.{Bor}
use Rattle.semantic_syntax.specs.declared.spans.Span.{Span}
use Rattle.semantic_diagnostics.specs.declared.diagnostic.Diagnostic.{Diagnostic}
use Rattle.semantic_diagnostics.specs.Names.{legacy_octal, non_octal_decimal_escape_sequence}
use Rattle.check_model.specs.Literals.{escapes_after, is_octal_escape, is_eight_or_nine}
use Rattle.statement_checks.specs.declared.escapes.BadEscape.{BadEscape}
use Rattle.statement_checks.specs.declared.escapes.BadEscape.TheVariants.{Octal, EightOrNine}

-- what is wrong with the escape that begins so
abbrev pub kind_of_escape : List ℕ → Option BadEscape
kind_of_escape escape = if is_octal_escape escape then Some Octal else (if is_eight_or_nine escape then Some EightOrNine else None)

-- what is wrong with the first bad one of some escapes
abbrev pub kind_of_first : List (List ℕ) → Option BadEscape
kind_of_first escapes = option_and_then kind_of_escape (find (λ escape. is_octal_escape escape || is_eight_or_nine escape) escapes)

abbrev pub bytes_shown : Bor (List ℕ) → List ℕ
bytes_shown r = r.now

-- the escapes from behind a backslash on, if there is one
abbrev pub escapes_past : Option (List ℕ) → List (List ℕ)
escapes_past None = []
escapes_past (Some rest) = rest ∷ escapes_after true rest

abbrev pub rows_of_kind : Span → Option BadEscape → List Diagnostic
rows_of_kind span None = []
rows_of_kind span (Some Octal) = legacy_octal span ∷ []
rows_of_kind span (Some EightOrNine) = non_octal_decimal_escape_sequence span ∷ []
