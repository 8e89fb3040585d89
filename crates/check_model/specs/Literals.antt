-- Rows on literals and directives.
use Rattle.std.specs.Prelude.{ℕ, List, [], ◌∷◌, ◌++◌, Bool, true, false, Option, Some, None, ◌&&◌, ◌||◌, not, if◌then◌else◌, ◌==◌, nat_le, length, codes}
use Rattle.std.specs.List.{find}
use Rattle.std.specs.Str.{encode_utf8_all}
use Rattle.semantic_syntax.specs.declared.spans.Span.{Span}
use Rattle.semantic_tree.specs.declared.node.Node.{Node}
use Rattle.semantic_tree.specs.Views.{has, has_text, whose}
use Rattle.semantic_tree.specs.BoundNames.{is_simple_parameter_list}
use Rattle.semantic_diagnostics.specs.declared.diagnostic.Diagnostic.{Diagnostic}
use Rattle.semantic_diagnostics.specs.Names.{legacy_octal, leading_zero_decimal, non_octal_decimal_escape_sequence, illegal_use_strict}
use Rattle.check_model.specs.Sight.{Sight, SeenScope}
use Rattle.check_model.specs.Search.{row_if, rows_if, rows_of_some, passes, first}
use Rattle.check_model.specs.Surroundings.{is_strict, is_under, is_in_function, node_by_id, bytes_at}
use Rattle.semantic_kinds.specs.declared.kind.AstType.TheVariants as kinds
use Rattle.semantic_kinds.specs.declared.role.Role.TheVariants as roles
use Rattle.semantic_kinds.specs.declared.mark.Mark.TheVariants as mark

-- an ASCII digit
abbrev pub is_digit : ℕ → Bool
is_digit byte = nat_le 48 byte && nat_le byte 57

-- ---- numbers

-- a zero and a digit stand in front of the bytes of a spelling
abbrev pub has_leading_zero : List ℕ → Bool
has_leading_zero [] = false
has_leading_zero (first ∷ []) = false
has_leading_zero (first ∷ second ∷ rest) = first == 48 && is_digit second

-- what is said of a number with a leading zero, by its base
abbrev pub leading_zero_rows : Node → List Diagnostic
leading_zero_rows node =
    row_if (has mark.Octal node) (legacy_octal node.span)
    ++ row_if (has mark.Decimal node || has mark.Float node) (leading_zero_decimal node.span)

-- strict code has no numbers with leading zeros (ECMAScript 12.9.3.1)
abbrev pub check_number_literal : Sight → List Diagnostic
check_number_literal s =
    rows_if (is_strict s && has_leading_zero (encode_utf8_all s.node.text)) (leading_zero_rows s.node)

-- ---- strings

-- what follows each backslash that begins an escape; the byte after it begins none
abbrev pub escapes_after : Bool → List ℕ → List (List ℕ)
escapes_after escaped [] = []
escapes_after escaped (byte ∷ rest) = elim (not escaped && byte == 92) [ true ↦ rest ∷ escapes_after true rest | false ↦ escapes_after false rest ]

-- the escapes of a string's raw bytes, each from the byte after its backslash on
abbrev pub escapes : List ℕ → List (List ℕ)
escapes raw = escapes_after false raw

-- a digit stands in front
abbrev pub begins_with_digit : List ℕ → Bool
begins_with_digit [] = false
begins_with_digit (byte ∷ rest) = is_digit byte

-- `\1` to `\7`, or `\0` before a digit
abbrev pub is_octal_escape : List ℕ → Bool
is_octal_escape [] = false
is_octal_escape (byte ∷ rest) = (nat_le 49 byte && nat_le byte 55) || (byte == 48 && begins_with_digit rest)

-- `\8` or `\9`
abbrev pub is_eight_or_nine : List ℕ → Bool
is_eight_or_nine [] = false
is_eight_or_nine (byte ∷ rest) = byte == 56 || byte == 57

-- the first escape that strict code doesn't have
abbrev pub first_bad_escape : List ℕ → Option (List ℕ)
first_bad_escape raw = find (λ escape. is_octal_escape escape || is_eight_or_nine escape) (escapes raw)

-- what is said of a bad escape
abbrev pub escape_rows : Span → List ℕ → List Diagnostic
escape_rows span escape = if is_octal_escape escape then legacy_octal span ∷ [] else non_octal_decimal_escape_sequence span ∷ []

-- the string isn't written as it reads: something in it is escaped
abbrev pub is_escaped : Sight → Bool
is_escaped s = not (length (bytes_at s s.node.span) == length (encode_utf8_all s.node.text))

-- strict code has no octal escapes, and no `\8` and `\9` (ECMAScript 12.9.4.1)
abbrev pub check_string_literal : Sight → List Diagnostic
check_string_literal s =
    rows_if (is_strict s && (not (is_under kinds.JSXAttribute s) && is_escaped s))
    (rows_of_some (escape_rows s.node.span) (first_bad_escape (bytes_at s s.node.span)))

-- ---- directives

-- the node that opened a scope
abbrev pub opener : Sight → Option SeenScope → Option Node
opener s None = None
opener s (Some seen) = node_by_id s seen.opener

-- the parameters of the current scope's function are not simple
abbrev pub has_complex_parameters : Sight → Bool
has_complex_parameters s = passes (whose roles.Params (λ params. not (is_simple_parameter_list params))) (opener s (first s.scopes))

-- a function makes itself strict only if its parameters are simple (ECMAScript 15.2.1, 15.3.1)
abbrev pub check_directive : Sight → List Diagnostic
check_directive s =
    row_if (has_text (codes "use strict") s.node && (is_in_function s && has_complex_parameters s)) (illegal_use_strict s.node.span)
