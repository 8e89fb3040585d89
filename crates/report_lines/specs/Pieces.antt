-- The pieces of which the lines of a report are made.
use Rattle.std.specs.Prelude.{ℕ, ◌+◌, ◌*◌, ◌/◌, ◌%◌, List, [], ◌∷◌, ◌++◌, Bool, Option, Some, None, if◌then◌else◌, ◌==◌, ◌&&◌, not, nat_le, codes, decimal}
use Rattle.std.specs.List.{concat, flat_map}
use Rattle.std.specs.Int.RustNames.{bit_and}
use Rattle.serde_json.specs.Data.{string}
use Rattle.serde_json.specs.Written.{compact_text}
use Rattle.semantic_syntax.specs.declared.spans.Span.{Span}
use Rattle.semantic_syntax.specs.declared.scope_flags.ScopeFlags.{ScopeFlags}
use Rattle.semantic_syntax.specs.declared.symbol_flags.SymbolFlags.{SymbolFlags}
use Rattle.semantic_syntax.specs.declared.reference_flags.ReferenceFlags.{ReferenceFlags}
use Rattle.semantic_syntax.specs.declared.element_kind.ElementKind.{ElementKind}
use Rattle.semantic_syntax.specs.FlagNames.{scope_flag_names, symbol_flag_names, reference_flag_names, element_kind_names}

-- a text as a compact JSON string
unfoldable pub quoted : List ℕ → List ℕ
quoted text = compact_text (string text)

-- whether a byte stands in a JSON string as it is
abbrev pub is_plain_byte : ℕ → Bool
is_plain_byte byte = nat_le 32 byte && not (byte == 34) && not (byte == 92)

-- a text as a JSON string, or a dash
abbrev pub quoted_or_dash : Option (List ℕ) → List ℕ
quoted_or_dash None = codes "-"
quoted_or_dash (Some text) = quoted text

-- a text as it is, or a dash
abbrev pub plain_or_dash : Option (List ℕ) → List ℕ
plain_or_dash None = codes "-"
plain_or_dash (Some text) = text

-- both digits of a number below a hundred
abbrev pub two_digits : ℕ → List ℕ
two_digits number = (48 + number / 10) ∷ (48 + number % 10) ∷ []

-- a number, or a dash
abbrev pub number_or_dash : Option ℕ → List ℕ
number_or_dash None = codes "-"
number_or_dash (Some number) = decimal number

-- a space and a number
abbrev pub behind_space : ℕ → List ℕ
behind_space number = codes " " ++ decimal number

-- a space and a number for each
abbrev pub numbers_text : List ℕ → List ℕ
numbers_text = flat_map behind_space

-- both ends of a span
abbrev pub span_text : Span → List ℕ
span_text span = concat (decimal span.start ∷ codes "-" ∷ decimal span.end ∷ [])

-- the name of a flag behind a plus, where the flag is set
abbrev pub name_if_set : ℕ → List ℕ × ℕ → List ℕ
name_if_set bits row = if bit_and bits row.1 == row.1 then codes "+" ++ row.0 else []

-- a name, behind a plus if it isn't the first
abbrev pub behind_plus : Bool → List ℕ → List ℕ
behind_plus first name = if first then name else codes "+" ++ name

-- without the plus in front, or a dash for none
abbrev pub without_plus : List ℕ → List ℕ
without_plus [] = codes "-"
without_plus (plus ∷ rest) = rest

-- the names of the flags that are set, joined by plus, or a dash for none
abbrev pub flags_text : List (List ℕ × ℕ) → ℕ → List ℕ
flags_text rows bits = without_plus (flat_map (name_if_set bits) rows)

-- flags with their bits, the first of which is this one
abbrev pub with_bits : ℕ → List (List ℕ) → List (List ℕ × ℕ)
with_bits bit [] = []
with_bits bit (name ∷ names) = (name, bit) ∷ with_bits (2 * bit) names

-- the flags of a scope
abbrev pub scope_flags_text : ScopeFlags → List ℕ
scope_flags_text flags = flags_text (with_bits 1 scope_flag_names) flags.bits

-- the flags of a symbol
abbrev pub symbol_flags_text : SymbolFlags → List ℕ
symbol_flags_text flags = flags_text (with_bits 1 symbol_flag_names) flags.bits

-- the flags of a reference
abbrev pub reference_flags : ReferenceFlags → List ℕ
reference_flags flags = flags_text (with_bits 1 reference_flag_names) flags.bits

-- the flags of an element of a class
abbrev pub element_flags : ElementKind → List ℕ
element_flags flags = flags_text (with_bits 1 element_kind_names) flags.bits
