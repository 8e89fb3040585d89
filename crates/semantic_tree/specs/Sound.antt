-- Spans that lie in a source, on its characters. A source is seen as the bytes of its UTF-8 form.
use Rattle.std.specs.Prelude.{ℕ, ◌-◌, ◌==◌, nat_le, nat_lt, List, Bool, true, ◌&&◌, ◌||◌, if◌then◌else◌, length, slice_index}
use Rattle.std.specs.Fmt.{is_char_start}
use Rattle.semantic_syntax.specs.declared.spans.Span.{Span}
use Rattle.semantic_kinds.specs.MarkSets.{has_mark}
use Rattle.semantic_kinds.specs.declared.kind.AstType.{AstType}
use Rattle.semantic_kinds.specs.declared.kind.AstType.TheVariants as kind
use Rattle.semantic_kinds.specs.declared.mark.Mark.TheVariants.{Postfix}
use Rattle.semantic_tree.specs.declared.node.Node.{Node}

-- a character begins there, or the source ends
abbrev pub is_boundary : List ℕ → ℕ → Bool
is_boundary source at = (at == length source) || (nat_lt at (length source) && is_char_start (slice_index source at))

-- the span lies in the source, on characters
abbrev pub is_sound : List ℕ → Span → Bool
is_sound source span = nat_le span.start span.end && is_boundary source span.start && is_boundary source span.end

-- the span is not empty, and its first byte, or its last, is this one
abbrev pub begins_with : List ℕ → Span → ℕ → Bool
begins_with source span sign = nat_lt span.start span.end && (slice_index source span.start == sign)

abbrev pub ends_with : List ℕ → Span → ℕ → Bool
ends_with source span sign = nat_lt span.start span.end && (slice_index source (span.end - 1) == sign)

-- the sign of a JSDoc type stands before it, or behind it where it is marked so
abbrev pub shows : List ℕ → Node → ℕ → Bool
shows source node sign = if has_mark node.marks Postfix then ends_with source node.span sign else begins_with source node.span sign

-- `?` and `!` stand in the source of these types
abbrev pub shows_sign : List ℕ → AstType → Node → Bool
shows_sign source kind.JSDocNullableType node = shows source node 63
shows_sign source kind.JSDocNonNullableType node = shows source node 33
shows_sign source _ node = true

abbrev pub has_good_span : List ℕ → Node → Bool
has_good_span source node = is_sound source node.span && shows_sign source node.kind node
