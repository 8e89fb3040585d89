-- Spans that lie in a source, on its characters.
use Rattle.std.proofs.Common.{◌≡◌, ℕ, ◌<◌, ◌≤◌, List, true, ◌&&◌, ◌==◌, length, slice_index, nat_le, nat_lt, arith, inl, inr}
use Rattle.std.specs.Fmt.{is_char_start}
use Rattle.std.specs.Str.{IsCharBoundary}
use Rattle.std.proofs.lemmas.Bool.{and_parts, or_cases, eqb-true, leb-true, ltb-true}
use Rattle.semantic_syntax.specs.declared.spans.Span.{Span}
use Rattle.semantic_tree.specs.Sound.{is_boundary, is_sound}

begins : (byte : ℕ) → is_char_start byte ≡ true → 128 ≤ byte → 192 ≤ byte
begins byte h high = elim (or_cases (nat_lt byte 128) (nat_le 192 byte) h) [
  | inl low ↦ (let below : byte < 128 = ltb-true byte 128 low in omega arith)
  | inr there ↦ leb-true 192 byte there
]

boundary : (source : List ℕ) (at : ℕ) → is_boundary source at ≡ true → IsCharBoundary source at
boundary source at h = elim (or_cases (at == length source) (nat_lt at (length source) && is_char_start (slice_index source at)) h) [
  | inl end ↦ (let is : at ≡ length source = eqb-true at (length source) end in (omega arith, λ within high. omega arith))
  | inr inside ↦ (let parts = and_parts (nat_lt at (length source)) (is_char_start (slice_index source at)) inside in
      let below : at < length source = ltb-true at (length source) parts.0 in
      (omega arith, λ within high. begins (slice_index source at) parts.1 high))
]

module _ (source : List ℕ) (span : Span) (h : is_sound source span ≡ true) where
  pub sound_order : span.start ≤ span.end
  sound_order = leb-true span.start span.end (and_parts (nat_le span.start span.end) (is_boundary source span.start) (and_parts (nat_le span.start span.end && is_boundary source span.start) (is_boundary source span.end) h).0).0

  pub sound_start : IsCharBoundary source span.start
  sound_start = boundary source span.start (and_parts (nat_le span.start span.end) (is_boundary source span.start) (and_parts (nat_le span.start span.end && is_boundary source span.start) (is_boundary source span.end) h).0).1

  pub sound_end : IsCharBoundary source span.end
  sound_end = boundary source span.end (and_parts (nat_le span.start span.end && is_boundary source span.start) (is_boundary source span.end) h).1

pub ruleset sound = (sound_order, sound_start, sound_end)
