-- Spans in the source, and those of JSDoc types without their marks, lie on characters.
use Rattle.std.proofs.Common.{◌≡◌, ℕ, ◌+◌, ◌<◌, ◌≤◌, List, Bool, true, false, if◌then◌else◌, length, arith}
use Rattle.std.specs.Str.{IsCharBoundary, IsUtf8}
use Rattle.std.specs.Prelude.{slice_index}
use Rattle.std.proofs.lemmas.Bool.Decides.{nat_tests}
use Rattle.std.proofs.lemmas.Str.{IsCharBoundary-after_ascii}
use Rattle.semantic_syntax.specs.declared.spans.Span.{Span}
use Rattle.semantic_kinds.specs.MarkSets.{has_mark}
use Rattle.semantic_kinds.specs.declared.mark.Mark.TheVariants.{Postfix}
use Rattle.semantic_tree.specs.Sound.{is_sound, begins_with, ends_with, shows}
use Rattle.semantic_tree.specs.declared.node.Node.{Node}

pub sound_order : (source : List ℕ) (span : Span) → is_sound source span ≡ true → span.start ≤ span.end
sound_order source span h = grind (arith, nat_tests)

pub sound_end : (source : List ℕ) (span : Span) → is_sound source span ≡ true → span.end ≤ length source
sound_end source span h = grind (arith, nat_tests)

begun_order : (source : List ℕ) (span : Span) (sign : ℕ) → begins_with source span sign ≡ true → span.start < span.end
begun_order source span sign h = grind (arith, nat_tests)

begun_byte : (source : List ℕ) (span : Span) (sign : ℕ) → begins_with source span sign ≡ true → slice_index source span.start ≡ sign
begun_byte source span sign h = grind (arith, nat_tests)

-- behind an ASCII byte in front a character begins
pub behind_first : (source : List ℕ) (span : Span) (sign : ℕ) → IsUtf8 source → is_sound source span ≡ true → sign < 128 → begins_with source span sign ≡ true → IsCharBoundary source (span.start + 1)
behind_first source span sign u h ascii k =
    let order : span.start < span.end = begun_order source span sign k in
    let within : span.end ≤ length source = sound_end source span h in
    let byte : slice_index source span.start ≡ sign = begun_byte source span sign k in
    IsCharBoundary-after_ascii source span.start u (omega arith) (omega arith)

either : (b e f : Bool) → b ≡ false → (if b then e else f) ≡ true → f ≡ true
either true e f h k = absurd cc
either false e f h k = k

-- a mark that is not behind the type stands in front
pub in_front : (source : List ℕ) (node : Node) (sign : ℕ) → has_mark node.marks Postfix ≡ false → shows source node sign ≡ true → begins_with source node.span sign ≡ true
in_front source node sign h k = either (has_mark node.marks Postfix) (ends_with source node.span sign) (begins_with source node.span sign) h k
