-- Marks are read again from their names.
use Rattle.std.proofs.Common.{◌≡◌, ℕ, ◌+◌, ◌*◌, ◌≤◌, ◌^◌, ◌==◌, Bool, true, false, not, cond, ◌&&◌, List, [], ◌∷◌, map, filter, bit_and, Some, refl, ap, ◌∙◌, arith}
use Rattle.std.proofs.lemmas.Nat.Bits.{and_pow, bit_at_or, bit_at-pow_other, bit_at-zero}
use Rattle.std.proofs.lemmas.Bool.{and_parts}
use Rattle.std.proofs.lemmas.Bool.Decides.{Decides-eqb}
use Rattle.std.specs.Int.{bit_at}
use Rattle.serde_json.specs.View.{items_of}
use Rattle.semantic_kinds.specs.Marks.{mark_bit, all_marks}
use Rattle.semantic_kinds.specs.MarkSets.{no_marks, has_mark, with_mark, with_marks, set_of, marks_in}
use Rattle.semantic_kinds.specs.declared.mark.Mark.{Mark}
use Rattle.semantic_kinds.specs.declared.marks.Marks.{Marks}
use Rattle.semantic_kinds.proofs.MarkNames.{mark_named-mark_name}
use Rattle.tree_json.specs.Form.{marks_from, marks_of_data}
use Rattle.tree_json.specs.Written.{mark_data, MarksAreRead}

-- the bits of these marks are the powers of two from the k-th on
abbrev are_powers : ℕ → List Mark → Bool
are_powers k [] = true
are_powers k (m ∷ ms) = (mark_bit m == 2 ^ k) && are_powers (k + 1) ms

-- none of the bits from the k-th on is set
abbrev AreFree : ℕ → ℕ → Type 0
AreFree k bits = (i : ℕ) → k ≤ i → bit_at bits i ≡ 0

-- none of these marks is in the set, nor stands among them twice
abbrev AreNew : Marks → List Mark → Type 0
AreNew marks [] = Unit {0}
AreNew marks (m ∷ ms) = (has_mark marks m ≡ false) × AreNew (with_mark marks m) ms

marks_from-new : (ms : List Mark) (marks : Marks) → AreNew marks ms → marks_from marks (items_of (map mark_data ms)) ≡ Some (with_marks marks ms)
marks_from-new [] marks new = refl
marks_from-new (m ∷ ms) marks new =
    rw (mark_named-mark_name m, new.0) (marks_from-new ms (with_mark marks m) new.1)

has_not : (marks : Marks) (m : Mark) (k : ℕ) → mark_bit m ≡ 2 ^ k → AreFree k marks.bits → has_mark marks m ≡ false
has_not marks m k is free =
    let none : bit_at marks.bits k * 2 ^ k ≡ 0 = rw (free k (omega arith)) (omega arith) in
    ap (λ b. not (bit_and marks.bits b == 0)) is ∙ ap (λ n. not (n == 0)) (and_pow marks.bits k ∙ none)

still_free : (marks : Marks) (m : Mark) (k : ℕ) → mark_bit m ≡ 2 ^ k → AreFree k marks.bits → AreFree (k + 1) (with_mark marks m).bits
still_free marks m k is free i above =
    let other : bit_at (2 ^ k) i ≡ 0 = bit_at-pow_other k i (λ e. absurd (omega (arith, e))) in
    bit_at_or marks.bits (mark_bit m) i ∙ rw (is, other, free i (omega arith)) refl

later_free : (k bits : ℕ) → AreFree k bits → AreFree (k + 1) bits
later_free k bits free i above = free i (omega arith)

new-filter : (p : Mark → Bool) (ms : List Mark) (k : ℕ) (marks : Marks) → are_powers k ms ≡ true → AreFree k marks.bits → AreNew marks (filter p ms)
new-filter p [] k marks powers free = tt
new-filter p (m ∷ ms) k marks powers free =
    let (one, rest) = and_parts (mark_bit m == 2 ^ k) (are_powers (k + 1) ms) powers in
    let is : mark_bit m ≡ 2 ^ k = (Decides-eqb (mark_bit m) (2 ^ k)).0 one in
    elim (p m) as (λ b. AreNew marks (cond b (m ∷ filter p ms) (filter p ms))) [
      | true ↦ (has_not marks m k is free, new-filter p ms (k + 1) (with_mark marks m) rest (still_free marks m k is free))
      | false ↦ new-filter p ms (k + 1) marks rest (later_free k marks.bits free)
    ]

-- the marks of a set are read again, if it is the set of its marks
pub marks_again : (marks : Marks) → set_of (marks_in marks) ≡ marks → MarksAreRead marks
unfolding marks_of_data
marks_again marks known =
    marks_from-new (marks_in marks) no_marks (new-filter (has_mark marks) all_marks 0 no_marks refl (λ i h. bit_at-zero i)) ∙ ap Some known
