-- A set of marks is the set of its marks.
use Rattle.std.proofs.Common.{◌≡◌, ℕ, zero, suc, ◌+◌, ◌*◌, ◌<◌, ◌≤◌, ◌^◌, ◌==◌, List, [], ◌∷◌, Bool, true, false, ◌&&◌, ◌||◌, not, cond, filter, nat_eq, nat_lt, nat_le, refl, ap, sym, ◌∙◌, arith, max, bit_and, bit_or}
use Rattle.std.specs.List.{list_any}
use Rattle.std.specs.Int.{bit_at}
use Rattle.std.proofs.lemmas.Nat.Bits.{and_pow, bit_at_or, bit_at-pow_same, bit_at-pow_other, bit_at-lt, bit_at-zero, bit_at_above, same_from_bits}
use Rattle.std.proofs.lemmas.Nat.{pow_pos}
use Rattle.std.proofs.lemmas.Bool.Decides.{nat_tests, Decides-eqb}
use denote.Enum.Declared.{tag_of}
use Rattle.semantic_kinds.specs.declared.mark.Mark.{Mark}
use Rattle.semantic_kinds.specs.declared.mark.Mark.TheVariants as mark
use Rattle.semantic_kinds.specs.contracts.mark.Mark.{the_type as the_marks}
use Rattle.semantic_kinds.specs.Marks.{mark_bit, all_marks, same_mark}
use Rattle.semantic_kinds.specs.MarkSets.{no_marks, has_mark, with_mark, with_marks, set_of, marks_in}
use Rattle.semantic_kinds.specs.declared.marks.Marks.{Marks}

abbrev place : Mark → ℕ
place = tag_of the_marks

-- a mark stands at the place i
abbrev at_place : ℕ → List Mark → Bool
at_place i ms = list_any (λ m. nat_eq (place m) i) ms

bit_is_power : (m : Mark) → mark_bit m ≡ 2 ^ place m
bit_is_power mark.Async = refl
bit_is_power mark.Generator = refl
bit_is_power mark.Declare = refl
bit_is_power mark.Pure = refl
bit_is_power mark.Static = refl
bit_is_power mark.Computed = refl
bit_is_power mark.Abstract = refl
bit_is_power mark.Optional = refl
bit_is_power mark.Definite = refl
bit_is_power mark.Readonly = refl
bit_is_power mark.Override = refl
bit_is_power mark.Public = refl
bit_is_power mark.Private = refl
bit_is_power mark.Protected = refl
bit_is_power mark.Method = refl
bit_is_power mark.Shorthand = refl
bit_is_power mark.Prefix = refl
bit_is_power mark.Delegate = refl
bit_is_power mark.Await = refl
bit_is_power mark.TypeOnly = refl
bit_is_power mark.Const = refl
bit_is_power mark.In = refl
bit_is_power mark.Out = refl
bit_is_power mark.Asserts = refl
bit_is_power mark.Postfix = refl
bit_is_power mark.Binary = refl
bit_is_power mark.Octal = refl
bit_is_power mark.Decimal = refl
bit_is_power mark.Hex = refl
bit_is_power mark.Float = refl

true_is_not_false : true ≡ false → ⊥
true_is_not_false e = cc

differs : {b : Bool} → b ≡ false → b ≡ true → ⊥
differs p q = true_is_not_false (sym q ∙ p)

-- two more bits are one more bit
merge : (a b : Bool) (x y : ℕ) → y ≡ max x (cond a 1 0) → max y (cond b 1 0) ≡ max x (cond (a || b) 1 0)
merge true true x y e = omega (arith, e)
merge true false x y e = omega (arith, e)
merge false true x y e = omega (arith, e)
merge false false x y e = omega (arith, e)

power_bit : (k i : ℕ) → bit_at (2 ^ k) i ≡ cond (nat_eq k i) 1 0
power_bit k i = elim (nat_eq k i) as (λ b. nat_eq k i ≡ b → bit_at (2 ^ k) i ≡ cond b 1 0) [
  | true ↦ λ is. ap (bit_at (2 ^ k)) (sym ((Decides-eqb k i).0 is)) ∙ bit_at-pow_same k
  | false ↦ λ is. bit_at-pow_other k i (λ e. differs is ((Decides-eqb k i).1 (sym e)))
] refl

-- the bits of a set with more marks
bits_with : (ms : List Mark) (s : Marks) (i : ℕ) → bit_at (with_marks s ms).bits i ≡ max (bit_at s.bits i) (cond (at_place i ms) 1 0)
bits_with [] s i = omega arith
bits_with (m ∷ ms) s i =
    let here : bit_at (mark_bit m) i ≡ cond (nat_eq (place m) i) 1 0 = ap (λ b. bit_at b i) (bit_is_power m) ∙ power_bit (place m) i in
    bits_with ms (with_mark s m) i ∙ merge (nat_eq (place m) i) (at_place i ms) (bit_at s.bits i) (bit_at (bit_or s.bits (mark_bit m)) i) (bit_at_or s.bits (mark_bit m) i ∙ ap (max (bit_at s.bits i)) here)

bit_test : (b p : ℕ) → b < 2 → 0 < p → not (b * p == 0) ≡ (b == 1)
bit_test zero p h q = let none : zero * p ≡ 0 = omega arith in rw none refl
bit_test (suc zero) p h q =
    let one : suc zero * p ≡ p = omega arith in
    let some : (p == 0) ≡ false = grind (arith, nat_tests) in
    rw (one, some) refl
bit_test (suc (suc b)) p h q = absurd (omega arith)

-- a set has a mark where its bit is set
has_bit : (s : Marks) (m : Mark) → has_mark s m ≡ (bit_at s.bits (place m) == 1)
has_bit s m = ap (λ b. not (bit_and s.bits b == 0)) (bit_is_power m) ∙ ap (λ n. not (n == 0)) (and_pow s.bits (place m)) ∙ bit_test (bit_at s.bits (place m)) (2 ^ place m) (bit_at-lt s.bits (place m)) (pow_pos (place m))

settled : (a t : Bool) → cond t (true || (a && t)) (a && t) ≡ t
settled a true = refl
settled true false = refl
settled false false = refl

either : (b x : Bool) → cond b x x ≡ x
either true x = refl
either false x = refl

choose : (b e a t : Bool) → (e ≡ true → b ≡ t) → cond b (e || (a && t)) (a && t) ≡ (e || a) && t
choose b true a t h = rw (h refl) (settled a t)
choose b false a t h = either b (a && t)

at_cond : (i : ℕ) (b : Bool) (m : Mark) (ms : List Mark) → at_place i (cond b (m ∷ ms) ms) ≡ cond b (nat_eq (place m) i || at_place i ms) (at_place i ms)
at_cond i true m ms = refl
at_cond i false m ms = refl

-- the marks of a set, by place
places_in : (ms : List Mark) (s : Marks) (i : ℕ) → at_place i (filter (has_mark s) ms) ≡ (at_place i ms && (bit_at s.bits i == 1))
places_in [] s i = refl
places_in (m ∷ ms) s i =
    at_cond i (has_mark s m) m (filter (has_mark s) ms)
    ∙ ap (λ a. cond (has_mark s m) (nat_eq (place m) i || a) a) (places_in ms s i)
    ∙ choose (has_mark s m) (nat_eq (place m) i) (at_place i ms) (bit_at s.bits i == 1) (λ e. has_bit s m ∙ ap (λ k. bit_at s.bits k == 1) ((Decides-eqb (place m) i).0 e))

-- i is one of the n numbers from k on
abbrev is_among : ℕ → ℕ → ℕ → Bool
is_among k zero i = false
is_among k (suc n) i = nat_eq k i || is_among (k + 1) n i

among : (n k i : ℕ) → is_among k n i ≡ (nat_le k i && nat_lt i (k + n))
among zero k i = grind (arith, nat_tests)
among (suc n) k i = rw (among n (k + 1) i) (grind (arith, nat_tests))

-- all places below 30 have a mark
all_places : (i : ℕ) → at_place i all_marks ≡ nat_lt i 30
all_places i = let all : at_place i all_marks ≡ is_among 0 30 i = refl in all ∙ among 30 0 i ∙ grind (arith, nat_tests)

bit_again : (b : ℕ) → b < 2 → max 0 (cond (b == 1) 1 0) ≡ b
bit_again zero h = refl
bit_again (suc zero) h = refl
bit_again (suc (suc b)) h = absurd (omega arith)

same_bit : (n i : ℕ) → n < 2 ^ 30 → max 0 (cond (nat_lt i 30 && (bit_at n i == 1)) 1 0) ≡ bit_at n i
same_bit n i h = elim (nat_lt i 30) as (λ b. nat_lt i 30 ≡ b → max 0 (cond (b && (bit_at n i == 1)) 1 0) ≡ bit_at n i) [
  | true ↦ λ is. bit_again (bit_at n i) (bit_at-lt n i)
  | false ↦ λ is. let above : 30 ≤ i = grind (arith, nat_tests) in sym (bit_at_above n 30 i h above)
] refl

-- a set whose bits are all marks is the set of its marks
pub set_of-marks_in : (s : Marks) → s.bits < 2 ^ 30 → set_of (marks_in s) ≡ s
set_of-marks_in s h =
    let bits : (set_of (marks_in s)).bits ≡ s.bits =
    same_from_bits (set_of (marks_in s)).bits s.bits (λ i.
    bits_with (marks_in s) no_marks i
    ∙ ap (λ z. max z (cond (at_place i (marks_in s)) 1 0)) (bit_at-zero i)
    ∙ ap (λ a. max 0 (cond a 1 0)) (places_in all_marks s i ∙ ap (λ a. a && (bit_at s.bits i == 1)) (all_places i))
    ∙ same_bit s.bits i h) in
    ap (λ n. record { bits = n }) bits

one_bit : (b : ℕ) (c : Bool) → b < 2 → (max b (cond c 1 0) == 1) ≡ ((b == 1) || c)
one_bit zero true h = refl
one_bit zero false h = refl
one_bit (suc zero) true h = refl
one_bit (suc zero) false h = refl
one_bit (suc (suc b)) c h = absurd (omega arith)

-- a set with one more mark has that mark, and those that it had
pub with_has : (s : Marks) (mark m : Mark) → has_mark (with_mark s mark) m ≡ (has_mark s m || same_mark mark m)
with_has s mark m =
    has_bit (with_mark s mark) m
    ∙ ap (λ b. b == 1) (bit_at_or s.bits (mark_bit mark) (place m) ∙ ap (max (bit_at s.bits (place m))) (ap (λ b. bit_at b (place m)) (bit_is_power mark) ∙ power_bit (place mark) (place m)))
    ∙ one_bit (bit_at s.bits (place m)) (nat_eq (place mark) (place m)) (bit_at-lt s.bits (place m))
    ∙ ap (λ b. b || same_mark mark m) (sym (has_bit s m))
