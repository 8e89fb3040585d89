-- Where the word `global` of a declaration stands, by a search in its own bytes.
use Rattle.std.proofs.Common.{◌≡◌, ℕ, zero, suc, ◌+◌, ◌-◌, ◌<◌, ◌≤◌, List, [], ◌∷◌, ◌++◌, Bool, true, false, Option, Some, None, if◌then◌else◌, nat_le, codes, length, take, drop, refl, sym, ap, ◌∙◌, arith, inl, inr}
use Rattle.std.specs.Str.{bytes_eq}
use Rattle.std.proofs.lemmas.Bool.{cases_Bool}
use Rattle.std.proofs.lemmas.Bool.Decides.{nat_tests}
use Rattle.std.proofs.lemmas.List.{drop-take, take-take, length-take-le}
use Rattle.std.proofs.lemmas.Slice.Eq.{bytes_eq-Decides}
use Rattle.memchr.specs.Find.{FindsNeedle, OccursAt}
use Rattle.memchr.proofs.lemmas.MatchLemmas.{OccursAt-part, OccursAt-from_part}
use Rattle.semantic_syntax.specs.declared.spans.Span.{Span}
use Rattle.check_model.specs.Namespaces.{starts_from, global_span_at}
use Rattle.check_model.specs.Search.{first}

module _ (count : ℕ) (word : List ℕ) where
  -- the word begins at a place of the bytes
  abbrev pub begins : List ℕ → ℕ → Bool
  begins bytes k = bytes_eq (take count (drop k bytes)) word

  by_first : (b : Bool) (place : ℕ) (rest : List ℕ) → b ≡ false → first ((if b then place ∷ [] else []) ++ rest) ≡ first rest
  by_first true place rest h = absurd cc
  by_first false place rest h = refl

  at_first : (b : Bool) (place : ℕ) (rest : List ℕ) → b ≡ true → first ((if b then place ∷ [] else []) ++ rest) ≡ Some place
  at_first true place rest h = refl
  at_first false place rest h = absurd cc

  none_before : (byte : ℕ) (rest : List ℕ) (k : ℕ) → ((j : ℕ) → j < suc k → begins (byte ∷ rest) j ≡ true → ⊥) → begins (byte ∷ rest) 0 ≡ false
  none_before byte rest k f = elim (cases_Bool (begins (byte ∷ rest) 0)) [ inl q ↦ absurd (f 0 (omega arith) q) | inr q ↦ q ]

  -- the first place at which the word begins is the first that is found
  pub first_start : (bytes : List ℕ) (k place : ℕ) → k < length bytes → begins bytes k ≡ true → ((j : ℕ) → j < k → begins bytes j ≡ true → ⊥) → first (starts_from count word place bytes) ≡ Some (place + k)
  first_start [] k place l h f = absurd (omega (arith, l))
  first_start (byte ∷ rest) zero place l h f = let same : place + 0 ≡ place = omega arith in rw same (at_first (begins (byte ∷ rest) 0) place (starts_from count word (place + 1) rest) h)
  first_start (byte ∷ rest) (suc k) place l h f =
      let same : place + 1 + k ≡ place + suc k = omega arith in
      by_first (begins (byte ∷ rest) 0) place (starts_from count word (place + 1) rest) (none_before byte rest k f)
      ∙ first_start rest k (place + 1) (omega (arith, l)) h (λ j m q. f (suc j) (omega (arith, m)) q)
      ∙ ap Some same

  -- and what is found is such a place
  pub record StartsAt (bytes : List ℕ) (place found : ℕ) : Type 0 where
    pub at : ℕ
    pub is : found ≡ place + at
    pub within : at < length bytes
    pub starts : begins bytes at ≡ true

  some_same : {x y : ℕ} → ◌≡◌ {A = Option ℕ} (Some x) (Some y) → x ≡ y
  some_same h = cc

  pub found_start : (bytes : List ℕ) (place found : ℕ) → first (starts_from count word place bytes) ≡ Some found → StartsAt bytes place found
  found_start [] place found h = absurd cc
  found_start (byte ∷ rest) place found h = elim (cases_Bool (begins (byte ∷ rest) 0)) [
    | inl q ↦ record { at = 0; is = (let e : place ≡ found = some_same (sym (at_first (begins (byte ∷ rest) 0) place (starts_from count word (place + 1) rest) q) ∙ h) in omega arith); within = omega arith; starts = q }
    | inr q ↦ (let later = found_start rest (place + 1) found (sym (by_first (begins (byte ∷ rest) 0) place (starts_from count word (place + 1) rest) q) ∙ h) in
        record { at = suc later.at; is = (let e : found ≡ place + 1 + later.at = later.is in omega arith); within = (let w : later.at < length rest = later.within in omega arith); starts = later.starts })
  ]

abbrev pub word : List ℕ
word = codes "global"

-- the bytes of a span, and those from its start on, begin alike
same_part : (n k : ℕ) (rest : List ℕ) → k + 6 ≤ n → take 6 (drop k (take n rest)) ≡ take 6 (drop k rest)
same_part n k rest l =
    let e : n ≡ k + (n - k) = omega arith in
    ap (λ m. take 6 (drop k (take m rest))) e ∙ ap (take 6) (drop-take k (n - k) rest) ∙ take-take 6 (n - k) (drop k rest) (omega arith)

occurs_begins : (n k : ℕ) (rest : List ℕ) → n ≤ length rest → OccursAt (take n rest) word k → (k + 6 ≤ n) × (begins 6 word rest k ≡ true)
occurs_begins n k rest l h =
    let fits : k + 6 ≤ n = omega (arith, h.fits, length-take-le n rest l) in
    (fits, (bytes_eq-Decides (take 6 (drop k rest)) word).1 (sym (same_part n k rest fits) ∙ OccursAt-part (take n rest) word k h))

begins_occurs : (n k : ℕ) (rest : List ℕ) → n ≤ length rest → k + 6 ≤ n → begins 6 word rest k ≡ true → OccursAt (take n rest) word k
begins_occurs n k rest l fits h =
    OccursAt-from_part (take n rest) word k (omega (arith, length-take-le n rest l)) (same_part n k rest fits ∙ (bytes_eq-Decides (take 6 (drop k rest)) word).0 h)

-- the span of the word by where it stands in the bytes of the span
abbrev pub span_at : Span → Option ℕ → Span
span_at span None = span
span_at span (Some at) = record { start = span.start + at; end = span.start + at + 6 }

fits_true : (span : Span) (place : ℕ) → place + 6 ≤ span.end → global_span_at span (Some place) ≡ record { start = place; end = place + 6 }
fits_true span place l = let t : nat_le (place + 6) span.end ≡ true = grind (arith, nat_tests) in rw t refl

fits_false : (span : Span) (place : ℕ) → nat_le (place + 6) span.end ≡ false → global_span_at span (Some place) ≡ span
fits_false span place h = rw h refl

module _ (span : Span) (rest : List ℕ) (order : span.start ≤ span.end) (within : span.end - span.start ≤ length rest) where
  abbrev hay : List ℕ
  hay = take (span.end - span.start) rest

  found_word : (at : ℕ) → FindsNeedle hay word 0 (Some at) → span_at span (Some at) ≡ global_span_at span (first (starts_from 6 word span.start rest))
  found_word at h =
      let here = occurs_begins (span.end - span.start) at rest within h.1 in
      let fits : at + 6 ≤ span.end - span.start = here.0 in
      sym (ap (global_span_at span)
      (first_start 6 word rest at span.start (omega arith) here.1 (λ j m q. h.0.before j (omega arith) m (begins_occurs (span.end - span.start) j rest within (omega arith) q)))
      ∙ fits_true span (span.start + at) (omega arith))

  by_found : (found : Option ℕ) → first (starts_from 6 word span.start rest) ≡ found → FindsNeedle hay word 0 None → span ≡ global_span_at span found
  by_found None is h = refl
  by_found (Some place) is h = elim (cases_Bool (nat_le (place + 6) span.end)) [
    | inl q ↦ (let s = found_start 6 word rest span.start place is in
        let at_is : place ≡ span.start + s.at = s.is in
        let fits : place + 6 ≤ span.end = grind (arith, nat_tests) in
        absurd (h s.at (omega arith) (omega (arith, length-take-le (span.end - span.start) rest within)) (begins_occurs (span.end - span.start) s.at rest within (omega arith) s.starts)))
    | inr q ↦ sym (fits_false span place q)
  ]

  pub word_is : (r : Option ℕ) → FindsNeedle hay word 0 r → span_at span r ≡ global_span_at span (first (starts_from 6 word span.start rest))
  word_is (Some at) h = found_word at h
  word_is None h = by_found (first (starts_from 6 word span.start rest)) refl h
