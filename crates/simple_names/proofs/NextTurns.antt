-- The next unused short name is the first of those that are left.
use Rattle.std.proofs.Common.{◌≡◌, ℕ, zero, suc, ◌+◌, ◌-◌, ◌<◌, ◌≤◌, List, ◌∷◌, Bool, true, false, inl, inr, cond, length, ap, subst, ◌∙◌, arith}
use Rattle.std.proofs.lemmas.Bool.Decides.{eqb_tells}
use Rattle.semantic_syntax.specs.Tables.{Name}
use Rattle.mangle_model.specs.ShortNames.{short_name}
use Rattle.simple_names.specs.NextNames.{unused_from}

module _ (unused : Name → Bool) where
  abbrev pub left : (from count : ℕ) → List Name
  left from count = unused_from unused from count

  taken_goes : (from count : ℕ) → unused (short_name from) ≡ false → left from (suc count) ≡ left (from + 1) count
  taken_goes from count e = ap (λ b. cond b (short_name from ∷ left (from + 1) count) (left (from + 1) count)) e

  unused_comes : (from count : ℕ) → unused (short_name from) ≡ true → left from (suc count) ≡ short_name from ∷ left (from + 1) count
  unused_comes from count e = ap (λ b. cond b (short_name from ∷ left (from + 1) count) (left (from + 1) count)) e

  next_in : (count from m : ℕ) → from ≤ m → unused (short_name m) ≡ true → ((n : ℕ) → from ≤ n → n < m → unused (short_name n) ≡ false) → 0 < length (left from count)
      → left from count ≡ short_name m ∷ left (m + 1) (from + count - (m + 1))
  next_in zero from m le is used h = absurd (omega (arith, h))
  next_in (suc count) from m le is used h = elim (eqb_tells from m) [
    | inl e ↦ (
        let same : count ≡ from + suc count - (from + 1) = omega arith in
        unused_comes from count (ap (λ n. unused (short_name n)) e.1 ∙ is)
        ∙ ap (λ n. short_name from ∷ left (from + 1) n) same
        ∙ ap (λ n. short_name n ∷ left (n + 1) (from + suc count - (n + 1))) e.1)
    | inr e ↦ (
        let below : from < m = omega (arith, le, e.1) in
        let gone : left from (suc count) ≡ left (from + 1) count = taken_goes from count (used from (omega arith) below) in
        let same : from + 1 + count - (m + 1) ≡ from + suc count - (m + 1) = omega arith in
        gone
        ∙ next_in count (from + 1) m (omega (arith, below)) is (λ n a b. used n (omega (arith, a)) b) (subst (λ (xs : List Name). 0 < length xs) gone h)
        ∙ ap (λ n. short_name m ∷ left (m + 1) n) same)
  ]

  some_left : (from count : ℕ) → 0 < length (left from count) → 0 < count
  some_left from zero h = absurd (omega (arith, h))
  some_left from (suc count) h = omega arith

  -- of the numbers up to one
  pub next_left : (count from m : ℕ) → from ≤ m → unused (short_name m) ≡ true → ((n : ℕ) → from ≤ n → n < m → unused (short_name n) ≡ false) → 0 < length (left from (count - from))
      → left from (count - from) ≡ short_name m ∷ left (m + 1) (count - (m + 1))
  next_left count from m le is used h =
      let some : 0 < count - from = some_left from (count - from) h in
      let same : from + (count - from) - (m + 1) ≡ count - (m + 1) = omega (arith, some) in
      next_in (count - from) from m le is used h ∙ ap (λ n. short_name m ∷ left (m + 1) n) same

  -- a number more that is used
  pub used_more : (from m : ℕ) → ((n : ℕ) → from ≤ n → n < m → unused (short_name n) ≡ false) → unused (short_name m) ≡ false → (n : ℕ) → from ≤ n → n < m + 1 → unused (short_name n) ≡ false
  used_more from m used e n a b = elim (eqb_tells n m) [
    | inl f ↦ ap (λ k. unused (short_name k)) f.1 ∙ e
    | inr f ↦ used n a (omega (arith, b, f.1))
  ]
