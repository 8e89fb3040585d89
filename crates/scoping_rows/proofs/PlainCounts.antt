-- How many declarations stand before the first that passes, found from a known number on.
use Rattle.std.proofs.Common.{◌≡◌, ℕ, ◌+◌, ◌<◌, ◌≤◌, List, [], ◌∷◌, ◌++◌, Bool, true, false, not, length, get_or, inl, inr, sym, ap, ◌∙◌, arith}
use Rattle.std.specs.List.{position_or_len}
use Rattle.std.proofs.lemmas.Bool.{cases_lt}
use Rattle.std.proofs.lemmas.List.Folds.{position_or_len_push}
use Rattle.std.proofs.lemmas.List.Sums.{prefix_len-le-length, fails_before_first, passes_at_first}

no_both : (b : Bool) → b ≡ true → b ≡ false → ⊥
no_both b h k = cc

module _ {X : Type 0} (p : X → Bool) (xs : List X) (n : ℕ) (known : n ≤ position_or_len p xs) where
  -- one more that fails is passed
  pub passes_on : (d : X) → n < length xs → p (get_or xs n d) ≡ false → n + 1 ≤ position_or_len p xs
  passes_on d within fails = elim (cases_lt n (position_or_len p xs)) [
    | inl less ↦ omega (arith, less)
    | inr most ↦
        let same : position_or_len p xs ≡ n = omega (arith, most, known) in
        absurd (no_both (p (get_or xs n d)) (ap (λ k. p (get_or xs k d)) (sym same) ∙ passes_at_first p xs d (omega (arith, within, same))) fails)
  ]

  -- the one that passes is the first
  pub stops_at : (d : X) → p (get_or xs n d) ≡ true → n ≡ position_or_len p xs
  stops_at d passes = elim (cases_lt n (position_or_len p xs)) [
    | inl less ↦ absurd (no_both (p (get_or xs n d)) passes (fails_before_first p xs n d less))
    | inr most ↦ omega (arith, most, known)
  ]

  -- where all are passed none passes
  pub all_passed : length xs ≤ n → n ≡ position_or_len p xs
  all_passed most = omega (arith, most, known, prefix_len-le-length (λ x. not (p x)) xs)

  -- one more at the end leaves what is known
  pub stays_known : (x : X) → n ≤ position_or_len p (xs ++ x ∷ [])
  stays_known x = grind (arith, position_or_len_push p xs x, known)
