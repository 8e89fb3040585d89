-- A search along the front of a list, as far as its end.
use Rattle.std.proofs.Common.{◌≡◌, suc, ◌+◌, List, [], ◌∷◌, take, Bool, true, false, Some, None, cond, not, refl, ap, ◌∙◌, arith}
use Rattle.std.specs.Prelude.{find}
use Rattle.std.specs.List.{prefix_len, take_while}
use Rattle.check_model.specs.Search.{find_before}

-- the first that has a test, before the search ends
pub before_end : {A : Type 0} (ends test : A → Bool) (xs : List A) → find test (take_while (λ x. not (ends x)) xs) ≡ find_before ends test xs
before_end ends test [] = refl
before_end ends test (x ∷ xs) = by (ends x) (before_end ends test xs)
  where
    by : (b : Bool) → find test (take_while (λ x. not (ends x)) xs) ≡ find_before ends test xs
        → find test (take (cond (not b) (1 + prefix_len (λ x. not (ends x)) xs) 0) (x ∷ xs)) ≡ cond b None (cond (test x) (Some x) (find_before ends test xs))
    by true later = refl
    by false later =
        let more : 1 + prefix_len (λ x. not (ends x)) xs ≡ suc (prefix_len (λ x. not (ends x)) xs) = omega arith in
        ap (λ n. find test (take n (x ∷ xs))) more ∙ ap (λ rest. cond (test x) (Some x) rest) later
