-- What holds of each element of a list.
use Rattle.std.proofs.Common.{ℕ, ◌<◌, zero, suc, List, [], ◌∷◌, ◌++◌, length, get_or, arith}
use Rattle.std.specs.List.{AllByRecursion}
use Rattle.std.proofs.Math.ListN.{set}

module _ {X : Type 0} (P : X → Type 0) where
  pub every-append : (xs ys : List X) → AllByRecursion P xs → AllByRecursion P ys → AllByRecursion P (xs ++ ys)
  every-append [] ys h k = k
  every-append (x ∷ xs) ys h k = (h.0, every-append xs ys h.1 k)

  pub every-push : (x : X) (xs : List X) → AllByRecursion P xs → P x → AllByRecursion P (xs ++ x ∷ [])
  every-push x xs h p = every-append xs (x ∷ []) h (p, tt)

  pub every-last : (x : X) (xs : List X) → AllByRecursion P (xs ++ x ∷ []) → P x
  every-last x [] h = h.0
  every-last x (y ∷ xs) h = every-last x xs h.1

  pub every-set : (x : X) (xs : List X) (i : ℕ) → AllByRecursion P xs → P x → AllByRecursion P (set xs i x)
  every-set x [] i h p = tt
  every-set x (y ∷ xs) zero h p = (p, h.1)
  every-set x (y ∷ xs) (suc i) h p = (h.0, every-set x xs i h.1 p)

  pub every-at : (d : X) (xs : List X) (i : ℕ) → AllByRecursion P xs → i < length xs → P (get_or xs i d)
  every-at d [] i h within = absurd (omega arith)
  every-at d (y ∷ xs) zero h within = h.0
  every-at d (y ∷ xs) (suc i) h within = every-at d xs i h.1 (omega arith)

  -- at any place, where it holds of what stands past the end
  pub every-or : (d : X) (xs : List X) (i : ℕ) → AllByRecursion P xs → P d → P (get_or xs i d)
  every-or d [] i h p = p
  every-or d (y ∷ xs) zero h p = h.0
  every-or d (y ∷ xs) (suc i) h p = every-or d xs i h.1 p

pub every-more : {X : Type 0} (P Q : X → Type 0) → ((x : X) → P x → Q x) → (xs : List X) → AllByRecursion P xs → AllByRecursion Q xs
every-more P Q more [] h = tt
every-more P Q more (x ∷ xs) h = (more x h.0, every-more P Q more xs h.1)
