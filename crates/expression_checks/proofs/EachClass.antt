-- A pass over the elements of each class.
use Rattle.std.proofs.Common.{◌≡◌, ℕ, zero, suc, ◌+◌, ◌<◌, List, [], ◌∷◌, get_or, drop, length, map, ap, sym, ◌∙◌, add-one, arith, drop-cons}
use Rattle.std.specs.List.{AllByRecursion}

module _ {X Y : Type 0} (f : X → Y) where
  -- what holds of each holds of one
  pub each_at : (P : Y → Type 0) (xs : List X) (i : ℕ) (d : X) → i < length xs → AllByRecursion P (map f xs) → P (f (get_or xs i d))
  each_at P [] i d within all = absurd (omega (arith, within))
  each_at P (x ∷ xs) zero d within all = all.0
  each_at P (x ∷ xs) (suc i) d within all = each_at P xs i d (omega (arith, within)) all.1

  -- the one at a place, and those after it
  pub next_at : (xs : List X) (i : ℕ) (x : X) → i < length xs → x ≡ get_or xs i x → map f (drop i xs) ≡ f x ∷ map f (drop (i + 1) xs)
  next_at xs i x within here = ap (map f) (drop-cons xs i x within) ∙ (λ j. f (sym here j) ∷ map f (drop (sym (add-one i) j) xs))
