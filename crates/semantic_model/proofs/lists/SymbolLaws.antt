-- What the list of symbols has after a change.
use Rattle.std.proofs.Common.{◌≡◌, ℕ, zero, suc, ◌<◌, List, [], ◌∷◌, ◌++◌, length, refl, Some, option_map, cond, ◌==◌, arith}
use Rattle.std.proofs.lemmas.Grind.{common_steps}
use Rattle.std.proofs.lemmas.Bool.Decides.{eqb_tells}
use Rattle.std.specs.Prelude.{slice_get}
use Rattle.semantic_syntax.specs.Tables.{Symbol}
use Rattle.semantic_model.specs.Fold.{update}

pub get-update : (f : Symbol → Symbol) (ys : List Symbol) (n m : ℕ) → slice_get (update f ys n) m ≡ cond (n == m) (option_map f (slice_get ys m)) (slice_get ys m)
get-update f [] n m = grind (arith, eqb_tells n m)
get-update f (y ∷ ys) zero zero = refl
get-update f (y ∷ ys) zero (suc m) = grind (arith, eqb_tells 0 (suc m))
get-update f (y ∷ ys) (suc n) zero = grind (arith, eqb_tells (suc n) 0)
get-update f (y ∷ ys) (suc n) (suc m) = grind (arith, get-update f ys n m, eqb_tells n m, eqb_tells (suc n) (suc m))

pub length-push : (ys : List Symbol) (y : Symbol) → length (ys ++ y ∷ []) ≡ suc (length ys)
length-push ys y = grind (arith, common_steps)

pub get-push : (ys : List Symbol) (y : Symbol) (n : ℕ) → n < length ys → slice_get (ys ++ y ∷ []) n ≡ slice_get ys n
get-push [] y n h = grind arith
get-push (z ∷ ys) y zero h = refl
get-push (z ∷ ys) y (suc n) h = get-push ys y n (grind arith)

pub get-last : (ys : List Symbol) (y : Symbol) → slice_get (ys ++ y ∷ []) (length ys) ≡ Some y
get-last [] y = refl
get-last (z ∷ ys) y = get-last ys y

pub get_within : (ys : List Symbol) (n : ℕ) (y : Symbol) → slice_get ys n ≡ Some y → n < length ys
get_within [] n y h = grind arith
get_within (z ∷ ys) zero y h = grind arith
get_within (z ∷ ys) (suc n) y h = grind (arith, get_within ys n y h)
