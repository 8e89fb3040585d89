-- Lists with the places of their entries.
use Rattle.std.proofs.Common.{◌≡◌, ℕ, ◌+◌, List, [], ◌∷◌, length, refl, arith}
use Rattle.scoping.specs.Numbering.{numbered_from}

pub length-numbered_from : {X : Type 0} (n : ℕ) (xs : List X) → length (numbered_from n xs) ≡ length xs
length-numbered_from n [] = refl
length-numbered_from n (x ∷ xs) = omega (arith, length-numbered_from (n + 1) xs)
