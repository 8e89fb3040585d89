-- What clones of lists show.
use Rattle.std.proofs.Common.{◌≡◌, List, [], ◌∷◌, map, refl}
use Rattle.std.specs.List.{AllZip}

module _ {X : Type 0} (R : X → X → Type 0) where
  pub clones_shown : {Y : Type 0} (f : X → Y) → ((x y : X) → R x y → f y ≡ f x) → (xs ys : List X) → AllZip R xs ys → map f ys ≡ map f xs
  clones_shown f same [] [] h = refl
  clones_shown f same [] (y ∷ ys) h = absurd h
  clones_shown f same (x ∷ xs) [] h = absurd h
  clones_shown f same (x ∷ xs) (y ∷ ys) h = λ j. same x y h.0 j ∷ clones_shown f same xs ys h.1 j

  pub clones_same : ((x y : X) → R x y → y ≡ x) → (xs ys : List X) → AllZip R xs ys → ys ≡ xs
  clones_same same [] [] h = refl
  clones_same same [] (y ∷ ys) h = absurd h
  clones_same same (x ∷ xs) [] h = absurd h
  clones_same same (x ∷ xs) (y ∷ ys) h = λ j. same x y h.0 j ∷ clones_same same xs ys h.1 j
