-- What stands in lists.
use Rattle.std.proofs.Common.{◌≡◌, List, [], ◌∷◌, ◌++◌, ◌⊎◌, inl, inr, map, flat_map, refl, sym, ap, subst}
use Rattle.semantic_model.specs.Entries.{Among}

pub among-append : {A : Type 0} (x : A) (xs ys : List A) → Among x (xs ++ ys) → Among x xs ⊎ Among x ys
among-append x [] ys a = inr a
among-append x (y ∷ xs) ys (inl e) = inl (inl e)
among-append x (y ∷ xs) ys (inr a) = elim (among-append x xs ys a) [ inl b ↦ inl (inr b) | inr b ↦ inr b ]

pub among-left : {A : Type 0} (x : A) (xs ys : List A) → Among x xs → Among x (xs ++ ys)
among-left x [] ys a = absurd a
among-left x (y ∷ xs) ys (inl e) = inl e
among-left x (y ∷ xs) ys (inr a) = inr (among-left x xs ys a)

pub among-right : {A : Type 0} (x : A) (xs ys : List A) → Among x ys → Among x (xs ++ ys)
among-right x [] ys a = a
among-right x (y ∷ xs) ys a = inr (among-right x xs ys a)

pub among-map : {A B : Type 0} (f : A → B) (x : A) (xs : List A) → Among x xs → Among (f x) (map f xs)
among-map f x [] a = a
among-map f x (y ∷ xs) (inl e) = inl (ap f e)
among-map f x (y ∷ xs) (inr a) = inr (among-map f x xs a)

pub among-mapped : {A B : Type 0} (f : A → B) (z : B) (xs : List A) → Among z (map f xs) → (x : A) × (Among x xs × (f x ≡ z))
among-mapped f z [] a = absurd a
among-mapped f z (y ∷ xs) (inl e) = (y, (inl refl, e))
among-mapped f z (y ∷ xs) (inr a) = let (x, (b, e)) = among-mapped f z xs a in (x, (inr b, e))

pub among-flat : {A B : Type 0} (f : A → List B) (x : A) (z : B) (xs : List A) → Among x xs → Among z (f x) → Among z (flat_map f xs)
among-flat f x z [] a b = absurd a
among-flat f x z (y ∷ xs) (inl e) b = among-left z (f y) (flat_map f xs) (subst (λ w. Among z (f w)) (sym e) b)
among-flat f x z (y ∷ xs) (inr a) b = among-right z (f y) (flat_map f xs) (among-flat f x z xs a b)

pub among-flattened : {A B : Type 0} (f : A → List B) (z : B) (xs : List A) → Among z (flat_map f xs) → (x : A) × (Among x xs × Among z (f x))
among-flattened f z [] a = absurd a
among-flattened f z (y ∷ xs) a = elim (among-append z (f y) (flat_map f xs) a) [
  | inl b ↦ (y, (inl refl, b))
  | inr b ↦ (let (x, (c, d)) = among-flattened f z xs b in (x, (inr c, d)))
]
