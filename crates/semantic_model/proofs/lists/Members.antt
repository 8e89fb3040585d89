-- What stands in lists.
use Rattle.std.proofs.Common.{◌≡◌, ℕ, zero, suc, Some, List, [], ◌∷◌, ◌++◌, ◌⊎◌, inl, inr, refl, true, ◌||◌, arith}
use Rattle.std.specs.Prelude.{slice_get}
use Rattle.std.proofs.lemmas.Bool.Decides.{eqb_tells}
use Rattle.semantic_syntax.specs.Members.{contains}
use Rattle.semantic_model.specs.Entries.{Among}

pub among_left : {A : Type 0} → (x : A) (xs ys : List A) → Among x xs → Among x (xs ++ ys)
among_left x [] ys h = absurd h
among_left x (y ∷ xs) ys (inl e) = inl e
among_left x (y ∷ xs) ys (inr h) = inr (among_left x xs ys h)

pub among_right : {A : Type 0} → (x : A) (xs ys : List A) → Among x ys → Among x (xs ++ ys)
among_right x [] ys h = h
among_right x (y ∷ xs) ys h = inr (among_right x xs ys h)

pub among_last : {A : Type 0} → (x : A) (xs : List A) → Among x (xs ++ x ∷ [])
among_last x [] = inl refl
among_last x (y ∷ xs) = inr (among_last x xs)

pub among_cases : {A : Type 0} → (x : A) (xs ys : List A) → Among x (xs ++ ys) → Among x xs ⊎ Among x ys
among_cases x [] ys h = inr h
among_cases x (y ∷ xs) ys (inl e) = inl (inl e)
among_cases x (y ∷ xs) ys (inr h) = elim (among_cases x xs ys h) [ inl a ↦ inl (inr a) | inr a ↦ inr a ]

-- an element, or the one that was added
pub among_more : {A : Type 0} → (x y : A) (xs : List A) → Among x (xs ++ y ∷ []) → Among x xs ⊎ (y ≡ x)
among_more x y xs h = elim (among_cases x xs (y ∷ []) h) [ inl a ↦ inl a | inr a ↦ elim a [ inl e ↦ inr e | inr q ↦ absurd q ] ]

pub contains-append : (xs ys : List ℕ) (c : ℕ) → contains (xs ++ ys) c ≡ (contains xs c || contains ys c)
contains-append [] ys c = refl
contains-append (x ∷ xs) ys c = grind (arith, contains-append xs ys c, eqb_tells x c)

pub contains_left : (xs ys : List ℕ) (c : ℕ) → contains xs c ≡ true → contains (xs ++ ys) c ≡ true
contains_left xs ys c h = grind (arith, contains-append xs ys c)

pub contains_right : (xs ys : List ℕ) (c : ℕ) → contains ys c ≡ true → contains (xs ++ ys) c ≡ true
contains_right [] ys c h = h
contains_right (x ∷ xs) ys c h = grind (arith, contains_right xs ys c h, eqb_tells x c)

pub contains_first : (x : ℕ) (xs : List ℕ) → contains (x ∷ xs) x ≡ true
contains_first x xs = grind (arith, eqb_tells x x)

-- an entry stands in the list
pub among_at : {A : Type 0} → (xs : List A) (i : ℕ) (x : A) → slice_get xs i ≡ Some x → Among x xs
among_at [] i x h = absurd cc
among_at (y ∷ ys) zero x h = inl cc
among_at (y ∷ ys) (suc i) x h = inr (among_at ys i x h)
