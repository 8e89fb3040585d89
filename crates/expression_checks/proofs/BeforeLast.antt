-- The declarations before the last one.
use Rattle.std.proofs.Common.{◌≡◌, ℕ, zero, suc, ◌-◌, List, [], ◌∷◌, ◌++◌, take, length, refl, ap, ◌∙◌, arith}
use Rattle.std.proofs.lemmas.List.{length-append}
use Rattle.semantic_syntax.specs.declared.references.Redeclaration.{Redeclaration}
use Rattle.check_model.specs.Entries.{before_last}

take_front : (n : ℕ) (xs : List Redeclaration) (x : Redeclaration) → n ≡ length xs → take n (xs ++ x ∷ []) ≡ xs
take_front zero [] x e = refl
take_front (suc n) [] x e = absurd (omega (arith, e))
take_front zero (y ∷ xs) x e = absurd (omega (arith, e))
take_front (suc n) (y ∷ xs) x e = ap (λ ys. y ∷ ys) (take_front n xs x (omega (arith, e)))

pub before_last_is : (entries rest : List Redeclaration) (x : Redeclaration) → entries ≡ rest ++ x ∷ [] → before_last entries ≡ rest
before_last_is entries rest x e =
    ap before_last e ∙ take_front (length (rest ++ x ∷ []) - 1) rest x (omega (arith, length-append rest (x ∷ [])))
