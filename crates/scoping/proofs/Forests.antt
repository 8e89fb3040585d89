-- Parents that stay.
use Rattle.std.proofs.Common.{◌≡◌, ℕ, ◌<◌, zero, suc, true, List, [], ◌∷◌, Option, None, IfSome, length, get_or, map, refl, sym, ap, subst, ◌∙◌, arith}
use Rattle.std.proofs.lemmas.List.{length-map}
use Rattle.semantic_syntax.specs.Tables.{Scope}
use Rattle.semantic_syntax.specs.Source.{ends_within}
use Rattle.semantic_syntax.specs.Reading.{parent_of, IsForest}

abbrev pub parents : List Scope → List (Option ℕ)
parents xs = map (λ (x : Scope). x.parent) xs

pub parent_of-parents : (xs : List Scope) (s : ℕ) → parent_of xs s ≡ get_or (parents xs) s None
parent_of-parents [] s = refl
parent_of-parents (x ∷ xs) zero = refl
parent_of-parents (x ∷ xs) (suc s) = parent_of-parents xs s

-- scopes with the same parents make no cycle either
pub IsForest-same : (xs ys : List Scope) → parents ys ≡ parents xs → IsForest xs → IsForest ys
IsForest-same xs ys same forest =
    let count : length ys ≡ length xs = sym (length-map ys (λ (x : Scope). x.parent)) ∙ ap length same ∙ length-map xs (λ (x : Scope). x.parent) in
    let at : (s : ℕ) → parent_of xs s ≡ parent_of ys s = λ s. parent_of-parents xs s ∙ ap (λ ps. get_or ps s None) (sym same) ∙ sym (parent_of-parents ys s) in
    let all : ◌≡◌ {A = ℕ → Option ℕ} (parent_of xs) (parent_of ys) = λ j s. at s j in
    record {
      exist = λ s. subst (λ n. IfSome (parent_of ys s) (λ p. p < n)) (sym count) (subst (λ (f : ℕ → Option ℕ). IfSome (f s) (λ p. p < length xs)) all (forest.exist s));
      ends = λ s below. subst (λ n. ends_within (parent_of ys) n s ≡ true) (sym count) (subst (λ (f : ℕ → Option ℕ). ends_within f (length xs) s ≡ true) all (forest.ends s (omega (arith, count))));
    }
