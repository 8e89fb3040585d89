-- Walks outward that end: they repeat no scope, so they are no longer than there are scopes.
use Rattle.std.proofs.Common.{◌≡◌, ℕ, ◌<◌, ◌≤◌, ◌||◌, nat_eq, Bool, true, false, List, [], ◌∷◌, Option, None, Some, IfSome, length, refl, sym, ap, subst, ◌∙◌, arith, zero, suc}
use Rattle.std.specs.List.{list_any, IsDistinct, AllByRecursion}
use Rattle.std.specs.Option.{option_map_or}
use Rattle.std.proofs.lemmas.Bool.{eqb-true, eqb-false, false_from_ne_true}
use Rattle.std.proofs.lemmas.Map.Keys.{IsDistinct-cons}
use Rattle.std.proofs.lemmas.Map.Steps.{length-le_from_distinct_below}
use Rattle.semantic_syntax.specs.Source.{chain_within, ends_within}
use Rattle.scoping.proofs.Parents.{ends_within-more, step_within, end_within}

nothing : IsDistinct nat_eq []
unfolding IsDistinct
nothing = tt

none_is : (j : ℕ) (xs : List ℕ) → list_any (nat_eq j) xs ≡ false → AllByRecursion (λ y. nat_eq j y ≡ false) xs
none_is j [] h = tt
none_is j (x ∷ xs) h = by (nat_eq j x) refl h (none_is j xs)
  where
    by : (b : Bool) → nat_eq j x ≡ b → b || list_any (nat_eq j) xs ≡ false → (list_any (nat_eq j) xs ≡ false → AllByRecursion (λ y. nat_eq j y ≡ false) xs)
        → (nat_eq j x ≡ false) × AllByRecursion (λ y. nat_eq j y ≡ false) xs
    by true is h rest = absurd (cc)
    by false is h rest = (is, rest h)

module _ (g : ℕ → Option ℕ) where
  pub never : (k : ℕ) → ends_within g zero k ≡ true → ⊥
  unfolding ends_within
  never k ends = cc

  pub ends_within-le : (few many k : ℕ) → few ≤ many → ends_within g few k ≡ true → ends_within g many k ≡ true
  ends_within-le few zero k l h = absurd (never k (subst (λ n. ends_within g n k ≡ true) (omega arith) h))
  ends_within-le few (suc many) k l h = step (nat_eq few (suc many)) refl (λ m. ends_within-le few many k m h)
    where
      step : (b : Bool) → nat_eq few (suc many) ≡ b → (few ≤ many → ends_within g many k ≡ true) → ends_within g (suc many) k ≡ true
      step true e rest = subst (λ n. ends_within g n k ≡ true) (eqb-true few (suc many) e) h
      step false e rest = ends_within-more g many k (rest (omega (arith, eqb-false few (suc many) e)))

  -- the walk goes on from the parent
  pub goes_on : (steps k p : ℕ) → g k ≡ Some p → ends_within g (suc steps) k ≡ true → ends_within g steps p ≡ true
  unfolding ends_within
  goes_on steps k p outer ends = sym (ap (λ o. option_map_or (ends_within g steps) o true) outer) ∙ ends

  pub one : (k steps : ℕ) (o : Option ℕ) → g k ≡ o → option_map_or (ends_within g steps) o true ≡ true → ends_within g (suc steps) k ≡ true
  unfolding ends_within
  one k steps o is h = ap (λ x. option_map_or (ends_within g steps) x true) is ∙ h

  pub goes_on_within : (steps k p : ℕ) → g k ≡ Some p → ends_within g steps k ≡ true → ends_within g steps p ≡ true
  goes_on_within zero k p outer ends = absurd (never k ends)
  goes_on_within (suc steps) k p outer ends = ends_within-more g steps p (goes_on steps k p outer ends)

  module _ (most : ℕ) where
    abbrev walk : ℕ → List ℕ
    walk k = chain_within g most k

    -- what stands in a walk has no longer a walk
    shorter : (m k j : ℕ) → ends_within g m k ≡ true → ends_within g most k ≡ true → list_any (nat_eq j) (walk k) ≡ true → length (walk j) ≤ length (walk k)
    shorter zero k j e f there = absurd (never k e)
    shorter (suc m) k j e f there = by (g k) refl (λ p e' f' h. shorter m p j e' f' h)
      where
        at : (outer : List ℕ) → walk k ≡ k ∷ outer → (list_any (nat_eq j) outer ≡ true → length (walk j) ≤ length outer) → length (walk j) ≤ length (walk k)
        at outer is rest = head (nat_eq j k) refl (sym (ap (list_any (nat_eq j)) is) ∙ there)
          where
            head : (b : Bool) → nat_eq j k ≡ b → b || list_any (nat_eq j) outer ≡ true → length (walk j) ≤ length (walk k)
            head true same h = subst (λ i. length (walk j) ≤ length (walk i)) (eqb-true j k same) (omega arith)
            head false same h = omega (arith, rest h, ap length is)

        by : (o : Option ℕ) → g k ≡ o
            → ((p : ℕ) → ends_within g m p ≡ true → ends_within g most p ≡ true → list_any (nat_eq j) (walk p) ≡ true → length (walk j) ≤ length (walk p))
            → length (walk j) ≤ length (walk k)
        by None is again = at [] (end_within g most k is f) (λ h. absurd (cc))
        by (Some p) is again = at (walk p) (step_within g most k p is f) (λ h. again p (goes_on m k p is e) (goes_on_within most k p is f) h)

    -- a walk that ends repeats nothing
    pub walk_distinct : (m k : ℕ) → ends_within g m k ≡ true → ends_within g most k ≡ true → IsDistinct nat_eq (walk k)
    walk_distinct zero k e f = absurd (never k e)
    walk_distinct (suc m) k e f = by (g k) refl (λ p e' f'. walk_distinct m p e' f')
      where
        by : (o : Option ℕ) → g k ≡ o → ((p : ℕ) → ends_within g m p ≡ true → ends_within g most p ≡ true → IsDistinct nat_eq (walk p)) → IsDistinct nat_eq (walk k)
        by None is again = subst (IsDistinct nat_eq) (sym (end_within g most k is f)) (IsDistinct-cons nat_eq k [] tt nothing)
        by (Some p) is again =
            let step = step_within g most k p is f in
            let e' = goes_on m k p is e in
            let f' = goes_on_within most k p is f in
            let absent : list_any (nat_eq k) (walk p) ≡ false = false_from_ne_true (list_any (nat_eq k) (walk p)) (λ h. absurd (omega (arith, shorter m p k e' f' h, ap length step))) in
            subst (IsDistinct nat_eq) (sym step) (IsDistinct-cons nat_eq k (walk p) (none_is k (walk p) absent) (again p e' f'))

    -- it stays among the scopes
    module _ (count : ℕ) (exist : (k : ℕ) → IfSome (g k) (λ p. p < count)) where
      walk_below : (m k q : ℕ) → k < count → ends_within g m k ≡ true → ends_within g most k ≡ true → list_any (nat_eq q) (walk k) ≡ true → q < count
      walk_below zero k q below e f there = absurd (never k e)
      walk_below (suc m) k q below e f there = by (g k) refl (exist k) (λ p l e' f' h. walk_below m p q l e' f' h)
        where
          at : (outer : List ℕ) → walk k ≡ k ∷ outer → (list_any (nat_eq q) outer ≡ true → q < count) → q < count
          at outer is rest = head (nat_eq q k) refl (sym (ap (list_any (nat_eq q)) is) ∙ there)
            where
              head : (b : Bool) → nat_eq q k ≡ b → b || list_any (nat_eq q) outer ≡ true → q < count
              head true same h = omega (arith, eqb-true q k same, below)
              head false same h = rest h

          by : (o : Option ℕ) → g k ≡ o → IfSome o (λ p. p < count)
              → ((p : ℕ) → p < count → ends_within g m p ≡ true → ends_within g most p ≡ true → list_any (nat_eq q) (walk p) ≡ true → q < count) → q < count
          by None is none again = at [] (end_within g most k is f) (λ h. absurd (cc))
          by (Some p) is l again = at (walk p) (step_within g most k p is f) (λ h. again p l (goes_on m k p is e) (goes_on_within most k p is f) h)

      walk_ends : (m k : ℕ) → ends_within g m k ≡ true → ends_within g most k ≡ true → ends_within g (length (walk k)) k ≡ true
      walk_ends zero k e f = absurd (never k e)
      walk_ends (suc m) k e f = by (g k) refl (λ p e' f'. walk_ends m p e' f')
        where
          by : (o : Option ℕ) → g k ≡ o → ((p : ℕ) → ends_within g m p ≡ true → ends_within g most p ≡ true → ends_within g (length (walk p)) p ≡ true) → ends_within g (length (walk k)) k ≡ true
          by None is again = subst (λ (xs : List ℕ). ends_within g (length xs) k ≡ true) (sym (end_within g most k is f)) (one k 0 None is refl)
          by (Some p) is again =
              subst (λ (xs : List ℕ). ends_within g (length xs) k ≡ true) (sym (step_within g most k p is f))
              (one k (length (walk p)) (Some p) is (again p (goes_on m k p is e) (goes_on_within most k p is f)))

      -- so it ends within as many steps as there are scopes
      pub ends_in_time : (k : ℕ) → k < count → ends_within g most k ≡ true → ends_within g count k ≡ true
      ends_in_time k below ends =
          let short : length (walk k) ≤ count = length-le_from_distinct_below (walk k) count (walk_distinct most k ends ends) (λ q there. walk_below most k q below ends ends there) in
          ends_within-le (length (walk k)) count k short (walk_ends most k ends ends)
