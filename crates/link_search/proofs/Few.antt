-- Distinct pairs of numbers below two bounds are no more than the product.
use Rattle.std.proofs.Common.{◌≡◌, ◌<◌, ◌≤◌, ◌+◌, ◌*◌, ◌⊎◌, inl, inr, ℕ, zero, suc, ◌==◌, List, [], ◌∷◌, ◌++◌, Bool, true, false, ◌&&◌, ◌||◌, cond, refl, sym, ap, subst, ◌∙◌, map, length, All, arith, eq-eqb}
use Rattle.std.specs.List.{list_any}
use Rattle.std.proofs.Math.Nat.{suc-mul}
use Rattle.std.proofs.lemmas.List.{length-map}
use Rattle.std.proofs.lemmas.List.Elements.{All-nil, All-cons}
use Rattle.reachability.specs.Rows.{Among, AreDistinct}
use Rattle.reachability.proofs.Distinct.{few_distinct}
use Rattle.reachability.proofs.Lists.{among_either}
use Rattle.link_search.specs.Numbering.{Pair, same_pair, with_pair, ArePairsWithin, AreDistinctPairs}

abbrev code : ℕ → Pair → ℕ
code n p = p.0 * n + p.1

-- the code tells the pair
code_tells : (n a b c d : ℕ) → b < n → d < n → a * n + b ≡ c * n + d → (a ≡ c) × (b ≡ d)
code_tells n zero b zero d h k e = (refl, (let f : 0 * n + b ≡ 0 * n + d = e in omega (arith, f)))
code_tells n zero b (suc c) d h k e = let f : suc c * n ≡ c * n + n = suc-mul c n in let g : 0 * n + b ≡ suc c * n + d = e in absurd (omega (arith, f, g, h))
code_tells n (suc a) b zero d h k e = let f : suc a * n ≡ a * n + n = suc-mul a n in let g : suc a * n + b ≡ 0 * n + d = e in absurd (omega (arith, f, g, k))
code_tells n (suc a) b (suc c) d h k e =
    let f : suc a * n ≡ a * n + n = suc-mul a n in
    let g : suc c * n ≡ c * n + n = suc-mul c n in
    let i : a * n + b ≡ c * n + d = omega (arith, f, g, e) in
    let r : (a ≡ c) × (b ≡ d) = code_tells n a b c d h k i in
    (ap suc r.0, r.1)

code_below : (m n a b : ℕ) → a < m → b < n → a * n + b < m * n
code_below zero n a b h k = absurd (omega (arith, h))
code_below (suc m) n zero b h k = let f : suc m * n ≡ m * n + n = suc-mul m n in omega (arith, f, k)
code_below (suc m) n (suc a) b h k =
    let f : suc m * n ≡ m * n + n = suc-mul m n in
    let g : suc a * n ≡ a * n + n = suc-mul a n in
    let i : a * n + b < m * n = code_below m n a b (omega (arith, h)) k in
    omega (arith, f, g, i)

module _ (m n : ℕ) where
  codes_within : (ps : List Pair) → ArePairsWithin m n ps → All (λ x. x < m * n) (map (code n) ps)
  codes_within [] w = All-nil (λ x. x < m * n)
  codes_within (p ∷ ps) w = All-cons (λ x. x < m * n) (code n p) (map (code n) ps) (code_below m n p.0 p.1 w.0 w.1) (codes_within ps w.2)

  coded_among : (p : Pair) (ps : List Pair) → p.0 < m → p.1 < n → ArePairsWithin m n ps → Among (code n p) (map (code n) ps) → Among p ps
  coded_among p [] h k w i = absurd i
  coded_among p (q ∷ ps) h k w (inl e) = inl (let r : (q.0 ≡ p.0) × (q.1 ≡ p.1) = code_tells n q.0 q.1 p.0 p.1 w.1 k e in λ j. (r.0 j, r.1 j))
  coded_among p (q ∷ ps) h k w (inr i) = inr (coded_among p ps h k w.2 i)

  codes_distinct : (ps : List Pair) → ArePairsWithin m n ps → AreDistinctPairs ps → AreDistinct (map (code n) ps)
  codes_distinct [] w d = tt
  codes_distinct (p ∷ ps) w d = ((λ i. d.0 (coded_among p ps w.0 w.1 w.2 i)), codes_distinct ps w.2 d.1)

  pub few_pairs : (ps : List Pair) → ArePairsWithin m n ps → AreDistinctPairs ps → length ps ≤ m * n
  few_pairs ps w d = subst (λ k. k ≤ m * n) (length-map ps (code n)) (few_distinct (m * n) (map (code n) ps) (codes_within ps w) (codes_distinct ps w d))

itself_same : (p : Pair) → same_pair p p ≡ true
itself_same p = ap (λ b. b && (p.1 == p.1)) (eq-eqb p.0 p.0 refl) ∙ eq-eqb p.1 p.1 refl

not_there : (p : Pair) (ps : List Pair) → list_any (same_pair p) ps ≡ false → Among p ps → ⊥
not_there p [] e i = absurd i
not_there p (q ∷ ps) e i = go (same_pair p q) refl e i (λ f j. not_there p ps f j)
  where
    differ : true ≡ false → ⊥
    differ f = absurd cc

    go : (b : Bool) → same_pair p q ≡ b → (b || list_any (same_pair p) ps) ≡ false → Among p (q ∷ ps) → (list_any (same_pair p) ps ≡ false → Among p ps → ⊥) → ⊥
    go true s e i more = differ e
    go false s e (inl same) more = differ (sym (subst (λ r. same_pair p r ≡ true) (sym same) (itself_same p)) ∙ s)
    go false s e (inr j) more = more e j

distinct_push : (ps : List Pair) (p : Pair) → AreDistinctPairs ps → (Among p ps → ⊥) → AreDistinctPairs (ps ++ p ∷ [])
distinct_push [] p d h = ((λ i. i), tt)
distinct_push (q ∷ ps) p d h = ((λ i. apart (among_either q ps (p ∷ []) i)), distinct_push ps p d.1 (λ i. h (inr i)))
  where
    apart : Among q ps ⊎ Among q (p ∷ []) → ⊥
    apart (inl i) = d.0 i
    apart (inr (inl same)) = h (inl (sym same))
    apart (inr (inr none)) = none

pub stay_distinct : (ps : List Pair) (p : Pair) → AreDistinctPairs ps → AreDistinctPairs (with_pair ps p)
stay_distinct ps p d = go (list_any (same_pair p) ps) refl
  where
    go : (b : Bool) → list_any (same_pair p) ps ≡ b → AreDistinctPairs (cond b ps (ps ++ p ∷ []))
    go true e = d
    go false e = distinct_push ps p d (not_there p ps e)
