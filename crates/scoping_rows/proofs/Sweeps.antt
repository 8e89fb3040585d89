-- Lists that are changed one after the other.
use Rattle.std.proofs.Common.{◌≡◌, ℕ, ◌<◌, ◌≤◌, ◌+◌, ◌++◌, ◌==◌, Bool, true, false, List, [], ◌∷◌, take, drop, length, get_or, map, refl, sym, ap, subst, ◌∙◌, arith}
use Rattle.smallvec.specs.SmallVec.{SmallVec}
use Rattle.std.proofs.Math.ListN.{set}
use Rattle.std.proofs.lemmas.List.{ext_get_or, length-set, get_or-set_same, get_or-set_other, get_or-map, length-map, map-set, drop_all}
use Rattle.std.proofs.lemmas.Bool.{eqb-true, eqb-false}
use Rattle.scoping_rows.proofs.Rows.{rows}

module _ {X : Type 0} (f : ℕ → List X → List X) where
  -- the lists below i are changed, and the others are as they were
  pub record IsSwept (was now : List (List X)) (i : ℕ) : Type 0 where
    pub count : length now ≡ length was
    pub done : (k : ℕ) → k < i → k < length was → get_or now k [] ≡ f k (get_or was k [])
    pub left : (k : ℕ) → i ≤ k → get_or now k [] ≡ get_or was k []

  pub swept_none : (was : List (List X)) → IsSwept was was 0
  swept_none was = record { count = refl; done = λ k l b. absurd (omega arith); left = λ k l. refl }

  pub swept_more : (was now : List (List X)) (i : ℕ) (x : List X) → i < length was → x ≡ f i (get_or now i []) → IsSwept was now i → IsSwept was (set now i x) (i + 1)
  swept_more was now i x within is swept = record {
    count = length-set now i x ∙ swept.count;
    done = λ k l b. done_at k l b (k == i) refl;
    left = λ k l. get_or-set_other now i k x [] (λ same. omega arith) ∙ swept.left k (omega arith);
  }
    where
      done_at : (k : ℕ) → k < i + 1 → k < length was → (b : Bool) → (k == i) ≡ b → get_or (set now i x) k [] ≡ f k (get_or was k [])
      done_at k l b true e =
          let here : k ≡ i = eqb-true k i e in
          subst (λ j. get_or (set now i x) j [] ≡ f j (get_or was j [])) (sym here)
          (get_or-set_same now i x [] (omega (arith, swept.count)) ∙ is ∙ ap (f i) (swept.left i (omega arith)))
      done_at k l b false e =
          let apart = eqb-false k i e in
          get_or-set_other now i k x [] (λ same. apart same) ∙ swept.done k (omega arith) b

pub swept_map : {X : Type 0} (g : List X → List X) (was now : List (List X)) (i : ℕ) → length was ≤ i → IsSwept (λ _. g) was now i → now ≡ map g was
swept_map g was now i past swept =
    ext_get_or [] now (map g was) (swept.count ∙ sym (length-map was g)) (λ k below.
    let small : k < length was = omega (arith, swept.count) in
    swept.done k (omega arith) small ∙ sym (get_or-map g was k [] [] small))

-- what is written back of a list of the same length
pub whole : {X : Type 0} (n : ℕ) (xs now : List X) → n ≡ length xs → length now ≡ length xs → take n (now ++ drop (length now) xs) ≡ now
whole {X = X} n xs now count same = rw (drop_all (length now) xs (omega arith), append_nil, count, ← same) (take_all now)
  where
    append_nil : (ys : List X) → ys ++ [] ≡ ys
    append_nil [] = refl
    append_nil (y ∷ ys) = ap (λ t. y ∷ t) (append_nil ys)

    take_all : (ys : List X) → take (length ys) ys ≡ ys
    take_all [] = refl
    take_all (y ∷ ys) = ap (λ t. y ∷ t) (take_all ys)

-- vectors that are changed one after the other
module _ {X : Type 0} (g : List X → List X) where
  pub swept_row : (was : List (List X)) (now : List (SmallVec X)) (i : ℕ) (past row : SmallVec X) → i < length now → row.items ≡ g (get_or now i past).items → IsSwept (λ _. g) was (rows now) i
      → IsSwept (λ _. g) was (rows (set now i row)) (i + 1)
  swept_row was now i past row within is swept =
      rw map-set
      (swept_more (λ _. g) was (rows now) i row.items (omega (arith, within, length-map now (λ v. v.items), swept.count))
      (is ∙ ap g (sym (get_or-map (λ v. v.items) now i past [] within))) swept)

  -- and all of them are written back
  pub swept_rows : (was lent now : List (SmallVec X)) (n i : ℕ) → lent ≡ was → n ≡ length was → length now ≡ length was → length was ≤ i → IsSwept (λ _. g) (rows lent) (rows now) i
      → rows (take n (now ++ drop (length now) was)) ≡ map g (rows was)
  swept_rows was lent now n i is count same past swept =
      ap rows (whole n was now count same)
      ∙ swept_map g (rows was) (rows now) i (omega (arith, length-map was (λ v. v.items), past)) (subst (λ vs. IsSwept (λ _. g) (rows vs) (rows now) i) is swept)
