-- Lists that are compared pair by pair, from one place on.
use Rattle.std.proofs.Common.{◌≡◌, ℕ, zero, suc, ◌+◌, ◌<◌, ◌≤◌, ◌&&◌, List, [], ◌∷◌, Bool, true, false, length, drop, map, slice_index_or, refl, sym, ap, ◌∙◌, arith}
use Rattle.std.specs.Cmp.Lexicographic.{pointwise}
use Rattle.std.proofs.Math.ListN.{drop_of_length-le}

more : (i : ℕ) → suc (i + 1) ≡ suc i + 1
more i = omega arith

module _ {A B : Type 0} (test : A → B → Bool) where
  -- the pair at a place, and those after it
  pub pair_here : (xs : List A) (ys : List B) (i : ℕ) (d : A) (e : B) → i < length xs → i < length ys
      → pointwise test (drop i xs) (drop i ys) ≡ (test (slice_index_or xs i d) (slice_index_or ys i e) && pointwise test (drop (i + 1) xs) (drop (i + 1) ys))
  pair_here [] ys i d e h k = absurd (omega arith)
  pair_here (x ∷ xs) [] i d e h k = absurd (omega arith)
  pair_here (x ∷ xs) (y ∷ ys) zero d e h k = refl
  pair_here (x ∷ xs) (y ∷ ys) (suc i) d e h k =
      pair_here xs ys i d e (omega arith) (omega arith)
      ∙ ap (λ n. test (slice_index_or xs i d) (slice_index_or ys i e) && pointwise test (drop n (x ∷ xs)) (drop n (y ∷ ys))) (more i)

  -- an equal pair leaves the others to be compared
  pub pair_passes : (xs : List A) (ys : List B) (i : ℕ) (d : A) (e : B) (whole : Bool) → i < length xs → i < length ys → test (slice_index_or xs i d) (slice_index_or ys i e) ≡ true
      → pointwise test (drop i xs) (drop i ys) ≡ whole → pointwise test (drop (i + 1) xs) (drop (i + 1) ys) ≡ whole
  pair_passes xs ys i d e whole h k same rest =
      sym (pair_here xs ys i d e h k ∙ ap (λ b. b && pointwise test (drop (i + 1) xs) (drop (i + 1) ys)) same) ∙ rest

  -- a pair that isn't equal decides
  pub pair_fails : (xs : List A) (ys : List B) (i : ℕ) (d : A) (e : B) (whole : Bool) → i < length xs → i < length ys → test (slice_index_or xs i d) (slice_index_or ys i e) ≡ false
      → pointwise test (drop i xs) (drop i ys) ≡ whole → false ≡ whole
  pair_fails xs ys i d e whole h k other rest =
      sym (pair_here xs ys i d e h k ∙ ap (λ b. b && pointwise test (drop (i + 1) xs) (drop (i + 1) ys)) other) ∙ rest

  -- at the end of both nothing is left
  pub pairs_end : (xs : List A) (ys : List B) (i : ℕ) (whole : Bool) → length xs ≤ i → length ys ≤ i → pointwise test (drop i xs) (drop i ys) ≡ whole → true ≡ whole
  pairs_end xs ys i whole h k rest = sym (λ j. pointwise test (drop_of_length-le xs h j) (drop_of_length-le ys k j)) ∙ rest

-- what stands at a place of a mapped list
pub mapped_at : {A B : Type 0} (f : A → B) (xs : List A) (i : ℕ) (d : A) → slice_index_or (map f xs) i (f d) ≡ f (slice_index_or xs i d)
mapped_at f [] i d = refl
mapped_at f (x ∷ xs) zero d = refl
mapped_at f (x ∷ xs) (suc i) d = mapped_at f xs i d

pub mapped_long : {A B : Type 0} (f : A → B) (xs : List A) → length (map f xs) ≡ length xs
mapped_long f [] = refl
mapped_long f (x ∷ xs) = ap (λ n. suc n) (mapped_long f xs)
