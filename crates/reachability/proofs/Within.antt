-- Rows of pairs whose numbers are below a bound.
use Rattle.std.proofs.Common.{◌≡◌, ◌<◌, inl, inr, ℕ, suc, List, [], ◌∷◌, ◌++◌, refl, ◌∙◌, length, All, Vec, replicate, length-set}
use Rattle.std.proofs.lemmas.List.{length-replicate}
use Rattle.std.proofs.lemmas.List.Elements.{All-nil, All-cons, All-head, All-tail, All-map}
use Rattle.std.specs.declared.alloc.Global.{Global}
use Rattle.reachability.specs.Rows.{Among, row, lists, with_pair, with_pairs, rows_from_pairs, AreWithin}
use Rattle.reachability.proofs.Lists.{all_among}
use Rattle.reachability.proofs.Pairs.{rows_have_only}

pub all_from : {A : Type 0} (P : A → Type 0) (xs : List A) → ((x : A) → Among x xs → P x) → All P xs
all_from P [] h = All-nil P
all_from P (x ∷ xs) h = All-cons P x xs (h x (inl refl)) (all_from P xs (λ y i. h y (inr i)))

pub within_by_rows : (n : ℕ) (rows : List (List ℕ)) → ((a : ℕ) → All (λ b. b < n) (row rows a)) → AreWithin n rows
within_by_rows n [] h = All-nil (All (λ b. b < n))
within_by_rows n (r ∷ rows) h = All-cons (All (λ b. b < n)) r rows (h 0) (within_by_rows n rows (λ a. h (suc a)))

length_made : (rs : List (List ℕ)) (pairs : List (ℕ × ℕ)) → length (with_pairs rs pairs) ≡ length rs
length_made rs [] = refl
length_made rs (pair ∷ pairs) = length_made (with_pair rs pair) pairs ∙ length-set rs pair.0 (row rs pair.0 ++ pair.1 ∷ [])

pub length_rows_of : (n : ℕ) (pairs : List (ℕ × ℕ)) → length (rows_from_pairs n pairs) ≡ n
length_rows_of n pairs = length_made (replicate n []) pairs ∙ length-replicate n []

pub rows_of_within : (n m : ℕ) (pairs : List (ℕ × ℕ)) → All (λ p. p.0 < n) pairs → All (λ p. p.1 < m) pairs → AreWithin m (rows_from_pairs n pairs)
rows_of_within n m pairs h k =
    within_by_rows m (rows_from_pairs n pairs) (λ a. all_from (λ b. b < m) (row (rows_from_pairs n pairs) a)
    (λ b i. all_among (λ p. p.1 < m) pairs (a, b) k (rows_have_only n pairs a b h i)))

pub lists_within : (n : ℕ) (vs : List (Vec ℕ Global)) → All (λ v. All (λ a. a < n) v.items) vs → AreWithin n (lists vs)
lists_within n vs h = All-map (All (λ a. a < n)) (λ v. v.items) vs h

pub vectors_within : (n : ℕ) (vs : List (Vec ℕ Global)) → AreWithin n (lists vs) → All (λ v. All (λ a. a < n) v.items) vs
vectors_within n [] h = All-nil (λ v. All (λ a. a < n) v.items)
vectors_within n (v ∷ vs) h =
    All-cons (λ w. All (λ a. a < n) w.items) v vs (All-head (All (λ a. a < n)) v.items (lists vs) h)
    (vectors_within n vs (All-tail (All (λ a. a < n)) v.items (lists vs) h))
