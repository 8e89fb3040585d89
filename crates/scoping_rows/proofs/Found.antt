-- Places of entries in lists.
use Rattle.std.proofs.Common.{◌≡◌, ℕ, ◌+◌, Bool, true, false, cond, if◌then◌else◌, List, [], ◌∷◌, None, Some, option_map, position, swap_remove, take, ◌-◌, length, arith, refl, sym, ap, ◌∙◌}
use Rattle.std.specs.List.{position_from}
use Rattle.std.proofs.lemmas.Iterator.Adapters.{position_from-zero}
use Rattle.std.proofs.Math.ListN.{set}
use Rattle.std.proofs.lemmas.List.{get_or_default}
use Rattle.indexmap.specs.IndexMap.{swap_remove_by}
use Rattle.itertools.specs.Consumer.{find_at}

first_from : (h : ℕ → Bool) (i : ℕ) (xs : List ℕ) → option_map (λ p. p.0) (find_at h i xs) ≡ position_from h i xs
first_from h i [] = refl
first_from h i (x ∷ xs) = by (h x) (first_from h (i + 1) xs)
  where
    by : (b : Bool) → option_map (λ p. p.0) (find_at h (i + 1) xs) ≡ position_from h (i + 1) xs
        → option_map (λ p. p.0) (if b then Some (i, x) else find_at h (i + 1) xs) ≡ cond b (Some i) (position_from h (i + 1) xs)
    by true rest = refl
    by false rest = rest

-- the place that was found is the first
pub first_found : (h : ℕ → Bool) (xs : List ℕ) → option_map (λ p. p.0) (find_at h 0 xs) ≡ position h xs
first_found h xs = first_from h 0 xs ∙ sym (position_from-zero h xs)

-- what stood at the first place goes, and the last one takes its place
pub swapped_at : (test : ℕ → Bool) (d : ℕ) (xs : List ℕ) (i : ℕ) → position test xs ≡ Some i → swap_remove xs i d ≡ swap_remove_by test xs
swapped_at test d [] i found = absurd (cc)
swapped_at test d (x ∷ xs) i found = rw found (ap (λ e. take (length (x ∷ xs) - 1) (set (x ∷ xs) i e)) (get_or_default (x ∷ xs) (length (x ∷ xs) - 1) d x (omega arith)))

pub swapped_none : (test : ℕ → Bool) (xs : List ℕ) → position test xs ≡ None → swap_remove_by test xs ≡ xs
swapped_none test [] none = refl
swapped_none test (x ∷ xs) none = rw none refl
