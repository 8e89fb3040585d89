-- What holds of each entry, as entries come and go.
use Rattle.std.proofs.Common.{ℕ, zero, suc, Bool, true, false, cond, if◌then◌else◌, List, [], ◌∷◌, ◌++◌, length, take, position, swap_remove, ◌-◌, Option, None, Some, arith}
use Rattle.std.specs.List.{AllByRecursion}
use Rattle.indexmap.specs.IndexMap.{insert_entry, shift_remove_entry, swap_remove_by}
use Rattle.std.specs.Option.{option_map_or}
use Rattle.semantic_syntax.proofs.Every.{every-set, every-at}

module _ {K X : Type 0} (P : K × X → Type 0) where
  pub every-insert : (eq : K → K → Bool) (k : K) (v : X) → P (k, v) → (es : List (K × X)) → ((e : K × X) → P e → P (e.0, v)) → AllByRecursion P es → AllByRecursion P (insert_entry eq es k v)
  every-insert eq k v p [] again h = (p, tt)
  every-insert eq k v p (e ∷ es) again h = by (eq k e.0) (every-insert eq k v p es again h.1)
    where
      by : (b : Bool) → AllByRecursion P (insert_entry eq es k v) → AllByRecursion P (if b then (e.0, v) ∷ es else e ∷ insert_entry eq es k v)
      by true rest = (again e h.0, h.1)
      by false rest = (h.0, rest)

  pub every-remove : (test : K → Bool) (es : List (K × X)) → AllByRecursion P es → AllByRecursion P (shift_remove_entry test es)
  every-remove test [] h = tt
  every-remove test (e ∷ es) h = by (test e.0) (every-remove test es h.1)
    where
      by : (b : Bool) → AllByRecursion P (shift_remove_entry test es) → AllByRecursion P (cond b es (e ∷ shift_remove_entry test es))
      by true rest = h.1
      by false rest = (h.0, rest)

-- what holds of all holds of those in front
pub every-front : {X : Type 0} (P : X → Type 0) (xs ys : List X) → AllByRecursion P (xs ++ ys) → AllByRecursion P xs
every-front P [] ys h = tt
every-front P (x ∷ xs) ys h = (h.0, every-front P xs ys h.1)

-- what the last element's move into a place leaves
module _ {X : Type 0} (P : X → Type 0) where
  every-take : (n : ℕ) (xs : List X) → AllByRecursion P xs → AllByRecursion P (take n xs)
  every-take zero [] h = tt
  every-take (suc n) [] h = tt
  every-take zero (x ∷ xs) h = tt
  every-take (suc n) (x ∷ xs) h = (h.0, every-take n xs h.1)

  pub every-swapped : (test : X → Bool) (xs : List X) → AllByRecursion P xs → AllByRecursion P (swap_remove_by test xs)
  every-swapped test [] h = h
  every-swapped test (x ∷ xs) h = by (position test (x ∷ xs))
    where
      by : (o : Option ℕ) → AllByRecursion P (option_map_or (λ i. swap_remove (x ∷ xs) i x) o (x ∷ xs))
      by None = h
      by (Some i) = every-take (length (x ∷ xs) - 1) _ (every-set P _ (x ∷ xs) i h (every-at P x (x ∷ xs) (length (x ∷ xs) - 1) h (omega arith)))
