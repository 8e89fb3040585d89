-- Entries of maps, with their values changed by a function.
use Rattle.std.proofs.Common.{◌≡◌, ℕ, ◌<◌, Bool, true, false, cond, if◌then◌else◌, List, [], ◌∷◌, Some, map, option_map, refl, sym, ap, ◌∙◌}
use Rattle.std.specs.Map.{lookup, set_value, values_of}
use Rattle.std.specs.List.{AllByRecursion}
use Rattle.indexmap.specs.IndexMap.{insert_entry}

module _ {K X Y : Type 0} (f : X → Y) where
  abbrev pub by_value : List (K × X) → List (K × Y)
  by_value es = map (λ e. (e.0, f e.1)) es

  pub lookup-by_value : (test : K → Bool) (es : List (K × X)) → lookup test (by_value es) ≡ option_map f (lookup test es)
  lookup-by_value test [] = refl
  lookup-by_value test (e ∷ es) = by (test e.0) (lookup-by_value test es)
    where
      by : (b : Bool) → lookup test (by_value es) ≡ option_map f (lookup test es)
          → cond b (Some (f e.1)) (lookup test (by_value es)) ≡ option_map f (cond b (Some e.1) (lookup test es))
      by true rest = refl
      by false rest = rest

  pub insert-by_value : (eq : K → K → Bool) (es : List (K × X)) (k : K) (v : X) → by_value (insert_entry eq es k v) ≡ insert_entry eq (by_value es) k (f v)
  insert-by_value eq [] k v = refl
  insert-by_value eq (e ∷ es) k v = by (eq k e.0) (insert-by_value eq es k v)
    where
      by : (b : Bool) → by_value (insert_entry eq es k v) ≡ insert_entry eq (by_value es) k (f v)
          → by_value (if b then (e.0, v) ∷ es else e ∷ insert_entry eq es k v) ≡ (if b then (e.0, f v) ∷ by_value es else (e.0, f e.1) ∷ insert_entry eq (by_value es) k (f v))
      by true rest = refl
      by false rest = ap (λ t. (e.0, f e.1) ∷ t) rest

  -- a value that f does not tell from the one that was there
  pub set_value-kept : (test : K → Bool) (was now : X) → f now ≡ f was → (es : List (K × X)) → lookup test es ≡ Some was → by_value (set_value test es now) ≡ by_value es
  set_value-kept test was now kept [] there = refl
  set_value-kept test was now kept (e ∷ es) there = by (test e.0) there (set_value-kept test was now kept es)
    where
      by : (b : Bool) → cond b (Some e.1) (lookup test es) ≡ Some was → (lookup test es ≡ Some was → by_value (set_value test es now) ≡ by_value es)
          → by_value (cond b ((e.0, now) ∷ es) (e ∷ set_value test es now)) ≡ (e.0, f e.1) ∷ by_value es
      by true h rest = let same : e.1 ≡ was = cc in ap (λ y. (e.0, y) ∷ by_value es) (kept ∙ ap f (sym same))
      by false h rest = ap (λ t. (e.0, f e.1) ∷ t) (rest h)

module _ {X Y : Type 0} (f : X → Y) where
  pub values-by_value : (es : List (ℕ × X)) → values_of (by_value f es) ≡ map (λ e. f e.1) es
  values-by_value [] = refl
  values-by_value (e ∷ es) = ap (λ t. f e.1 ∷ t) (values-by_value es)

  pub known-by_value : (count : ℕ) (es : List (ℕ × X)) → AllByRecursion (λ e. e.0 < count) (by_value f es) → AllByRecursion (λ e. e.0 < count) es
  known-by_value count [] h = tt
  known-by_value count (e ∷ es) h = (h.0, known-by_value count es h.1)

-- where a key is there, a write of its value is an insertion
pub set_value-inserts : {K X : Type 0} (eq : K → K → Bool) (k : K) (was now : X) (es : List (K × X)) → lookup (eq k) es ≡ Some was → set_value (eq k) es now ≡ insert_entry eq es k now
set_value-inserts eq k was now [] there = absurd (cc)
set_value-inserts eq k was now (e ∷ es) there = by (eq k e.0) there (set_value-inserts eq k was now es)
  where
    by : (b : Bool) → cond b (Some e.1) (lookup (eq k) es) ≡ Some was → (lookup (eq k) es ≡ Some was → set_value (eq k) es now ≡ insert_entry eq es k now)
        → cond b ((e.0, now) ∷ es) (e ∷ set_value (eq k) es now) ≡ (if b then (e.0, now) ∷ es else e ∷ insert_entry eq es k now)
    by true h rest = refl
    by false h rest = ap (λ t. e ∷ t) (rest h)
