-- What is kept of lists by the entries of a map, as some are dropped.
use Rattle.std.proofs.Common.{◌≡◌, ℕ, ◌<◌, nat_eq, Bool, true, false, cond, List, [], ◌∷◌, None, Some, length, map, filter, refl, ap, subst, ◌∙◌, arith}
use Rattle.std.specs.Map.{lookup, set_value}
use Rattle.std.specs.Map.Calls.{RetainsPairs}
use Rattle.indexmap.specs.IndexMap.{shift_remove_entry, swap_remove_by}
use Rattle.scoping_rows.specs.Kept.{relisted, delisted}
use Rattle.scoping_rows.proofs.Entries.{by_value}

-- a closure that writes to each value and then tests it, and stays as it was
module _ {F K V Y : Type 0} (T : F → K → V → Bool → V → F → Type 0) (shown : V → Y) (g : Y → Y) (test : Y → Bool) (f : F)
    (h : (k : K) (v : V) (b : Bool) (w : V) (f' : F) → T f k v b w f' → (b ≡ test (shown w)) × (shown w ≡ g (shown v)) × (f' ≡ f)) where
  pub kept_changed : (es kept : List (K × V)) → RetainsPairs T f es kept → by_value shown kept ≡ filter (λ e. test e.1) (map (λ e. (e.0, g e.1)) (by_value shown es))
  kept_changed [] kept r = ap (by_value shown) r
  kept_changed (e ∷ es) kept r =
      let s = h e.0 e.1 r.0 r.1 r.2 r.4 in
      let rest = kept_changed es r.3 (subst (λ q. RetainsPairs T q es r.3) s.2 r.5) in
      ap (by_value shown) r.6 ∙ by r.0 s.0 s.1 rest
    where
      kept_es : List (K × Y)
      kept_es = filter (λ d. test d.1) (map (λ d. (d.0, g d.1)) (by_value shown es))

      by : (b : Bool) → b ≡ test (shown r.1) → shown r.1 ≡ g (shown e.1) → by_value shown r.3 ≡ kept_es
          → by_value shown (cond b ((e.0, r.1) ∷ r.3) r.3) ≡ cond (test (g (shown e.1))) ((e.0, g (shown e.1)) ∷ kept_es) kept_es
      by true is same rest =
          subst (λ z. (e.0, shown r.1) ∷ by_value shown r.3 ≡ cond (test z) ((e.0, z) ∷ kept_es) kept_es) same
          (rw (← is) (ap (λ t. (e.0, shown r.1) ∷ t) rest))
      by false is same rest =
          subst (λ z. by_value shown r.3 ≡ cond (test z) ((e.0, z) ∷ kept_es) kept_es) same
          (rw (← is) rest)

-- entries with their values changed by a function
module _ {K X Y : Type 0} (f : X → Y) (test : K → Bool) where
  pub set_value-by_value : (es : List (K × X)) (v : X) → by_value f (set_value test es v) ≡ set_value test (by_value f es) (f v)
  set_value-by_value [] v = refl
  set_value-by_value (e ∷ es) v = by (test e.0) (set_value-by_value es v)
    where
      by : (b : Bool) → by_value f (set_value test es v) ≡ set_value test (by_value f es) (f v)
          → by_value f (cond b ((e.0, v) ∷ es) (e ∷ set_value test es v)) ≡ cond b ((e.0, f v) ∷ by_value f es) ((e.0, f e.1) ∷ set_value test (by_value f es) (f v))
      by true rest = refl
      by false rest = ap (λ t. (e.0, f e.1) ∷ t) rest

  pub remove-by_value : (es : List (K × X)) → by_value f (shift_remove_entry test es) ≡ shift_remove_entry test (by_value f es)
  remove-by_value [] = refl
  remove-by_value (e ∷ es) = by (test e.0) (remove-by_value es)
    where
      by : (b : Bool) → by_value f (shift_remove_entry test es) ≡ shift_remove_entry test (by_value f es)
          → by_value f (cond b es (e ∷ shift_remove_entry test es)) ≡ cond b (by_value f es) ((e.0, f e.1) ∷ shift_remove_entry test (by_value f es))
      by true rest = refl
      by false rest = ap (λ t. (e.0, f e.1) ∷ t) rest

-- a removal after a write of the value
pub remove-set_value : {K X : Type 0} (test : K → Bool) (v : X) (es : List (K × X)) → shift_remove_entry test (set_value test es v) ≡ shift_remove_entry test es
remove-set_value test v [] = refl
remove-set_value test v (e ∷ es) = by (test e.0) refl (remove-set_value test v es)
  where
    by : (b : Bool) → test e.0 ≡ b → shift_remove_entry test (set_value test es v) ≡ shift_remove_entry test es
        → shift_remove_entry test (cond b ((e.0, v) ∷ es) (e ∷ set_value test es v)) ≡ cond b es (e ∷ shift_remove_entry test es)
    by true is rest = rw is refl
    by false is rest = rw (is, rest) refl

-- lists of references, as one reference goes
module _ {K : Type 0} (test : K → Bool) (r : ℕ) (es : List (K × List ℕ)) where
  pub delisted_none : lookup test es ≡ None → delisted test r es ≡ es
  delisted_none none = rw none refl

  relisted_empty : (rs : List ℕ) → length rs ≡ 0 → relisted test es rs ≡ shift_remove_entry test es
  relisted_empty [] h = refl
  relisted_empty (x ∷ xs) h = absurd (omega arith)

  relisted_more : (rs : List ℕ) → 0 < length rs → relisted test es rs ≡ set_value test es rs
  relisted_more [] h = absurd (omega arith)
  relisted_more (x ∷ xs) h = refl

  module _ (was : List ℕ) (there : lookup test es ≡ Some was) where
    pub delisted_empty : length (swap_remove_by (nat_eq r) was) ≡ 0 → delisted test r es ≡ shift_remove_entry test es
    delisted_empty none = rw there (relisted_empty (swap_remove_by (nat_eq r) was) none)

    pub delisted_more : 0 < length (swap_remove_by (nat_eq r) was) → delisted test r es ≡ set_value test es (swap_remove_by (nat_eq r) was)
    delisted_more some = rw there (relisted_more (swap_remove_by (nat_eq r) was) some)
