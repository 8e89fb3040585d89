-- What is kept of lists, as references go.
use Rattle.std.proofs.Common.{◌≡◌, ℕ, ◌<◌, ◌==◌, nat_eq, Bool, true, false, cond, List, [], ◌∷◌, Option, None, Some, length, map, filter, refl}
use Rattle.std.specs.List.{AllByRecursion}
use Rattle.std.specs.Option.{option_map_or}
use Rattle.std.specs.Map.{lookup, set_value}
use Rattle.std.specs.Str.{bytes_eq}
use Rattle.indexmap.specs.IndexMap.{swap_remove_by}
use Rattle.semantic_syntax.specs.Tables.{Name}
use Rattle.scoping_rows.specs.Names.{name_at, named, IsUnknown, IsNumberOf}
use Rattle.scoping.specs.View.{IsListedWithin}
use Rattle.scoping_rows.specs.Kept.{relisted, delisted}
use Rattle.scoping_rows.proofs.Keeping.{delisted_none}
use Rattle.scoping.proofs.Every.{every-remove, every-swapped}
use Rattle.scoping.proofs.Named.{AreKnown, lookup-unknown, lookup-named, remove-named}

-- what holds of each holds of each that is kept
module _ {X : Type 0} (P : X → Type 0) where
  pub every-filter : (test : X → Bool) (xs : List X) → AllByRecursion P xs → AllByRecursion P (filter test xs)
  every-filter test [] h = tt
  every-filter test (x ∷ xs) h = by (test x) (every-filter test xs h.1)
    where
      by : (b : Bool) → AllByRecursion P (filter test xs) → AllByRecursion P (cond b (x ∷ filter test xs) (filter test xs))
      by true rest = (h.0, rest)
      by false rest = rest

  pub every-map : {Y : Type 0} (Q : Y → Type 0) (f : Y → X) → ((y : Y) → Q y → P (f y)) → (ys : List Y) → AllByRecursion Q ys → AllByRecursion P (map f ys)
  every-map Q f more [] h = tt
  every-map Q f more (y ∷ ys) h = (more y h.0, every-map Q f more ys h.1)

-- lists under numbers, with the names in place of the numbers
module _ (names : List Name) (name : Name) (r : ℕ) where
  pub delisted_unknown : IsUnknown names name → (es : List (ℕ × List ℕ)) → AreKnown (length names) es → delisted (bytes_eq name) r (named names es) ≡ named names es
  delisted_unknown unknown es known = delisted_none (bytes_eq name) r (named names es) (lookup-unknown names name unknown es known)

  module _ (n : ℕ) (number : IsNumberOf names name n) where
    set_value-named : (v : List ℕ) (es : List (ℕ × List ℕ)) → AreKnown (length names) es → named names (set_value (nat_eq n) es v) ≡ set_value (bytes_eq name) (named names es) v
    set_value-named v [] h = refl
    set_value-named v (e ∷ es) h = by (n == e.0) (number.only e.0 h.0) (set_value-named v es h.1)
      where
        by : (b : Bool) → bytes_eq name (name_at names e.0) ≡ b → named names (set_value (nat_eq n) es v) ≡ set_value (bytes_eq name) (named names es) v
            → named names (cond b ((e.0, v) ∷ es) (e ∷ set_value (nat_eq n) es v)) ≡ set_value (bytes_eq name) (named names (e ∷ es)) v
        by true same rest = rw same refl
        by false same rest = rw (same, rest) refl

    relisted-named : (es : List (ℕ × List ℕ)) → AreKnown (length names) es → (rs : List ℕ) → named names (relisted (nat_eq n) es rs) ≡ relisted (bytes_eq name) (named names es) rs
    relisted-named es known [] = remove-named names name n number es known
    relisted-named es known (x ∷ xs) = set_value-named (x ∷ xs) es known

    pub delisted-named : (es : List (ℕ × List ℕ)) → AreKnown (length names) es → named names (delisted (nat_eq n) r es) ≡ delisted (bytes_eq name) r (named names es)
    delisted-named es known = rw (lookup-named names name n number es known) (by (lookup (nat_eq n) es))
      where
        by : (o : Option (List ℕ)) → named names (option_map_or (λ rs. relisted (nat_eq n) es (swap_remove_by (nat_eq r) rs)) o es)
            ≡ option_map_or (λ rs. relisted (bytes_eq name) (named names es) (swap_remove_by (nat_eq r) rs)) o (named names es)
        by None = refl
        by (Some rs) = relisted-named es known (swap_remove_by (nat_eq r) rs)

-- a reference less is listed within the same bounds
module _ (names references : ℕ) (test : ℕ → Bool) (r : ℕ) where
  abbrev IsWithin : ℕ × List ℕ → Type 0
  IsWithin e = IsListedWithin names references e

  within-set_value : (v : List ℕ) → AllByRecursion (λ k. k < references) v → (es : List (ℕ × List ℕ)) → AllByRecursion IsWithin es → AllByRecursion IsWithin (set_value test es v)
  within-set_value v listed [] h = tt
  within-set_value v listed (e ∷ es) h = by (test e.0) (within-set_value v listed es h.1)
    where
      by : (b : Bool) → AllByRecursion IsWithin (set_value test es v) → AllByRecursion IsWithin (cond b ((e.0, v) ∷ es) (e ∷ set_value test es v))
      by true rest = ((h.0.0, listed), h.1)
      by false rest = (h.0, rest)

  listed_within : (rs : List ℕ) (es : List (ℕ × List ℕ)) → lookup test es ≡ Some rs → AllByRecursion IsWithin es → AllByRecursion (λ k. k < references) rs
  listed_within rs [] there h = absurd (cc)
  listed_within rs (e ∷ es) there h = by (test e.0) there (λ t. listed_within rs es t h.1)
    where
      by : (b : Bool) → cond b (Some e.1) (lookup test es) ≡ Some rs → (lookup test es ≡ Some rs → AllByRecursion (λ k. k < references) rs) → AllByRecursion (λ k. k < references) rs
      by true is rest = let same : e.1 ≡ rs = cc in rw (← same) h.0.1
      by false is rest = rest is

  relisted_within : (es : List (ℕ × List ℕ)) → AllByRecursion IsWithin es → (rs : List ℕ) → AllByRecursion (λ k. k < references) rs → AllByRecursion IsWithin (relisted test es rs)
  relisted_within es h [] listed = every-remove IsWithin test es h
  relisted_within es h (x ∷ xs) listed = within-set_value (x ∷ xs) listed es h

  pub delisted_within : (es : List (ℕ × List ℕ)) → AllByRecursion IsWithin es → AllByRecursion IsWithin (delisted test r es)
  delisted_within es h = by (lookup test es) refl
    where
      by : (o : Option (List ℕ)) → lookup test es ≡ o → AllByRecursion IsWithin (option_map_or (λ rs. relisted test es (swap_remove_by (nat_eq r) rs)) o es)
      by None is = h
      by (Some rs) is = relisted_within es h (swap_remove_by (nat_eq r) rs) (every-swapped (λ k. k < references) (nat_eq r) rs (listed_within rs es is h))
