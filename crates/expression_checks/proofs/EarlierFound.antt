-- The first declaration that passes, before the last one.
use Rattle.std.proofs.Common.{◌≡◌, ℕ, zero, suc, ◌+◌, List, [], ◌∷◌, ◌++◌, Bool, true, false, Option, Some, None, ◌-◌, not, option_copied, cond, length, take, refl, sym, ap, ◌∙◌, arith}
use Rattle.std.specs.Prelude.{find, slice_get}
use Rattle.std.specs.Borrow.{Bor}
use Rattle.std.specs.List.{position_or_len}
use Rattle.std.specs.Slice.{IsItemAt}
use Rattle.std.proofs.lemmas.Option.{slice_get-get_or, slice_get_past}
use Rattle.semantic_syntax.specs.declared.references.Redeclaration.{Redeclaration}
use Rattle.check_model.specs.Entries.{before_last}
use Rattle.expression_checks.proofs.BeforeLast.{before_last_is}

module _ {X : Type 0} (p : X → Bool) where
  onward : (xs : List X) (x : X) (n : ℕ) → slice_get (x ∷ xs) (1 + n) ≡ slice_get xs n
  onward xs x n = let e : 1 + n ≡ suc n = omega arith in ap (slice_get (x ∷ xs)) e

  -- the first of the first ones stands where the first of all does, if that is one of them
  pub found_in_front : (n : ℕ) (xs : List X) → find p (take n xs) ≡ slice_get (take n xs) (position_or_len p xs)
  found_in_front zero xs = refl
  found_in_front (suc n) [] = refl
  found_in_front (suc n) (x ∷ xs) = by (p x) (found_in_front n xs)
    where
      by : (b : Bool) → find p (take n xs) ≡ slice_get (take n xs) (position_or_len p xs) → cond b (Some x) (find p (take n xs)) ≡ slice_get (x ∷ take n xs) (cond (not b) (1 + position_or_len p xs) 0)
      by true rest = refl
      by false rest = rest ∙ sym (onward (take n xs) x (position_or_len p xs))

-- what a slice gives at a place
pub copied_at : {X : Type 0} (xs : List X) (i : ℕ) (r : Option (Bor X)) → IsItemAt xs i r → option_copied r ≡ slice_get xs i
copied_at xs i None h = sym (slice_get_past xs i h.3)
copied_at xs i (Some x) h = ap (λ y. Some y) h.1 ∙ sym (slice_get-get_or xs i x.now h.3.0)

-- so it is found there among those before the last one
pub earlier_is : (p : Redeclaration → Bool) (entries rest : List Redeclaration) (x : Redeclaration) (plain : ℕ) → entries ≡ rest ++ x ∷ [] → plain ≡ position_or_len p entries → slice_get rest plain ≡ find p (before_last entries)
earlier_is p entries rest x plain e is =
    ap (slice_get rest) is
    ∙ ap (λ xs. slice_get xs (position_or_len p entries)) (sym (before_last_is entries rest x e))
    ∙ sym (found_in_front p (length entries - 1) entries)
