-- Small laws of truth values, options, lists and names.
use Rattle.std.proofs.Common.{◌≡◌, suc, List, [], ◌∷◌, Option, Some, None, Bool, true, false, ◌||◌, not, ◌⊎◌, inl, inr, refl, ap, length, bytes_eq, arith}
use Rattle.semantic_syntax.specs.Tables.{Name}
use Rattle.semantic_model.proofs.once.ListedUnder.{name_tells}

-- ---- what cannot be

pub never : true ≡ false → ⊥
never h = absurd cc

pub none_is : {A : Type 0} (x : A) → None ≡ Some x → ⊥
none_is x h = absurd cc

pub not_empty : {A : Type 0} (x : A) (xs : List A) → x ∷ xs ≡ [] → ⊥
not_empty x xs h = absurd cc

pub cons_self : {A : Type 0} (x : A) (xs : List A) → x ∷ xs ≡ xs → ⊥
cons_self x xs h = let w : suc (length xs) ≡ length xs = ap length h in omega (arith, w)

-- ---- what follows

pub some_is : {A : Type 0} (x y : A) → Some x ≡ Some y → x ≡ y
some_is x y h = cc

pub none_if : {A : Type 0} (o : Option A) → ((x : A) → o ≡ Some x → ⊥) → o ≡ None
none_if None h = refl
none_if (Some x) h = absurd (h x refl)

pub either : (a b : Bool) → (a || b) ≡ true → (a ≡ true) ⊎ (b ≡ true)
either true b h = inl refl
either false b h = inr h

pub implied : (a b : Bool) → (not a || b) ≡ true → a ≡ true → b ≡ true
implied true b h e = h
implied false b h e = absurd cc

pub same_names : (a b : Name) → a ≡ b → bytes_eq a b ≡ true
same_names a b h = elim (name_tells a b) [ inl e ↦ e.0 | inr e ↦ absurd (e.1 h) ]
