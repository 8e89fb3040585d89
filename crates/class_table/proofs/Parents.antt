-- The classes around classes, by the entries of a map.
use Rattle.std.proofs.Common.{◌≡◌, ℕ, zero, suc, ◌<◌, ◌==◌, List, [], ◌∷◌, ◌++◌, Bool, true, false, cond, Option, None, Some, IfSome, refl, ap, arith, eqb-true}
use Rattle.std.specs.List.{AllByRecursion}
use Rattle.std.specs.Map.{lookup}
use Rattle.std.specs.Option.{option_map_or}
use Rattle.std.specs.Ordering.{nat_cmp, is_eq}
use Rattle.std.specs.Prelude.{nat_lt, nat_eq}
use Rattle.std.specs.BTreeMap.{insert_entry}
use Rattle.class_table.specs.Lists.{IsInside}
use Rattle.class_table.specs.Outward.{parent_class, StandBefore, classes_outward_within, classes_outward, classes_outward_from}

-- a class that stands behind all others goes last
pub last_entry : (class parent : ℕ) (entries : List (ℕ × ℕ)) → AllByRecursion (IsInside class) entries → insert_entry nat_cmp entries class parent ≡ entries ++ (class, parent) ∷ []
last_entry class parent [] inside = refl
last_entry class parent (e ∷ entries) inside =
    let later : nat_lt class e.0 ≡ false = grind arith in
    let other : (class == e.0) ≡ false = grind arith in
    rw (later, other) (ap (λ es. e ∷ es) (last_entry class parent entries inside.1))

same_test : (c k : ℕ) → is_eq (nat_cmp c k) ≡ nat_eq c k
same_test c k = grind arith

-- a map finds the class around a class
pub found_parent : (c : ℕ) (entries : List (ℕ × ℕ)) → lookup (λ k. is_eq (nat_cmp c k)) entries ≡ parent_class entries c
found_parent c [] = refl
found_parent c (e ∷ entries) = rw (same_test c e.0, found_parent c entries) refl

-- each class stands behind the one around it
pub stand_before : (classes : ℕ) (entries : List (ℕ × ℕ)) → AllByRecursion (IsInside classes) entries → StandBefore entries
stand_before classes [] inside c = tt
stand_before classes (e ∷ entries) inside c = by (nat_eq c e.0) (λ same. omega (arith, inside.0, eqb-true c e.0 same)) (stand_before classes entries inside.1 c)
  where
    by : (b : Bool) → (b ≡ true → e.1 < c) → IfSome (parent_class entries c) (λ p. p < c) → IfSome (cond b (Some e.1) (parent_class entries c)) (λ p. p < c)
    by true here rest = here refl
    by false here rest = rest

alike : (o : Option ℕ) (n : ℕ) (f g : ℕ → List ℕ) → IfSome o (λ p. p < n) → ((p : ℕ) → p < n → f p ≡ g p) → option_map_or f o [] ≡ option_map_or g o []
alike None n f g h same = refl
alike (Some p) n f g h same = same p h

-- more steps than a class has before it make no difference
enough : (parents : List (ℕ × ℕ)) → StandBefore parents → (a b c : ℕ) → c < a → c < b → classes_outward_within a parents c ≡ classes_outward_within b parents c
enough parents before zero b c ha hb = absurd (omega arith)
enough parents before (suc a) zero c ha hb = absurd (omega arith)
enough parents before (suc a) (suc b) c ha hb =
    ap (λ ids. c ∷ ids) (alike (parent_class parents c) c (classes_outward_within a parents) (classes_outward_within b parents) (before c) (λ p h. enough parents before a b p (omega arith) (omega arith)))

-- the way outward goes on from the class around
pub outward_steps : (parents : List (ℕ × ℕ)) (c : ℕ) → StandBefore parents → classes_outward parents c ≡ c ∷ classes_outward_from parents (parent_class parents c)
outward_steps parents c before =
    ap (λ ids. c ∷ ids) (alike (parent_class parents c) c (classes_outward_within c parents) (classes_outward parents) (before c) (λ p h. enough parents before c (suc p) p (omega arith) (omega arith)))
