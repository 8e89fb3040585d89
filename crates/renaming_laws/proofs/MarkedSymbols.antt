-- The symbols of a program of which one has a name that nothing else has.
use Rattle.std.proofs.Common.{◌≡◌, ℕ, suc, ◌+◌, ◌==◌, List, [], ◌∷◌, Bool, true, false, cond, Some, refl, sym, ◌∙◌, map, bytes_eq, arith}
use Rattle.std.specs.Prelude.{slice_get}
use Rattle.semantic_syntax.specs.Tables.{Name, Symbol}
use Rattle.semantic_model.specs.Swap.{renamed_symbol}
use Rattle.renaming_laws.specs.KeptDeclarations.{declared_as}
use Rattle.renaming_laws.specs.NewNames.{instead}
use Rattle.renaming_laws.proofs.FreshNames.{taken, left}
use Rattle.renaming_laws.proofs.Looks.{looks}
use Rattle.renaming_laws.proofs.SeenSymbols.{unscoped}

module _ (s : ℕ) (z old new : Name) where
  -- symbols from number n on, of which the one has the name
  abbrev pub marked : ℕ → List Symbol → List Symbol
  marked n [] = []
  marked n (y ∷ ys) = record y { name = cond (n == s) z y.name } ∷ marked (suc n) ys

  -- it has the old name, and none has that name
  abbrev pub Bears : ℕ → List Symbol → Type 0
  Bears n [] = Unit {0}
  Bears n (y ∷ ys) = ((n == s) ≡ true → y.name ≡ old) × (bytes_eq y.name z ≡ false) × Bears (suc n) ys

  pub bears_from : (n : ℕ) (ys : List Symbol) → ((r k : ℕ) (a : Symbol) → r ≡ n + k → slice_get ys k ≡ Some a → ((r == s) ≡ true → a.name ≡ old) × (bytes_eq a.name z ≡ false)) → Bears n ys
  bears_from n [] h = tt
  bears_from n (y ∷ ys) h =
      let (own, apart) = h n 0 y (omega arith) refl in
      (own, apart, bears_from (suc n) ys (λ r k a e g. h r (suc k) a (omega (arith, e)) g))

  pub old_marked : (n : ℕ) (ys : List Symbol) → Bears n ys → map (renamed_symbol (instead z old)) (marked n ys) ≡ ys
  old_marked n [] h = refl
  old_marked n (y ∷ ys) h = λ i. record y { name = go (n == s) h.0 i } ∷ old_marked (suc n) ys h.2 i
    where
      go : (b : Bool) → (b ≡ true → y.name ≡ old) → instead z old (cond b z y.name) ≡ y.name
      go true e = taken z old ∙ sym (e refl)
      go false e = left z old y.name h.1

  -- symbols that are declared as these, of which the one has the new name
  abbrev pub Follow : ℕ → List Symbol → List Symbol → Type 0
  Follow n [] [] = Unit {0}
  Follow n (a ∷ ys) (b ∷ zs) = (declared_as a ≡ declared_as b) × (b.name ≡ cond (n == s) new a.name) × Follow (suc n) ys zs
  Follow n _ _ = ⊥

  pub follow_from : (n : ℕ) (ys zs : List Symbol) → looks ys ≡ looks zs → ((r k : ℕ) (a b : Symbol) → r ≡ n + k → slice_get ys k ≡ Some a → slice_get zs k ≡ Some b → b.name ≡ cond (r == s) new a.name) → Follow n ys zs
  follow_from n [] [] e h = tt
  follow_from n [] (b ∷ zs) e h = absurd cc
  follow_from n (a ∷ ys) [] e h = absurd cc
  follow_from n (a ∷ ys) (b ∷ zs) e h = (first a b ys zs e, h n 0 a b (omega arith) refl refl, follow_from (suc n) ys zs (rest a b ys zs e) (λ r k c d i f g. h r (suc k) c d (omega (arith, i)) f g))
    where
      first : (a b : Symbol) (ys zs : List Symbol) → looks (a ∷ ys) ≡ looks (b ∷ zs) → declared_as a ≡ declared_as b
      first a b ys zs k = cc

      rest : (a b : Symbol) (ys zs : List Symbol) → looks (a ∷ ys) ≡ looks (b ∷ zs) → looks ys ≡ looks zs
      rest a b ys zs k = cc

  pub new_marked : (n : ℕ) (ys zs : List Symbol) → Bears n ys → Follow n ys zs → map unscoped (map (renamed_symbol (instead z new)) (marked n ys)) ≡ map unscoped zs
  new_marked n [] [] h w = refl
  new_marked n [] (b ∷ zs) h w = absurd w
  new_marked n (a ∷ ys) [] h w = absurd w
  new_marked n (a ∷ ys) (b ∷ zs) h w = λ i. record (w.0 i) { name = (go (n == s) ∙ sym w.1) i } ∷ new_marked (suc n) ys zs h.2 w.2 i
    where
      go : (t : Bool) → instead z new (cond t z a.name) ≡ cond t new a.name
      go true = taken z new
      go false = left z new a.name h.1
