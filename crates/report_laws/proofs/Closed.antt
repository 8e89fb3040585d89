-- Words that end where a byte stands that is no part of one.
use Rattle.std.proofs.Common.{◌≡◌, ℕ, Bool, true, false, List, [], ◌∷◌, ◌++◌, ◌==◌, ◌&&◌, cond, ap, sym, ◌∙◌, refl, subst}
use Rattle.std.proofs.lemmas.Bool.{eqb-false, and_parts}
use Rattle.std.specs.List.{AllByRecursion}

-- two values are the same, and so is what stands behind them
abbrev pub BothSame : {A : Type 0} → A → A → List ℕ → List ℕ → Type 0
BothSame a b r s = (a ≡ b) × (r ≡ s)

pub same_pair : {A B : Type 0} (a c : A) (b d : B) → a ≡ c → b ≡ d → ◌≡◌ {A = A × B} (a, b) (c, d)
same_pair a c b d p q = ap (λ x. (x, b)) p ∙ ap (λ y. (c, y)) q

pub same_cons : {A : Type 0} (x y : A) (xs ys : List A) → x ≡ y → xs ≡ ys → x ∷ xs ≡ y ∷ ys
same_cons x y xs ys p q = ap (λ z. z ∷ xs) p ∙ ap (λ zs. y ∷ zs) q

-- whether all bytes pass a test
abbrev pub all_pass : (ℕ → Bool) → List ℕ → Bool
all_pass test [] = true
all_pass test (byte ∷ rest) = test byte && all_pass test rest

pub passing : (test : ℕ → Bool) (bytes : List ℕ) → all_pass test bytes ≡ true → AllByRecursion (λ byte. test byte ≡ true) bytes
passing test [] h = tt
passing test (byte ∷ rest) h = let parts = and_parts (test byte) (all_pass test rest) h in (parts.0, passing test rest parts.1)

module _ (is_part : ℕ → Bool) where
  -- each byte is part of a word
  abbrev pub IsWord : List ℕ → Type 0
  IsWord bytes = AllByRecursion (λ byte. is_part byte ≡ true) bytes

  -- no word goes on: nothing is left, or a byte that is no part of one
  abbrev pub IsClosed : List ℕ → Type 0
  IsClosed [] = Unit {0}
  IsClosed (byte ∷ rest) = is_part byte ≡ false

  not_both : (byte : ℕ) → is_part byte ≡ true → is_part byte ≡ false → ⊥
  not_both byte part none = let both : true ≡ false = sym part ∙ none in absurd cc

  pub same_word : (a b r s : List ℕ) → IsWord a → IsWord b → IsClosed r → IsClosed s → a ++ r ≡ b ++ s → BothSame a b r s
  same_word [] [] r s ha hb hr hs e = (refl, e)
  same_word [] (y ∷ ys) [] s ha hb hr hs e = absurd cc
  same_word [] (y ∷ ys) (x ∷ r) s ha hb hr hs e =
      let head : x ≡ y = cc in absurd (not_both y hb.0 (subst (λ z. is_part z ≡ false) head hr))
  same_word (x ∷ xs) [] r [] ha hb hr hs e = absurd cc
  same_word (x ∷ xs) [] r (y ∷ s) ha hb hr hs e =
      let head : y ≡ x = cc in absurd (not_both x ha.0 (subst (λ z. is_part z ≡ false) head hs))
  same_word (x ∷ xs) (y ∷ ys) r s ha hb hr hs e =
      let head : x ≡ y = cc in
      let tail : xs ++ r ≡ ys ++ s = cc in
      let more : BothSame xs ys r s = same_word xs ys r s ha.1 hb.1 hr hs tail in
      (same_cons x y xs ys head more.0, more.1)

-- two words part within both
abbrev pub apart : List ℕ → List ℕ → Bool
apart [] ys = false
apart (x ∷ xs) [] = false
apart (x ∷ xs) (y ∷ ys) = cond (x == y) (apart xs ys) true

pub apart_differ : (v w x y : List ℕ) → apart v w ≡ true → v ++ x ≡ w ++ y → ⊥
apart_differ [] w x y h e = absurd cc
apart_differ (a ∷ v) [] x y h e = absurd cc
apart_differ (a ∷ v) (b ∷ w) x y h e = by (a == b) refl h (λ k. apart_differ v w x y k tail)
  where
    head : a ≡ b
    head = cc

    tail : v ++ x ≡ w ++ y
    tail = cc

    by : (t : Bool) → (a == b) ≡ t → cond t (apart v w) true ≡ true → (apart v w ≡ true → ⊥) → ⊥
    by true same k more = more k
    by false other k more = eqb-false a b other head
