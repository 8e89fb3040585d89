-- A list in which no number stands more often than in another one is no longer.
use Rattle.std.proofs.Common.{◌≡◌, ℕ, suc, ◌+◌, ◌<◌, ◌≤◌, ◌==◌, List, [], ◌∷◌, Bool, true, false, cond, length, refl, ap, arith, inl, inr}
use Rattle.std.proofs.lemmas.Bool.Decides.{eqb_tells}
use Rattle.semantic_model.specs.Entries.{times}

-- without one x
abbrev without : ℕ → List ℕ → List ℕ
without x [] = []
without x (y ∷ ys) = cond (y == x) ys (y ∷ without x ys)

-- x stands in the list
abbrev Stands : ℕ → List ℕ → Type 0
Stands x ys = 0 < times x ys

one_less : (x : ℕ) (ys : List ℕ) → Stands x ys → length ys ≡ suc (length (without x ys))
one_less x [] h = absurd (omega (arith, h))
one_less x (y ∷ ys) h = by (y == x) h (one_less x ys)
  where
    by : (b : Bool) → 0 < cond b 1 0 + times x ys → (Stands x ys → length ys ≡ suc (length (without x ys))) → suc (length ys) ≡ suc (length (cond b ys (y ∷ without x ys)))
    by true g ih = refl
    by false g ih = ap suc (ih (omega (arith, g)))

less_times : (x z : ℕ) (ys : List ℕ) → Stands x ys → times z ys ≡ cond (x == z) 1 0 + times z (without x ys)
less_times x z [] h = absurd (omega (arith, h))
less_times x z (y ∷ ys) h = elim (eqb_tells y x) [
  | inl q ↦ rw (q.0, q.1) refl
  | inr q ↦
      (let first : cond {A = ℕ} (y == x) 1 0 ≡ 0 = rw q.0 refl in
      let later = less_times x z ys (omega (arith, first, h)) in
      rw q.0 (omega (arith, later)))
]

pub no_longer : (xs ys : List ℕ) → ((x : ℕ) → times x xs ≤ times x ys) → length xs ≤ length ys
no_longer [] ys h = omega arith
no_longer (x ∷ xs) ys h =
    let own : cond {A = ℕ} (x == x) 1 0 ≡ 1 = elim (eqb_tells x x) [ inl q ↦ rw q.0 refl | inr q ↦ absurd (q.1 refl) ] in
    let stands : Stands x ys = omega (arith, own, h x) in
    let rest = no_longer xs (without x ys) (λ z. omega (arith, h z, less_times x z ys stands)) in
    omega (arith, rest, one_less x ys stands)
