-- Laws of truth values, numbers and lists that std's lemmas don't have.
use Rattle.std.proofs.Common.{◌≡◌, ℕ, ◌<◌, ◌+◌, List, ◌∷◌, Bool, true, false, ◌&&◌, ◌||◌, ◌==◌, length, drop, get_or, add-one, inl, inr, refl, sym, ◌∙◌}
use Rattle.std.proofs.Math.Seq.{drop-cons}
use Rattle.std.proofs.lemmas.Bool.{and_parts}
use Rattle.std.proofs.lemmas.Bool.Decides.{eqb_tells}

pub and_first : (a b : Bool) → (a && b) ≡ true → a ≡ true
and_first a b h = (and_parts a b h).0

pub and_second : (a b : Bool) → (a && b) ≡ true → b ≡ true
and_second a b h = (and_parts a b h).1

pub and_false : (a : Bool) → (a && false) ≡ false
and_false true = refl
and_false false = refl

pub or_false : (a : Bool) → (a || false) ≡ a
or_false true = refl
or_false false = refl

pub or_true : (a : Bool) → (a || true) ≡ true
or_true true = refl
or_true false = refl

pub or_assoc : (a b c : Bool) → ((a || b) || c) ≡ (a || (b || c))
or_assoc true b c = refl
or_assoc false b c = refl

-- two tests that hold together are the same
pub same_truth : (a b : Bool) → (a ≡ true → b ≡ true) → (b ≡ true → a ≡ true) → a ≡ b
same_truth true b f g = sym (f refl)
same_truth false true f g = g refl
same_truth false false f g = refl

pub same_turned : (m n : ℕ) → (m == n) ≡ (n == m)
same_turned m n = elim (eqb_tells m n) [
  | inl a ↦ elim (eqb_tells n m) [
    | inl b ↦ a.0 ∙ sym b.0
    | inr b ↦ absurd (b.1 (sym a.1))
  ]
  | inr a ↦ elim (eqb_tells n m) [
    | inl b ↦ absurd (a.1 (sym b.1))
    | inr b ↦ a.0 ∙ sym b.0
  ]
]

-- what is left from a place on begins with what stands there
pub drop_here : {X : Type 0} (items : List X) (i : ℕ) (here : X) → i < length items → here ≡ get_or items i here → drop i items ≡ here ∷ drop (i + 1) items
drop_here items i here h e = rw (drop-cons items i here h, ← e, add-one) refl
