-- Bytes that are no backslash begin no escape.
use Rattle.std.proofs.Common.{◌≡◌, ℕ, zero, suc, ◌+◌, ◌<◌, ◌≤◌, List, [], ◌∷◌, true, false, Some, None, ◌==◌, refl, sym, ap, ◌∙◌, ◌-◌, length, arith, inl, inr}
use Rattle.std.specs.Prelude.{drop, take, slice_index}
use Rattle.std.proofs.lemmas.Bool.{cases_Bool}
use Rattle.std.proofs.lemmas.List.{take_all, length-drop}
use Rattle.memchr.specs.Find.{IsFirstByte, is_byte}
use Rattle.check_model.specs.Literals.{escapes_after}
use Rattle.statement_checks.specs.BadEscapes.{escapes_past}
use Rattle.statement_checks.proofs.FirstBad.{past_byte}

-- no byte before the place is a backslash
abbrev NoneUntil : List ℕ → ℕ → Type 0
NoneUntil left k = (i : ℕ) → i < k → (slice_index left i == 92) ≡ true → ⊥

not_first : (byte k : ℕ) (rest : List ℕ) → NoneUntil (byte ∷ rest) (suc k) → (byte == 92) ≡ false
not_first byte k rest f = elim (cases_Bool (byte == 92)) [ inl q ↦ absurd (f 0 (omega arith) q) | inr q ↦ q ]

skipped : (left : List ℕ) (k : ℕ) → k ≤ length left → NoneUntil left k → escapes_after false left ≡ escapes_after false (drop k left)
skipped left zero l f = refl
skipped [] (suc k) l f = absurd (omega (arith, l))
skipped (byte ∷ rest) (suc k) l f =
    past_byte byte rest (not_first byte k rest f) ∙ skipped rest k (omega (arith, l)) (λ i m q. f (suc i) (omega (arith, m)) q)

all_skipped : (left : List ℕ) → NoneUntil left (length left) → escapes_after false left ≡ []
all_skipped [] f = refl
all_skipped (byte ∷ rest) f =
    past_byte byte rest (not_first byte (length rest) rest f) ∙ all_skipped rest (λ i m q. f (suc i) (omega (arith, m)) q)

at_backslash : (left : List ℕ) (k : ℕ) → k < length left → (slice_index left k == 92) ≡ true → escapes_after false (drop k left) ≡ drop (k + 1) left ∷ escapes_after true (drop (k + 1) left)
at_backslash [] k l h = absurd (omega (arith, l))
at_backslash (byte ∷ rest) zero l h = rw (escapes_after, h) refl
at_backslash (byte ∷ rest) (suc k) l h = let e : suc k + 1 ≡ suc (k + 1) = omega arith in rw e (at_backslash rest k (omega (arith, l)) h)

-- what stands behind the first backslash
pub past_found : (left : List ℕ) (k : ℕ) → IsFirstByte (is_byte 92) left (Some k) → escapes_after false left ≡ escapes_past (Some (drop (k + 1) left))
past_found left k h =
    skipped left k (omega (arith, h.0.high)) (λ i m q. h.0.before i (omega arith) m q) ∙ at_backslash left k h.0.high h.1

-- the same with the rest as a slice has it
pub past_sliced : (left : List ℕ) (k : ℕ) → IsFirstByte (is_byte 92) left (Some k) → escapes_after false left ≡ escapes_past (Some (take (length left - (k + 1)) (drop (k + 1) left)))
past_sliced left k h = past_found left k h ∙ ap (λ l. escapes_past (Some l)) (sym (take_all (length left - (k + 1)) (drop (k + 1) left) (omega (arith, length-drop (k + 1) left))))

pub past_none : (left : List ℕ) → IsFirstByte (is_byte 92) left None → escapes_after false left ≡ escapes_past None
past_none left h = all_skipped left (λ i m q. h i (omega arith) m q)

pub ruleset skips = (past_sliced, past_none)
