-- The texts of short names.
use Rattle.std.proofs.Common.{◌≡◌, ℕ, zero, suc, ◌+◌, ◌-◌, ◌/◌, ◌%◌, ◌<◌, ◌≤◌, List, [], ◌∷◌, ◌++◌, Result, Ok, Err, is_ok, if◌then◌else◌, OnOk, refl, sym, ap, ◌∙◌, arith, div-le_self, append_assoc}
use Rattle.std.specs.Str.{chars, IsUtf8}
use Rattle.std.proofs.lemmas.Bool.Decides.{nat_tests}
use Rattle.std.proofs.lemmas.Str.{chars-append, chars-IsAscii}
use Rattle.std.proofs.lemmas.Str.Ascii.{IsAscii-nil, IsAscii-cons}
use Rattle.semantic_syntax.specs.Tables.{Name}
use Rattle.mangle_model.specs.ShortNames.{character, further, short_name}

-- more characters than there are don't matter
further_same : (most more n : ℕ) → n ≤ most → n ≤ more → further most n ≡ further more n
further_same zero zero n h k = refl
further_same zero (suc more) zero h k = refl
further_same zero (suc more) (suc n) h k = absurd (omega (arith, h))
further_same (suc most) zero zero h k = refl
further_same (suc most) zero (suc n) h k = absurd (omega (arith, k))
further_same (suc most) (suc more) zero h k = refl
further_same (suc most) (suc more) (suc n) h k =
    ap (λ name. character (n % 64) ∷ name) (further_same most more (n / 64) (omega (arith, div-le_self n 64, h)) (omega (arith, div-le_self n 64, k)))

further_enough : (most n : ℕ) → n ≤ most → further most n ≡ further n n
further_enough most n h = further_same most n n h (omega arith)

-- ---- characters

pub small : (n : ℕ) → n < 64 → character n < 128
small n h = grind (arith, nat_tests, h)

-- a character more
more_text : (bytes new more : List ℕ) (n : ℕ) → IsUtf8 bytes → n < 64 → more ≡ character n ∷ [] → new ≡ bytes ++ more → chars new ≡ chars bytes ++ character n ∷ []
more_text bytes new more n u h one is =
    ap chars (is ∙ ap (λ xs. bytes ++ xs) one)
    ∙ chars-append bytes (character n ∷ []) u
    ∙ ap (λ xs. chars bytes ++ xs) (chars-IsAscii (character n ∷ []) (IsAscii-cons (character n) [] (small n h) IsAscii-nil))

pub text_pushed : {A E : Type 0} → (r : Result A E) (old new more : List ℕ) (n : ℕ) → new ≡ (if is_ok r then old ++ more else old) → IsUtf8 old → n < 64 → more ≡ character n ∷ [] → OnOk r (chars new ≡ chars old ++ character n ∷ [])
text_pushed (Ok x) old new more n is u h one = more_text old new more n u h one is
text_pushed (Err e) old new more n is u h one = tt

-- ---- those behind the first

-- one of them, and then the others
pub further_turn : (rest place : ℕ) (old new whole : Name) → rest ≡ suc place → new ≡ old ++ character (place % 64) ∷ [] → old ++ further rest rest ≡ whole → new ++ further (place / 64) (place / 64) ≡ whole
further_turn rest place old new whole one is e =
    ap (λ xs. xs ++ further (place / 64) (place / 64)) is
    ∙ append_assoc old (character (place % 64) ∷ []) (further (place / 64) (place / 64))
    ∙ ap (λ xs. old ++ character (place % 64) ∷ xs) (sym (further_enough place (place / 64) (div-le_self place 64)))
    ∙ ap (λ r. old ++ further r r) (sym one)
    ∙ e

pub short_text : (n : ℕ) (first all : Name) → first ≡ character (n % 54) ∷ [] → all ≡ first ++ further (n / 54) (n / 54) → all ≡ short_name n
short_text n first all e f =
    f ∙ ap (λ xs. xs ++ further (n / 54) (n / 54)) e ∙ ap (λ xs. character (n % 54) ∷ xs) (sym (further_enough n (n / 54) (div-le_self n 54)))
