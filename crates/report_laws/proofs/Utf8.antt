-- A text is determined by its bytes in UTF-8.
use Rattle.std.proofs.Common.{◌≡◌, ℕ, ◌+◌, ◌-◌, ◌*◌, ◌/◌, ◌%◌, ◌<◌, ◌≤◌, cond, ltb, List, [], ◌∷◌, ◌++◌, Option, Some, None, encode_utf8_all, refl, sym, ap, ◌∙◌, inl, inr, ◌⊎◌, arith}
use Rattle.std.proofs.lemmas.Bool.{cases_lt, le-ltb, lt-ltb}
use lib.Utf8.{encode}
use Rattle.report_laws.proofs.Closed.{same_cons}

abbrev two : ℕ → List ℕ → Option (ℕ × List ℕ)
two a (b ∷ rest) = Some (a * 64 + (b - 128), rest)
two a [] = None

abbrev three : ℕ → List ℕ → Option (ℕ × List ℕ)
three a (b ∷ c ∷ rest) = Some (a * 4096 + (b - 128) * 64 + (c - 128), rest)
three a other = None

abbrev four : ℕ → List ℕ → Option (ℕ × List ℕ)
four a (b ∷ c ∷ d ∷ rest) = Some (a * 262144 + (b - 128) * 4096 + (c - 128) * 64 + (d - 128), rest)
four a other = None

-- the character that stands first, and the bytes that follow it
abbrev first_char : List ℕ → Option (ℕ × List ℕ)
first_char [] = None
first_char (a ∷ rest) = cond (ltb a 128) (Some (a, rest)) (cond (ltb a 224) (two (a - 192) rest) (cond (ltb a 240) (three (a - 224) rest) (four (a - 240) rest)))

abbrev IsReadBack : ℕ → Type 0
IsReadBack c = (rest : List ℕ) → first_char (encode c ++ rest) ≡ Some (c, rest)

same_first : (n c : ℕ) (rest : List ℕ) → n ≡ c → ◌≡◌ {A = Option (ℕ × List ℕ)} (Some (n, rest)) (Some (c, rest))
same_first n c rest e = ap (λ k. Some (k, rest)) e

one_byte : (c : ℕ) → c < 128 → IsReadBack c
unfolding encode
one_byte c small rest = rw (lt-ltb c 128 small) (rw (lt-ltb c 128 small) refl)

two_bytes : (c : ℕ) → 128 ≤ c → c < 2048 → IsReadBack c
unfolding encode
two_bytes c low high rest =
    let a : ℕ = 192 + c / 64 in
    let from : 128 ≤ 192 + c / 64 = omega arith in
    let to : 192 + c / 64 < 224 = omega arith in
    rw (le-ltb c 128 low, lt-ltb c 2048 high)
    (rw (le-ltb (192 + c / 64) 128 from, lt-ltb (192 + c / 64) 224 to) (same_first (((192 + c / 64) - 192) * 64 + ((128 + c % 64) - 128)) c rest (omega arith)))

three_bytes : (c : ℕ) → 2048 ≤ c → c < 65536 → IsReadBack c
unfolding encode
three_bytes c low high rest =
    let past : 128 ≤ c = omega arith in
    let from : 224 ≤ 224 + c / 4096 = omega arith in
    let past_two : 128 ≤ 224 + c / 4096 = omega arith in
    let to : 224 + c / 4096 < 240 = omega arith in
    rw (le-ltb c 128 past, le-ltb c 2048 low, lt-ltb c 65536 high)
    (rw (le-ltb (224 + c / 4096) 128 past_two, le-ltb (224 + c / 4096) 224 from, lt-ltb (224 + c / 4096) 240 to) (same_first (((224 + c / 4096) - 224) * 4096 + ((128 + c / 64 % 64) - 128) * 64 + ((128 + c % 64) - 128)) c rest (omega arith)))

four_bytes : (c : ℕ) → 65536 ≤ c → IsReadBack c
unfolding encode
four_bytes c low rest =
    let past : 128 ≤ c = omega arith in
    let past_two : 2048 ≤ c = omega arith in
    let a : 128 ≤ 240 + c / 262144 = omega arith in
    let b : 224 ≤ 240 + c / 262144 = omega arith in
    let d : 240 ≤ 240 + c / 262144 = omega arith in
    rw (le-ltb c 128 past, le-ltb c 2048 past_two, le-ltb c 65536 low)
    (rw (le-ltb (240 + c / 262144) 128 a, le-ltb (240 + c / 262144) 224 b, le-ltb (240 + c / 262144) 240 d) (same_first (((240 + c / 262144) - 240) * 262144 + ((128 + c / 4096 % 64) - 128) * 4096 + ((128 + c / 64 % 64) - 128) * 64 + ((128 + c % 64) - 128)) c rest (omega arith)))

read_back : (c : ℕ) → IsReadBack c
read_back c = go (cases_lt c 128) (cases_lt c 2048) (cases_lt c 65536)
  where
    go : (c < 128) ⊎ (128 ≤ c) → (c < 2048) ⊎ (2048 ≤ c) → (c < 65536) ⊎ (65536 ≤ c) → IsReadBack c
    go (inl h) k l = one_byte c h
    go (inr h) (inl k) l = two_bytes c h k
    go (inr h) (inr k) (inl l) = three_bytes c k l
    go (inr h) (inr k) (inr l) = four_bytes c l

pub same_encoded : (xs ys : List ℕ) → encode_utf8_all xs ≡ encode_utf8_all ys → xs ≡ ys
same_encoded [] [] e = refl
same_encoded [] (y ∷ ys) e =
    let told : ◌≡◌ {A = Option (ℕ × List ℕ)} None (Some (y, encode_utf8_all ys)) = ap first_char e ∙ read_back y (encode_utf8_all ys) in
    absurd cc
same_encoded (x ∷ xs) [] e =
    let told : ◌≡◌ {A = Option (ℕ × List ℕ)} None (Some (x, encode_utf8_all xs)) = ap first_char (sym e) ∙ read_back x (encode_utf8_all xs) in
    absurd cc
same_encoded (x ∷ xs) (y ∷ ys) e =
    let told : ◌≡◌ {A = Option (ℕ × List ℕ)} (Some (x, encode_utf8_all xs)) (Some (y, encode_utf8_all ys)) = sym (read_back x (encode_utf8_all xs)) ∙ ap first_char e ∙ read_back y (encode_utf8_all ys) in
    let pair : ◌≡◌ {A = ℕ × List ℕ} (x, encode_utf8_all xs) (y, encode_utf8_all ys) = cc in
    same_cons x y xs ys (ap (λ p. p.0) pair) (same_encoded xs ys (ap (λ p. p.1) pair))
