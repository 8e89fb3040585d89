-- A text that is written as a JSON string is read back.
use Rattle.std.proofs.Common.{◌≡◌, ℕ, zero, suc, ◌+◌, ◌-◌, ◌*◌, ◌<◌, ◌≤◌, ◌==◌, cond, nat_lt, List, [], ◌∷◌, ◌++◌, Option, Some, None, append_assoc, refl, sym, ap, ◌∙◌, subst, inl, inr, ◌⊎◌, arith}
use Rattle.std.proofs.lemmas.Bool.{cases_eq, cases_lt, ne_eqb}
use Rattle.json.specs.Print.{escape_byte, escape}
use Rattle.json.proofs.Printed.Strings.{escape_byte_plain}
use Rattle.report_lines.specs.Pieces.{quoted}
use Rattle.report_laws.proofs.Closed.{BothSame, same_cons}

-- the value of a digit of an escape
abbrev low_digit : ℕ → ℕ
low_digit byte = cond (nat_lt byte 58) (byte - 48) (byte - 87)

-- what an escape of six bytes stands for
abbrev behind_u : List ℕ → Option (ℕ × List ℕ)
behind_u (a ∷ b ∷ high ∷ low ∷ rest) = Some ((high - 48) * 16 + low_digit low, rest)
behind_u other = None

-- the byte for which a letter stands
abbrev lettered : ℕ → ℕ
lettered letter = cond (letter == 98) 8 (cond (letter == 102) 12 (cond (letter == 110) 10 (cond (letter == 114) 13 (cond (letter == 116) 9 letter))))

abbrev behind_backslash : List ℕ → Option (ℕ × List ℕ)
behind_backslash [] = None
behind_backslash (letter ∷ rest) = cond (letter == 117) (behind_u rest) (Some (lettered letter, rest))

-- the byte that stands first in a string, and what follows it
abbrev first_byte : List ℕ → Option (ℕ × List ℕ)
first_byte [] = None
first_byte (byte ∷ rest) = cond (byte == 92) (behind_backslash rest) (Some (byte, rest))

abbrev IsReadBack : ℕ → Type 0
IsReadBack byte = (rest : List ℕ) → first_byte (escape_byte byte ++ rest) ≡ Some (byte, rest)

-- it holds below n, counted down from the top
abbrev pub EachBelow : (ℕ → Type 0) → ℕ → Type 0
EachBelow P zero = Unit {0}
EachBelow P (suc n) = P n × EachBelow P n

pub each_below : (P : ℕ → Type 0) (n : ℕ) → EachBelow P n → (x : ℕ) → x < n → P x
each_below P zero h x less = absurd (omega arith)
each_below P (suc n) h x less = go (each_below P n h.1 x) (cases_eq x n)
  where
    go : (x < n → P x) → (x ≡ n) ⊎ (x ≡ n → ⊥) → P x
    go below (inl e) = subst P (sym e) h.0
    go below (inr other) = below (omega arith)

controls : EachBelow IsReadBack 32
unfolding escape_byte
controls = (λ rest. refl, (λ rest. refl, (λ rest. refl, (λ rest. refl, (λ rest. refl, (λ rest. refl, (λ rest. refl, (λ rest. refl, (λ rest. refl, (λ rest. refl, (λ rest. refl, (λ rest. refl, (λ rest. refl, (λ rest. refl, (λ rest. refl, (λ rest. refl, (λ rest. refl, (λ rest. refl, (λ rest. refl, (λ rest. refl, (λ rest. refl, (λ rest. refl, (λ rest. refl, (λ rest. refl, (λ rest. refl, (λ rest. refl, (λ rest. refl, (λ rest. refl, (λ rest. refl, (λ rest. refl, (λ rest. refl, (λ rest. refl, tt))))))))))))))))))))))))))))))))

quote_back : IsReadBack 34
unfolding escape_byte
quote_back = λ rest. refl

backslash_back : IsReadBack 92
unfolding escape_byte
backslash_back = λ rest. refl

plain_back : (byte : ℕ) → (byte ≡ 34 → ⊥) → (byte ≡ 92 → ⊥) → 32 ≤ byte → IsReadBack byte
plain_back byte quote backslash high rest =
    rw (escape_byte_plain byte quote backslash high, ne_eqb byte 92 backslash) refl

read_back : (byte : ℕ) → IsReadBack byte
read_back byte = go (cases_lt byte 32) (cases_eq byte 34) (cases_eq byte 92)
  where
    go : (byte < 32) ⊎ (32 ≤ byte) → (byte ≡ 34) ⊎ (byte ≡ 34 → ⊥) → (byte ≡ 92) ⊎ (byte ≡ 92 → ⊥) → IsReadBack byte
    go (inl low) q b = each_below IsReadBack 32 controls byte low
    go (inr high) (inl e) b = subst IsReadBack (sym e) quote_back
    go (inr high) (inr q) (inl e) = subst IsReadBack (sym e) backslash_back
    go (inr high) (inr q) (inr b) = plain_back byte q b high

quote_escape : escape_byte 34 ≡ 92 ∷ 34 ∷ []
unfolding escape_byte
quote_escape = refl

-- no escape begins as the end of a string
no_end : (byte : ℕ) (r s : List ℕ) → 34 ∷ r ≡ escape_byte byte ++ s → ⊥
no_end byte r s e =
    let told : ◌≡◌ {A = Option (ℕ × List ℕ)} (Some (34, r)) (Some (byte, s)) = ap first_byte e ∙ read_back byte s in
    let pair : ◌≡◌ {A = ℕ × List ℕ} (34, r) (byte, s) = cc in
    let is : byte ≡ 34 = sym (ap (λ p. p.0) pair) in
    let heads : 34 ∷ r ≡ 92 ∷ 34 ∷ s = e ∙ ap (λ b. escape_byte b ++ s) is ∙ ap (λ bytes. bytes ++ s) quote_escape in
    let same : ◌≡◌ {A = ℕ} 34 92 = cc in
    absurd (omega (arith, same))

same_escaped : (xs ys r s : List ℕ) → escape xs ++ 34 ∷ r ≡ escape ys ++ 34 ∷ s → BothSame xs ys r s
same_escaped [] [] r s e = (refl, cc)
same_escaped [] (y ∷ ys) r s e = absurd (no_end y r (escape ys ++ 34 ∷ s) (e ∙ append_assoc (escape_byte y) (escape ys) (34 ∷ s)))
same_escaped (x ∷ xs) [] r s e = absurd (no_end x s (escape xs ++ 34 ∷ r) (sym e ∙ append_assoc (escape_byte x) (escape xs) (34 ∷ r)))
same_escaped (x ∷ xs) (y ∷ ys) r s e =
    let texts : escape_byte x ++ (escape xs ++ 34 ∷ r) ≡ escape_byte y ++ (escape ys ++ 34 ∷ s) = sym (append_assoc (escape_byte x) (escape xs) (34 ∷ r)) ∙ e ∙ append_assoc (escape_byte y) (escape ys) (34 ∷ s) in
    let told : ◌≡◌ {A = Option (ℕ × List ℕ)} (Some (x, escape xs ++ 34 ∷ r)) (Some (y, escape ys ++ 34 ∷ s)) = sym (read_back x (escape xs ++ 34 ∷ r)) ∙ ap first_byte texts ∙ read_back y (escape ys ++ 34 ∷ s) in
    let pair : ◌≡◌ {A = ℕ × List ℕ} (x, escape xs ++ 34 ∷ r) (y, escape ys ++ 34 ∷ s) = cc in
    let more : BothSame xs ys r s = same_escaped xs ys r s (ap (λ p. p.1) pair) in
    (same_cons x y xs ys (ap (λ p. p.0) pair) more.0, more.1)

-- a text with quotes ends where it ends
pub same_quoted : (xs ys r s : List ℕ) → quoted xs ++ r ≡ quoted ys ++ s → BothSame xs ys r s
unfolding quoted
same_quoted xs ys r s e =
    let texts : 34 ∷ ((escape xs ++ 34 ∷ []) ++ r) ≡ 34 ∷ ((escape ys ++ 34 ∷ []) ++ s) = e in
    let tails : (escape xs ++ 34 ∷ []) ++ r ≡ (escape ys ++ 34 ∷ []) ++ s = cc in
    same_escaped xs ys r s (sym (append_assoc (escape xs) (34 ∷ []) r) ∙ tails ∙ append_assoc (escape ys) (34 ∷ []) s)

-- a text with quotes begins with one
pub quoted_begins : (xs r : List ℕ) → quoted xs ++ r ≡ 34 ∷ ((escape xs ++ 34 ∷ []) ++ r)
unfolding quoted
quoted_begins xs r = refl
