-- The names of flags, joined by plus, tell which flags are set.
use Rattle.std.proofs.Common.{◌≡◌, ℕ, suc, ◌+◌, ◌*◌, ◌/◌, ◌%◌, ◌^◌, ◌<◌, ◌==◌, ◌&&◌, ◌||◌, not, min, Bool, true, false, if◌then◌else◌, List, [], ◌∷◌, ◌++◌, length, flat_map, codes, pow-suc, refl, sym, ap, ◌∙◌, subst, inl, inr, ◌⊎◌, arith}
use Rattle.std.proofs.lemmas.List.{append_cancel_left}
use Rattle.std.proofs.lemmas.Bool.{cases_eq, eq-eqb, ne_eqb, eqb-true, and_parts}
use Rattle.std.specs.Int.RustNames.{bit_and}
use lib.Bits.{and_step, and_mask}
use Rattle.report_lines.specs.Pieces.{flags_text, with_bits, name_if_set, without_plus}
use Rattle.semantic_syntax.proofs.Every.{every-append, every-more}
use Rattle.report_laws.proofs.Closed.{BothSame, IsWord, IsClosed, same_word, same_cons, apart, apart_differ, all_pass, passing}
use Rattle.table_bounds.specs.Tellable.{no_gap}

-- whether a byte may stand in the name of a flag
abbrev pub is_letter : ℕ → Bool
is_letter byte = not ((byte == 43) || ((byte == 45) || ((byte == 32) || (byte == 10))))

abbrev is_name : List ℕ → Bool
is_name [] = false
is_name (byte ∷ rest) = is_letter byte && all_pass is_letter rest

-- whether all words pass a test
abbrev pub all_words : (List ℕ → Bool) → List (List ℕ) → Bool
all_words test [] = true
all_words test (w ∷ ws) = test w && all_words test ws

-- names of letters, none of them twice
abbrev pub are_names : List (List ℕ) → Bool
are_names [] = true
are_names (n ∷ ns) = is_name n && (all_words (λ m. apart (n ++ 43 ∷ []) (m ++ 43 ∷ [])) ns && are_names ns)

-- ---- which flags are set

-- for each name whether its flag is set; the first has this bit
abbrev tests : ℕ → ℕ → List (List ℕ) → List Bool
tests bit bits [] = []
tests bit bits (n ∷ ns) = (bit_and bits bit == bit) ∷ tests (2 * bit) bits ns

equal_doubles : (x m : ℕ) → (x * 2 == 2 * m) ≡ (x == m)
equal_doubles x m = by (cases_eq x m)
  where
    by : (x ≡ m) ⊎ (x ≡ m → ⊥) → (x * 2 == 2 * m) ≡ (x == m)
    by (inl e) = eq-eqb (x * 2) (2 * m) (omega (arith, e)) ∙ sym (eq-eqb x m e)
    by (inr other) = ne_eqb (x * 2) (2 * m) (λ e. other (omega (arith, e))) ∙ sym (ne_eqb x m other)

-- a test of twice a bit is one of half the bits
test_half : (bits m : ℕ) → (bit_and bits (2 * m) == 2 * m) ≡ (bit_and (bits / 2) m == m)
test_half bits m =
    let half : 2 * m / 2 ≡ m = omega arith in
    let even : 2 * m % 2 ≡ 0 = omega arith in
    let step : bit_and bits (2 * m) ≡ bit_and (bits / 2) m * 2 =
    and_step bits (2 * m) ∙ ap (λ k. bit_and (bits / 2) k * 2 + min (bits % 2) (2 * m % 2)) half ∙ ap (λ k. bit_and (bits / 2) m * 2 + min (bits % 2) k) even ∙ omega arith in
    ap (λ k. k == 2 * m) step ∙ equal_doubles (bit_and (bits / 2) m) m

tests_half : (m bits : ℕ) (ns : List (List ℕ)) → tests (2 * m) bits ns ≡ tests m (bits / 2) ns
tests_half m bits [] = refl
tests_half m bits (n ∷ ns) = same_cons _ _ (tests (2 * (2 * m)) bits ns) (tests (2 * m) (bits / 2) ns) (test_half bits m) (tests_half (2 * m) bits ns)

same_tails : (t u : Bool) (ts us : List Bool) → t ∷ ts ≡ u ∷ us → (t ≡ u) × (ts ≡ us)
same_tails t u ts us e = (cc, cc)

same_remainder : (b c : ℕ) → (b % 2 == 1) ≡ (c % 2 == 1) → b % 2 ≡ c % 2
same_remainder b c e = by (cases_eq (b % 2) 1) (cases_eq (c % 2) 1)
  where
    by : (b % 2 ≡ 1) ⊎ (b % 2 ≡ 1 → ⊥) → (c % 2 ≡ 1) ⊎ (c % 2 ≡ 1 → ⊥) → b % 2 ≡ c % 2
    by (inl p) (inl q) = p ∙ sym q
    by (inl p) (inr q) = absurd (q (eqb-true (c % 2) 1 (sym e ∙ eq-eqb (b % 2) 1 p)))
    by (inr p) (inl q) = absurd (p (eqb-true (b % 2) 1 (e ∙ eq-eqb (c % 2) 1 q)))
    by (inr p) (inr q) = omega (arith, p, q)

-- flags are the same where the same of them are set
same_bits : (ns : List (List ℕ)) (b c : ℕ) → b < 2 ^ length ns → c < 2 ^ length ns → tests 1 b ns ≡ tests 1 c ns → b ≡ c
same_bits [] b c hb hc e = omega (arith, hb, hc)
same_bits (n ∷ ns) b c hb hc e =
    let parts : ((bit_and b 1 == 1) ≡ (bit_and c 1 == 1)) × (tests 2 b ns ≡ tests 2 c ns) = same_tails (bit_and b 1 == 1) (bit_and c 1 == 1) (tests 2 b ns) (tests 2 c ns) e in
    let low : b % 2 ≡ c % 2 = same_remainder b c (ap (λ k. k == 1) (sym (and_mask b 1)) ∙ parts.0 ∙ ap (λ k. k == 1) (and_mask c 1)) in
    let twice : 2 ^ suc (length ns) ≡ 2 ^ length ns * 2 = pow-suc 2 (length ns) in
    let high : b / 2 ≡ c / 2 = same_bits ns (b / 2) (c / 2) (omega (arith, hb, twice)) (omega (arith, hc, twice)) (sym (tests_half 1 b ns) ∙ parts.1 ∙ tests_half 1 c ns) in
    omega (arith, low, high)

-- ---- their names

-- the names of the flags that are set, each behind a plus
abbrev shown : ℕ → ℕ → List (List ℕ) → List ℕ
shown bit bits ns = flat_map (name_if_set bits) (with_bits bit ns)

abbrev if_set : Bool → List ℕ → List ℕ
if_set t n = if t then codes "+" ++ n else []

-- a byte that stands in a name, and not behind it
abbrev in_name : ℕ → Bool
in_name byte = not (byte == 43)

letter_in_name : (byte : ℕ) → is_letter byte ≡ true → in_name byte ≡ true
letter_in_name byte h = by (byte == 43) h
  where
    by : (t : Bool) → not (t || ((byte == 45) || ((byte == 32) || (byte == 10)))) ≡ true → not t ≡ true
    by true k = k
    by false k = refl

name_letters : (n : List ℕ) → is_name n ≡ true → IsWord is_letter n
name_letters [] h = absurd cc
name_letters (byte ∷ rest) h = let parts = and_parts (is_letter byte) (all_pass is_letter rest) h in (parts.0, passing is_letter rest parts.1)

name_word : (n : List ℕ) → is_name n ≡ true → IsWord in_name n
name_word n h = every-more (λ byte. is_letter byte ≡ true) (λ byte. in_name byte ≡ true) letter_in_name n (name_letters n h)

shown_closed : (bit bits : ℕ) (ns : List (List ℕ)) → IsClosed in_name (shown bit bits ns)
shown_closed bit bits [] = tt
shown_closed bit bits (n ∷ ns) = by (bit_and bits bit == bit) (shown_closed (2 * bit) bits ns)
  where
    by : (t : Bool) → IsClosed in_name (shown (2 * bit) bits ns) → IsClosed in_name (if_set t n ++ shown (2 * bit) bits ns)
    by true more = refl
    by false more = more

-- no name after this one is this one
not_shown : (n : List ℕ) → is_name n ≡ true → (ns : List (List ℕ)) → are_names ns ≡ true → all_words (λ m. apart (n ++ 43 ∷ []) (m ++ 43 ∷ [])) ns ≡ true
    → (bit bits : ℕ) (rest : List ℕ) → IsClosed in_name rest → (codes "+" ++ n) ++ rest ≡ shown bit bits ns → ⊥
not_shown n name [] names others bit bits rest closed e = absurd cc
not_shown n name (m ∷ ms) names others bit bits rest closed e = by (bit_and bits bit == bit) e (not_shown n name ms more.1 other.1 (2 * bit) bits rest closed)
  where
    parts : (is_name m ≡ true) × ((all_words (λ k. apart (m ++ 43 ∷ []) (k ++ 43 ∷ [])) ms && are_names ms) ≡ true)
    parts = and_parts (is_name m) (all_words (λ k. apart (m ++ 43 ∷ []) (k ++ 43 ∷ [])) ms && are_names ms) names

    more : (all_words (λ k. apart (m ++ 43 ∷ []) (k ++ 43 ∷ [])) ms ≡ true) × (are_names ms ≡ true)
    more = and_parts (all_words (λ k. apart (m ++ 43 ∷ []) (k ++ 43 ∷ [])) ms) (are_names ms) parts.1

    other : (apart (n ++ 43 ∷ []) (m ++ 43 ∷ []) ≡ true) × (all_words (λ k. apart (n ++ 43 ∷ []) (k ++ 43 ∷ [])) ms ≡ true)
    other = and_parts (apart (n ++ 43 ∷ []) (m ++ 43 ∷ [])) (all_words (λ k. apart (n ++ 43 ∷ []) (k ++ 43 ∷ [])) ms) others

    by : (t : Bool) → (codes "+" ++ n) ++ rest ≡ if_set t m ++ shown (2 * bit) bits ms → ((codes "+" ++ n) ++ rest ≡ shown (2 * bit) bits ms → ⊥) → ⊥
    by true k later =
        let tails : n ++ rest ≡ m ++ shown (2 * bit) bits ms = cc in
        let same : BothSame n m rest (shown (2 * bit) bits ms) = same_word in_name n m rest (shown (2 * bit) bits ms) (name_word n name) (name_word m parts.0) closed (shown_closed (2 * bit) bits ms) tails in
        apart_differ (n ++ 43 ∷ []) (m ++ 43 ∷ []) [] [] other.0 (ap (λ k. (k ++ 43 ∷ []) ++ []) same.0)
    by false k later = later k

same_tests : (ns : List (List ℕ)) → are_names ns ≡ true → (bit b c : ℕ) → shown bit b ns ≡ shown bit c ns → tests bit b ns ≡ tests bit c ns
same_tests [] names bit b c e = refl
same_tests (n ∷ ns) names bit b c e = by (bit_and b bit == bit) (bit_and c bit == bit) e (same_tests ns more.1 (2 * bit) b c)
  where
    parts : (is_name n ≡ true) × ((all_words (λ m. apart (n ++ 43 ∷ []) (m ++ 43 ∷ [])) ns && are_names ns) ≡ true)
    parts = and_parts (is_name n) (all_words (λ m. apart (n ++ 43 ∷ []) (m ++ 43 ∷ [])) ns && are_names ns) names

    more : (all_words (λ m. apart (n ++ 43 ∷ []) (m ++ 43 ∷ [])) ns ≡ true) × (are_names ns ≡ true)
    more = and_parts (all_words (λ m. apart (n ++ 43 ∷ []) (m ++ 43 ∷ [])) ns) (are_names ns) parts.1

    tails : (t : Bool) → if_set t n ++ shown (2 * bit) b ns ≡ if_set t n ++ shown (2 * bit) c ns → shown (2 * bit) b ns ≡ shown (2 * bit) c ns
    tails t k = append_cancel_left (if_set t n) (shown (2 * bit) b ns) (shown (2 * bit) c ns) k

    by : (t u : Bool) → if_set t n ++ shown (2 * bit) b ns ≡ if_set u n ++ shown (2 * bit) c ns → (shown (2 * bit) b ns ≡ shown (2 * bit) c ns → tests (2 * bit) b ns ≡ tests (2 * bit) c ns)
        → t ∷ tests (2 * bit) b ns ≡ u ∷ tests (2 * bit) c ns
    by true true k later = ap (λ ts. true ∷ ts) (later (tails true k))
    by false false k later = ap (λ ts. false ∷ ts) (later (tails false k))
    by true false k later = absurd (not_shown n parts.0 ns more.1 more.0 (2 * bit) c (shown (2 * bit) b ns) (shown_closed (2 * bit) b ns) k)
    by false true k later = absurd (not_shown n parts.0 ns more.1 more.0 (2 * bit) b (shown (2 * bit) c ns) (shown_closed (2 * bit) c ns) (sym k))

-- ---- without the plus in front

-- none is shown, or the first one behind its plus, which is no dash
abbrev HasShape : List ℕ → Type 0
HasShape text = (text ≡ []) ⊎ ((rest : List ℕ) × (text ≡ 43 ∷ rest) × (rest ≡ codes "-" → ⊥))

no_dash : (n rest : List ℕ) → is_name n ≡ true → n ++ rest ≡ codes "-" → ⊥
no_dash [] rest name e = absurd cc
no_dash (byte ∷ more) rest name e =
    let is : byte ≡ 45 = cc in
    let letter : is_letter byte ≡ true = (and_parts (is_letter byte) (all_pass is_letter more) name).0 in
    let wrong : is_letter 45 ≡ true = subst (λ b. is_letter b ≡ true) is letter in
    absurd cc

shape : (ns : List (List ℕ)) → are_names ns ≡ true → (bit bits : ℕ) → HasShape (shown bit bits ns)
shape [] names bit bits = inl refl
shape (n ∷ ns) names bit bits = by (bit_and bits bit == bit) (shape ns more.1 (2 * bit) bits)
  where
    parts : (is_name n ≡ true) × ((all_words (λ m. apart (n ++ 43 ∷ []) (m ++ 43 ∷ [])) ns && are_names ns) ≡ true)
    parts = and_parts (is_name n) (all_words (λ m. apart (n ++ 43 ∷ []) (m ++ 43 ∷ [])) ns && are_names ns) names

    more : (all_words (λ m. apart (n ++ 43 ∷ []) (m ++ 43 ∷ [])) ns ≡ true) × (are_names ns ≡ true)
    more = and_parts (all_words (λ m. apart (n ++ 43 ∷ []) (m ++ 43 ∷ [])) ns) (are_names ns) parts.1

    by : (t : Bool) → HasShape (shown (2 * bit) bits ns) → HasShape (if_set t n ++ shown (2 * bit) bits ns)
    by true later = inr (n ++ shown (2 * bit) bits ns, refl, no_dash n (shown (2 * bit) bits ns) parts.0)
    by false later = later

same_behind_plus : (x y : List ℕ) → HasShape x → HasShape y → without_plus x ≡ without_plus y → x ≡ y
same_behind_plus x y (inl p) (inl q) e = p ∙ sym q
same_behind_plus x y (inl p) (inr q) e = absurd (q.2 (sym (ap without_plus q.1) ∙ sym e ∙ ap without_plus p))
same_behind_plus x y (inr p) (inl q) e = absurd (p.2 (sym (ap without_plus p.1) ∙ e ∙ ap without_plus q))
same_behind_plus x y (inr p) (inr q) e = p.1 ∙ ap (λ rest. 43 ∷ rest) (sym (ap without_plus p.1) ∙ e ∙ ap without_plus q.1) ∙ sym q.1

-- the text of flags that all have names tells them
pub same_flags : (ns : List (List ℕ)) → are_names ns ≡ true → (b c : ℕ) → b < 2 ^ length ns → c < 2 ^ length ns → flags_text (with_bits 1 ns) b ≡ flags_text (with_bits 1 ns) c → b ≡ c
same_flags ns names b c hb hc e =
    same_bits ns b c hb hc (same_tests ns names 1 b c (same_behind_plus (shown 1 b ns) (shown 1 c ns) (shape ns names 1 b) (shape ns names 1 c) e))

-- ---- no space

letter_no_gap : (byte : ℕ) → is_letter byte ≡ true → no_gap byte ≡ true
letter_no_gap byte h = by (byte == 43) (byte == 45) h
  where
    by : (t u : Bool) → not (t || (u || ((byte == 32) || (byte == 10)))) ≡ true → no_gap byte ≡ true
    by true u k = absurd cc
    by false true k = absurd cc
    by false false k = k

shown_no_gap : (ns : List (List ℕ)) → are_names ns ≡ true → (bit bits : ℕ) → IsWord no_gap (shown bit bits ns)
shown_no_gap [] names bit bits = tt
shown_no_gap (n ∷ ns) names bit bits = by (bit_and bits bit == bit) (shown_no_gap ns more.1 (2 * bit) bits)
  where
    parts : (is_name n ≡ true) × ((all_words (λ m. apart (n ++ 43 ∷ []) (m ++ 43 ∷ [])) ns && are_names ns) ≡ true)
    parts = and_parts (is_name n) (all_words (λ m. apart (n ++ 43 ∷ []) (m ++ 43 ∷ [])) ns && are_names ns) names

    more : (all_words (λ m. apart (n ++ 43 ∷ []) (m ++ 43 ∷ [])) ns ≡ true) × (are_names ns ≡ true)
    more = and_parts (all_words (λ m. apart (n ++ 43 ∷ []) (m ++ 43 ∷ [])) ns) (are_names ns) parts.1

    name : IsWord no_gap n
    name = every-more (λ byte. is_letter byte ≡ true) (λ byte. no_gap byte ≡ true) letter_no_gap n (name_letters n parts.0)

    by : (t : Bool) → IsWord no_gap (shown (2 * bit) bits ns) → IsWord no_gap (if_set t n ++ shown (2 * bit) bits ns)
    by true later = (refl, every-append (λ byte. no_gap byte ≡ true) n (shown (2 * bit) bits ns) name later)
    by false later = later

behind_plus_no_gap : (text : List ℕ) → IsWord no_gap text → IsWord no_gap (without_plus text)
behind_plus_no_gap [] h = (refl, tt)
behind_plus_no_gap (plus ∷ rest) h = h.1

pub flags_no_gap : (ns : List (List ℕ)) → are_names ns ≡ true → (bits : ℕ) → IsWord no_gap (flags_text (with_bits 1 ns) bits)
flags_no_gap ns names bits = behind_plus_no_gap (shown 1 bits ns) (shown_no_gap ns names 1 bits)
