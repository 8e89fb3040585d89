-- No two short names are the same, and each is an identifier.
use Rattle.std.proofs.Common.{◌≡◌, ℕ, zero, suc, ◌+◌, ◌-◌, ◌/◌, ◌%◌, ◌*◌, ◌<◌, ◌≤◌, nat_lt, ◌==◌, List, ◌∷◌, Bool, true, cond, inl, inr, refl, sym, ap, subst, ◌∙◌, arith, mod-lt, div-le_self, div-add-mod'}
use Rattle.std.specs.List.{list_all, range_with_len}
use Rattle.std.proofs.lemmas.Bool.{and_parts, eqb-true}
use Rattle.std.proofs.lemmas.Bool.Decides.{eqb_tells}
use Rattle.mangle_model.specs.GoodNames.{is_start, is_part, is_ascii_identifier}
use Rattle.mangle_model.specs.ShortNames.{character, further, short_name}

-- what holds of each number of a range
each_of : (test : ℕ → Bool) (from count : ℕ) → list_all test (range_with_len from count) ≡ true → (n : ℕ) → from ≤ n → n < from + count → test n ≡ true
each_of test from zero h n i j = absurd (omega (arith, i, j))
each_of test from (suc count) h n i j = elim (eqb_tells from n) [
  | inl e ↦ subst (λ m. test m ≡ true) e.1 (and_parts (test from) (list_all test (range_with_len (from + 1) count)) h).0
  | inr e ↦ each_of test (from + 1) count (and_parts (test from) (list_all test (range_with_len (from + 1) count)) h).1 n (omega (arith, i, e.1)) (omega (arith, j))
]

-- ---- characters

-- the number of a character
abbrev number_of : ℕ → ℕ
number_of c = cond (nat_lt 96 c) (c - 97) (cond (c == 95) 52 (cond (nat_lt 64 c) (c - 39) (cond (c == 36) 53 (c + 6))))

numbered : (n : ℕ) → n < 64 → number_of (character n) ≡ n
numbered n h = eqb-true (number_of (character n)) n (each_of (λ k. number_of (character k) == k) 0 64 refl n (omega arith) (omega (arith, h)))

one_character : (n m : ℕ) → n < 64 → m < 64 → character n ≡ character m → n ≡ m
one_character n m h k e = sym (numbered n h) ∙ ap number_of e ∙ numbered m k

-- ---- names

head_is : (x y : ℕ) (xs ys : List ℕ) → ◌≡◌ {A = List ℕ} (x ∷ xs) (y ∷ ys) → x ≡ y
head_is x y xs ys e = cc

tail_is : (x y : ℕ) (xs ys : List ℕ) → ◌≡◌ {A = List ℕ} (x ∷ xs) (y ∷ ys) → xs ≡ ys
tail_is x y xs ys e = cc

-- a number has one quotient and one remainder
parts_tell : (d n m : ℕ) → n / d ≡ m / d → n % d ≡ m % d → n ≡ m
parts_tell d n m e f = sym (div-add-mod' n d) ∙ (λ i. e i * d + f i) ∙ div-add-mod' m d

below_64 : (n : ℕ) → n % 64 < 64
below_64 n = mod-lt n (omega arith)

below_54 : (n : ℕ) → n % 54 < 54
below_54 n = mod-lt n (omega arith)

one_end : (most more n m : ℕ) → n ≤ most → m ≤ more → further most n ≡ further more m → n ≡ m
one_end zero zero n m h k e = omega (arith, h, k)
one_end zero (suc more) n zero h k e = omega (arith, h)
one_end zero (suc more) n (suc m) h k e = absurd cc
one_end (suc most) zero zero m h k e = omega (arith, k)
one_end (suc most) zero (suc n) m h k e = absurd cc
one_end (suc most) (suc more) zero zero h k e = refl
one_end (suc most) (suc more) zero (suc m) h k e = absurd cc
one_end (suc most) (suc more) (suc n) zero h k e = absurd cc
one_end (suc most) (suc more) (suc n) (suc m) h k e =
    let first : n % 64 ≡ m % 64 = one_character (n % 64) (m % 64) (below_64 n) (below_64 m) (head_is _ _ _ _ e) in
    let rest : n / 64 ≡ m / 64 = one_end most more (n / 64) (m / 64) (omega (arith, div-le_self n 64, h)) (omega (arith, div-le_self m 64, k)) (tail_is _ _ _ _ e) in
    ap suc (parts_tell 64 n m rest first)

pub one_short_name : (n m : ℕ) → short_name n ≡ short_name m → n ≡ m
one_short_name n m e =
    let first : n % 54 ≡ m % 54 = one_character (n % 54) (m % 54) (omega (arith, below_54 n)) (omega (arith, below_54 m)) (head_is _ _ _ _ e) in
    parts_tell 54 n m (one_end n m (n / 54) (m / 54) (div-le_self n 54) (div-le_self m 54) (tail_is _ _ _ _ e)) first

-- ---- identifiers

starts : (n : ℕ) → n < 54 → is_start (character n) ≡ true
starts n h = each_of (λ k. is_start (character k)) 0 54 refl n (omega arith) (omega (arith, h))

goes_on : (n : ℕ) → n < 64 → is_part (character n) ≡ true
goes_on n h = each_of (λ k. is_part (character k)) 0 64 refl n (omega arith) (omega (arith, h))

ends : (most n : ℕ) → list_all is_part (further most n) ≡ true
ends zero n = refl
ends (suc most) zero = refl
ends (suc most) (suc n) = rw (goes_on (n % 64) (below_64 n), ends most (n / 64)) refl

pub short_name_fits : (n : ℕ) → is_ascii_identifier (short_name n) ≡ true
short_name_fits n = rw (starts (n % 54) (below_54 n), ends n (n / 54)) refl
