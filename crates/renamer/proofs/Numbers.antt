-- The number that a word of digits is.
use Rattle.std.proofs.Common.{◌≡◌, ℕ, ◌<◌, ◌^◌, ◌&&◌, Bool, true, false, not, nat_lt, List, length, None, Result, Ok, Err, refl, arith, rules, tests}
use Rattle.std.proofs.lemmas.Str.Parse.{IsNumeralModel, numerals_by_value, parse_digits}
use Rattle.std.specs.Char.{is_ascii_digit}
use Rattle.std.specs.List.{list_all}
use Rattle.std.specs.Result.{OkIff}
use Rattle.std.specs.Str.Parse.{digits_value, ParsesUnsigned}
use Rattle.renamer.specs.Requests.{has_leading_zero, is_plain_number, symbol_number}

own : IsNumeralModel (λ ds. list_all is_ascii_digit ds ≡ true) (digits_value 10)
own = numerals_by_value _ (search rules)

plain_parts : (some plain digits : Bool) → some && not plain && digits ≡ true → (some ≡ true) × (digits ≡ true)
plain_parts true false true h = (refl, refl)
plain_parts true false false h = absurd (cc)
plain_parts true true digits h = absurd (cc)
plain_parts false plain digits h = absurd (cc)

-- what is read of a number so written
read_as : {E : Type 0} (word : List ℕ) (r : Result ℕ E) → is_plain_number word ≡ true → ParsesUnsigned 32 10 word r → OkIff r (digits_value 10 word < 2 ^ 32) (digits_value 10 word)
read_as word r plain parsed =
    let (some, digits) = plain_parts (nat_lt 0 (length word)) (has_leading_zero word) (list_all is_ascii_digit word) plain in
    go r (parse_digits own 32 word r parsed digits) (search (rules, tests, some))
  where
    go : {E : Type 0} (r : Result ℕ E) → OkIff r ((0 < length word) × (digits_value 10 word < 2 ^ 32)) (digits_value 10 word) → 0 < length word → OkIff r (digits_value 10 word < 2 ^ 32) (digits_value 10 word)
    go (Ok n) h l = (h.0.1, h.1)
    go (Err e) h l = λ small. h (l, small)

-- a number that is too great for any symbol
pub too_great : {E : Type 0} (word : List ℕ) (e : E) → is_plain_number word ≡ true → ParsesUnsigned 32 10 word (Err e) → None ≡ symbol_number word
too_great word e plain parsed =
    let large : digits_value 10 word < 2 ^ 32 → ⊥ = read_as word (Err e) plain parsed in
    let not_less : nat_lt (digits_value 10 word) 4294967295 ≡ false = grind (arith, tests, large) in
    rw (plain, not_less) refl
