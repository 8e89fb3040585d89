-- Numbers whose digits are added two at a time.
use Rattle.std.proofs.Common.{◌≡◌, ℕ, ◌/◌, ◌%◌, ◌^◌, ◌+◌, ◌<◌, ◌≤◌, List, [], ◌∷◌, ◌++◌, ap, sym, ◌∙◌, append_assoc}
use Rattle.std.proofs.lemmas.Fmt.{decimal_digit}
use Rattle.std.specs.Fmt.{decimal}
use Rattle.itoa.proofs.Decimal.{decimal_two, decimal_pair}
use Rattle.report_lines.specs.Pieces.{two_digits}

pub one_digit : (line : List ℕ) (n : ℕ) → n < 10 → line ++ (48 + n) ∷ [] ≡ line ++ decimal n
one_digit line n small = ap (λ digits. line ++ digits) (sym (decimal_digit n small))

pub two_digits_alone : (line : List ℕ) (n : ℕ) → 10 ≤ n → n < 100 → line ++ two_digits n ≡ line ++ decimal n
two_digits_alone line n from to = ap (λ digits. line ++ digits) (sym (decimal_two n from to))

pub two_digits_more : (line : List ℕ) (n : ℕ) → 100 ≤ n → n < 2 ^ 64 → (line ++ decimal (n / 100)) ++ two_digits (n % 100) ≡ line ++ decimal n
two_digits_more line n from to = append_assoc line (decimal (n / 100)) (two_digits (n % 100)) ∙ ap (λ digits. line ++ digits) (sym (decimal_pair n from to))
