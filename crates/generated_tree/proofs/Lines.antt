-- How long the lines of the functions are.
use Rattle.std.proofs.Common.{◌≡◌, ℕ, zero, suc, ◌+◌, ◌*◌, ◌<◌, ◌≤◌, ◌^◌, List, [], ◌∷◌, ◌++◌, refl, sym, ap, ◌∙◌, length, decimal, codes, arith, append_assoc, length-append, inl, inr}
use Rattle.std.specs.Str.{IsAscii, chars}
use Rattle.std.proofs.lemmas.Bool.Decides.{leb_tells}
use Rattle.std.proofs.lemmas.Str.{IsAscii-append, chars-IsAscii}
use Rattle.std.proofs.lemmas.Fmt.{length-decimal-le}
use Rattle.std.proofs.Math.Numerals.{add-one}
use Rattle.semantic_kinds.proofs.Ascii.{ascii_text}
use Rattle.semantic_kinds.specs.declared.role.Role.TheVariants as role
use Rattle.semantic_tree.specs.Children.{single}
use Rattle.semantic_tree.specs.Forest.{join}
use Rattle.generated_tree.specs.Generated.{function_name, function_line, lines, function, functions, most_functions}
use Rattle.generated_tree.proofs.Ascii.{name_is_ascii}

-- a line that is added piece by piece
pub pushed : (old name a b c : List ℕ) → a ≡ old ++ codes "function " → b ≡ a ++ name → c ≡ b ++ codes "(a = x) { var x; x = a; }\n" → c ≡ old ++ function_line name
pushed old name a b c first second third =
    third
    ∙ ap (λ text. text ++ codes "(a = x) { var x; x = a; }\n") (second ∙ ap (λ text. text ++ name) first)
    ∙ append_assoc (old ++ codes "function ") name (codes "(a = x) { var x; x = a; }\n")
    ∙ append_assoc old (codes "function ") (name ++ codes "(a = x) { var x; x = a; }\n")

pub line_length : (name : List ℕ) → length (function_line name) ≡ 9 + length name + 26
line_length name =
    let first = length-append (codes "function ") (name ++ codes "(a = x) { var x; x = a; }\n") in
    let second = length-append name (codes "(a = x) { var x; x = a; }\n") in
    let nine : length (codes "function ") ≡ 9 = refl in
    let rest : length (codes "(a = x) { var x; x = a; }\n") ≡ 26 = refl in
    omega arith

pub name_length : (i : ℕ) → i < most_functions → length (function_name i) ≤ 6
name_length i h =
    let digits = length-decimal-le 5 i (omega arith) (omega (arith, h)) (omega (arith, h)) in
    let whole = length-append (codes "f") (decimal i) in
    let one : length (codes "f") ≡ 1 = refl in
    omega arith

next_length : (i : ℕ) → length (lines (suc i)) ≡ length (lines i) + (9 + length (function_name i) + 26)
next_length i = length-append (lines i) (function_line (function_name i)) ∙ ap (λ n. length (lines i) + n) (line_length (function_name i))

-- a line has at most 41 bytes
pub lines_length : (i : ℕ) → i ≤ most_functions → length (lines i) ≤ 41 * i
lines_length zero h = omega arith
lines_length (suc i) h =
    let rest = lines_length i (omega (arith, h)) in
    let name = name_length i (omega (arith, h)) in
    let next = next_length i in
    omega arith

-- a line ends before the next one begins
pub line_within : (i n : ℕ) → i < n → length (lines i) + 9 + length (function_name i) + 26 ≤ length (lines n)
line_within i zero h = absurd (omega (arith, h))
line_within i (suc n) h = elim (leb_tells n i) [
  | inl q ↦
      (let same : i ≡ n = omega (arith, h, q.1) in
      let next = next_length i in
      let whole : length (lines (suc n)) ≡ length (lines (suc i)) = ap (λ k. length (lines (suc k))) (sym same) in
      omega arith)
  | inr q ↦
      (let rest = line_within i n q.1 in
      let next = next_length n in
      omega arith)
]

pub lines_are_ascii : (n : ℕ) → n ≤ most_functions → IsAscii (lines n)
lines_are_ascii zero h = ascii_text [] refl
lines_are_ascii (suc i) h =
    IsAscii-append (lines i) (function_line (function_name i)) (lines_are_ascii i (omega (arith, h)))
    (IsAscii-append (codes "function ") (function_name i ++ codes "(a = x) { var x; x = a; }\n") (ascii_text (codes "function ") refl)
    (IsAscii-append (function_name i) (codes "(a = x) { var x; x = a; }\n") (name_is_ascii i (omega (arith, h))) (ascii_text (codes "(a = x) { var x; x = a; }\n") refl)))

-- the characters of the lines
pub lines_chars : (n : ℕ) → n ≤ most_functions → chars (lines n) ≡ lines n
lines_chars n h = chars-IsAscii (lines n) (lines_are_ascii n h)

pub lines_next : (i : ℕ) → lines (i + 1) ≡ lines i ++ function_line (function_name i)
lines_next i = ap lines (add-one i)

pub functions_next : (i : ℕ) → functions (i + 1) ≡ join (functions i) (single role.Body (function (length (lines i)) (function_name i)))
functions_next i = ap functions (add-one i)

pub ruleset next = (lines_next, functions_next)

pub ruleset lengths = (lines_length)

pub ruleset names = (name_length)
