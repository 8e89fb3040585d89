-- The names of functions are ASCII texts.
use Rattle.std.proofs.Common.{ℕ, suc, zero, ◌<◌, ◌^◌, List, [], ◌∷◌, IsTrue, refl, decimal, codes}
use Rattle.std.specs.Str.{IsAscii}
use Rattle.std.proofs.lemmas.Bool.{lt-ltb}
use Rattle.std.proofs.lemmas.Str.{IsAscii-append}
use Rattle.std.proofs.lemmas.Fmt.{IsAscii-decimal}
use Rattle.semantic_kinds.specs.Ascii.{is_ascii}
use Rattle.semantic_kinds.proofs.Ascii.{ascii_text}
use Rattle.generated_tree.specs.Generated.{function_name}

tested : (text : List ℕ) → IsAscii text → IsTrue (is_ascii text)
tested [] h = refl
tested (byte ∷ rest) h = rw (lt-ltb byte 128 (h zero)) (tested rest (λ i. h (suc i)))

pub name_is_ascii : (i : ℕ) → i < 2 ^ 64 → IsAscii (function_name i)
name_is_ascii i h = IsAscii-append (codes "f") (decimal i) (ascii_text (codes "f") refl) (IsAscii-decimal i h)

-- the name of a function
pub ascii_name : (i : ℕ) → i < 2 ^ 64 → IsTrue (is_ascii (function_name i))
ascii_name i h = tested (function_name i) (name_is_ascii i h)

pub ruleset ascii_names = (ascii_name)
