-- What is meant by a JSDoc type, as characters.
use Rattle.std.proofs.Common.{◌≡◌, ℕ, List, ◌++◌, IsTrue, ap, ◌∙◌}
use Rattle.std.specs.Str.{chars, IsUtf8}
use Rattle.std.proofs.lemmas.Str.{chars-append}
use Rattle.semantic_kinds.specs.Ascii.{is_ascii}
use Rattle.semantic_kinds.proofs.Ascii.{ascii_chars}

-- an ASCII text behind another
pub chars_before : (text after : List ℕ) → IsUtf8 text → IsTrue (is_ascii after) → chars (text ++ after) ≡ chars text ++ after
chars_before text after u h = chars-append text after u ∙ ap (λ l. chars text ++ l) (ascii_chars after h)
