-- Texts whose bytes pass the test of ASCII are their characters.
use Rattle.std.proofs.Common.{◌≡◌, List, [], ◌∷◌, ℕ, IsTrue, nat_lt, ltb-true}
use Rattle.std.specs.Str.{chars, IsAscii}
use Rattle.std.proofs.lemmas.Bool.{and_parts}
use Rattle.std.proofs.lemmas.Str.{chars-IsAscii}
use Rattle.std.proofs.lemmas.Str.Ascii.{IsAscii-nil, IsAscii-cons}
use Rattle.semantic_kinds.specs.Ascii.{is_ascii}

pub ascii_text : (text : List ℕ) → IsTrue (is_ascii text) → IsAscii text
ascii_text [] h = IsAscii-nil
ascii_text (byte ∷ rest) h = let parts = and_parts (nat_lt byte 128) (is_ascii rest) h in IsAscii-cons byte rest (ltb-true byte 128 parts.0) (ascii_text rest parts.1)

pub ascii_chars : (text : List ℕ) → IsTrue (is_ascii text) → chars text ≡ text
ascii_chars text h = chars-IsAscii text (ascii_text text h)

pub ruleset ascii_texts = (ascii_chars)
