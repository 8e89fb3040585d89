-- Texts and their characters.
use Rattle.std.proofs.Common.{◌≡◌, ℕ, List, ap, sym, ◌∙◌}
use Rattle.std.specs.Str.{chars, encode_utf8_all, IsUtf8}
use Rattle.std.proofs.lemmas.Str.{encodes-chars}

-- a text that equals one in UTF-8 is its characters in UTF-8
pub same_characters : (bytes text : List ℕ) → IsUtf8 bytes → bytes ≡ text → bytes ≡ encode_utf8_all (chars text)
same_characters bytes text utf8 same = sym (encodes-chars bytes utf8) ∙ ap (λ b. encode_utf8_all (chars b)) same
