-- The characters of texts with ASCII parts.
use Rattle.std.proofs.Common.{◌≡◌, ℕ, List, [], ◌∷◌, ◌++◌, IsTrue, refl, append-nil}
use lib.Utf8.{encode}
use Rattle.std.specs.Char.{IsScalar}
use Rattle.std.specs.List.{concat}
use Rattle.std.specs.Str.{chars, IsUtf8}
use Rattle.std.proofs.lemmas.Str.{chars-append, chars_past_char, IsUtf8-from_ascii, IsUtf8-append, IsUtf8-encode}
use Rattle.semantic_kinds.proofs.Ascii.{ascii_text, ascii_chars}
use Rattle.semantic_kinds.specs.Ascii.{is_ascii}

utf8_text : (text : List ℕ) → IsTrue (is_ascii text) → IsUtf8 text
utf8_text text h = IsUtf8-from_ascii text (ascii_text text h)

pub chars_around : (before name after : List ℕ) → IsTrue (is_ascii before) → IsTrue (is_ascii after) → IsUtf8 name → chars (before ++ (name ++ after)) ≡ concat (before ∷ chars name ∷ after ∷ [])
chars_around before name after h k u = rw (chars-append before (name ++ after) (utf8_text before h), ascii_chars before h, chars-append name after u, ascii_chars after k, append-nil after) refl

-- two ASCII texts one behind the other
chars_both : (text after : List ℕ) → IsTrue (is_ascii text) → chars (text ++ after) ≡ text ++ chars after
chars_both text after h = rw (chars-append text after (utf8_text text h), ascii_chars text h) refl

-- a character in front of a text
chars_char : (mark : ℕ) (after : List ℕ) → IsScalar mark → IsUtf8 after → chars (encode mark ++ after) ≡ mark ∷ chars after
chars_char mark after h u = rw (chars_past_char (encode mark ++ after) after mark (IsUtf8-append (encode mark) after (IsUtf8-encode mark h) u) refl) refl

-- a character and a word in a text
pub chars_marked : (before : List ℕ) (mark : ℕ) (middle word after : List ℕ) → IsTrue (is_ascii before) → IsScalar mark → IsTrue (is_ascii middle) → IsTrue (is_ascii word) → IsTrue (is_ascii after)
    → chars (before ++ (encode mark ++ (middle ++ (word ++ after)))) ≡ concat (before ∷ (mark ∷ []) ∷ middle ∷ word ∷ after ∷ [])
chars_marked before mark middle word after b m i w a =
    let behind : IsUtf8 (middle ++ (word ++ after)) = IsUtf8-append middle (word ++ after) (utf8_text middle i) (IsUtf8-append word after (utf8_text word w) (utf8_text after a)) in
    rw (chars_both before (encode mark ++ (middle ++ (word ++ after))) b, chars_char mark (middle ++ (word ++ after)) m behind, chars_both middle (word ++ after) i, chars_both word after w, ascii_chars after a, append-nil after) refl

pub ruleset ascii_texts = (ascii_chars, chars_around)
