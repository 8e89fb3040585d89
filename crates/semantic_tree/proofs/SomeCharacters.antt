-- Texts of some bytes have some characters.
use Rattle.std.proofs.Common.{◌≡◌, ℕ, ◌<◌, List, [], true, length, ap, sym, ◌∙◌, arith}
use Rattle.std.specs.Str.{chars, IsUtf8, bytes_eq}
use Rattle.std.proofs.lemmas.Str.{chars-nil, IsUtf8-nil}
use Rattle.std.proofs.lemmas.Slice.Eq.{bytes_eq-Decides}
use Rattle.semantic_syntax.proofs.SameTexts.{same_texts}

pub has_chars : (x : List ℕ) → IsUtf8 x → 0 < length x → chars x ≡ [] → ⊥
has_chars x u h e =
    let same : bytes_eq (chars x) (chars []) ≡ bytes_eq x [] = same_texts x [] u IsUtf8-nil in
    let alike : bytes_eq (chars x) (chars []) ≡ true = (bytes_eq-Decides (chars x) (chars [])).1 (e ∙ sym chars-nil) in
    let none : length x ≡ 0 = ap length ((bytes_eq-Decides x []).0 (sym same ∙ alike)) in
    absurd (omega arith)
