-- Whether a text is `arguments`, told by its characters.
use Rattle.std.proofs.Common.{◌≡◌, ◌==◌, length, ℕ, List, Bool, true, false, ap, sym, ◌∙◌, refl, codes}
use Rattle.std.specs.Str.{chars, IsUtf8, bytes_eq}
use Rattle.std.proofs.lemmas.Bool.Decides.{Decides-eqb}
use Rattle.std.proofs.lemmas.Slice.Eq.{bytes_eq-Decides}
use Rattle.std.proofs.lemmas.Str.{IsUtf8-from_ascii}
use Rattle.semantic_kinds.proofs.Ascii.{ascii_text, ascii_chars}
use Rattle.semantic_syntax.proofs.SameTexts.{same_texts}

pub named_arguments : (text : List ℕ) → IsUtf8 text → bytes_eq (chars text) (codes "arguments") ≡ bytes_eq text (codes "arguments")
named_arguments text u =
    ap (λ t. bytes_eq (chars text) t) (sym (ascii_chars (codes "arguments") refl))
    ∙ same_texts text (codes "arguments") u (IsUtf8-from_ascii (codes "arguments") (ascii_text (codes "arguments") refl))

-- another text
module _ (text : List ℕ) (other : text ≡ codes "arguments" → ⊥) where
  pub other_text : bytes_eq text (codes "arguments") ≡ false
  other_text = by (bytes_eq text (codes "arguments")) refl
    where
      by : (b : Bool) → bytes_eq text (codes "arguments") ≡ b → b ≡ false
      by true e = absurd (other ((bytes_eq-Decides text (codes "arguments")).0 e))
      by false e = refl

pub empty_is_other : (text : List ℕ) → (length text == 0) ≡ true → text ≡ codes "arguments" → ⊥
empty_is_other text none is =
    let differ : true ≡ false = sym none ∙ ap (λ t. length t == 0) is in
    cc

pub other_number : (a b : ℕ) → (a ≡ b → ⊥) → (a == b) ≡ false
other_number a b other = by (a == b) refl
  where
    by : (t : Bool) → (a == b) ≡ t → t ≡ false
    by true e = absurd (other ((Decides-eqb a b).0 e))
    by false e = refl
