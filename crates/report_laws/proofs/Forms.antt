-- The forms of lines: words, pieces that tell something, and items that follow one another, each behind a word.
use Rattle.std.proofs.Common.{if◌then◌else◌, ◌≡◌, ℕ, ◌&&◌, ◌⊎◌, not, Bool, true, false, List, [], ◌∷◌, ◌++◌, Option, decimal, encode_utf8_all, option_map, IfSome}
use Rattle.std.specs.Char.{is_digit}
use Rattle.std.specs.List.{AllByRecursion}
use Rattle.semantic_kinds.specs.Kinds.{kind_name}
use Rattle.semantic_kinds.specs.declared.kind.AstType.{AstType}
use Rattle.report_lines.specs.Pieces as pieces
use Rattle.report_laws.proofs.Closed.{apart}
use Rattle.report_laws.proofs.FlagNames.{are_names, all_words}
use Rattle.table_bounds.specs.Tellable.{no_gap, IsWrittenWhole, HaveNames, IsPlainWord}

-- a piece of a line
pub data Piece : Type 0 where
  number : Piece
  number_or_dash : Piece
  -- a text in quotes
  name : Piece
  name_or_dash : Piece
  -- a text as it is
  word_or_dash : Piece
  -- flags of these names
  flags : List (List ℕ) → Piece
  -- one of two words
  truth : List ℕ → List ℕ → Piece
  -- the name of a kind of nodes
  kind_word : Piece

-- what a piece tells
abbrev pub Told : Piece → Type 0
Told number = ℕ
Told number_or_dash = Option ℕ
Told name = List ℕ
Told name_or_dash = Option (List ℕ)
Told word_or_dash = Option (List ℕ)
Told (flags names) = ℕ
Told (truth on off) = Bool
Told kind_word = AstType

abbrev pub text_of : (p : Piece) → Told p → List ℕ
text_of number n = decimal n
text_of number_or_dash o = pieces.number_or_dash o
text_of name text = pieces.quoted (encode_utf8_all text)
text_of name_or_dash o = pieces.quoted_or_dash (option_map encode_utf8_all o)
text_of word_or_dash o = pieces.plain_or_dash (option_map encode_utf8_all o)
text_of (flags names) bits = pieces.flags_text (pieces.with_bits 1 names) bits
text_of (truth on off) b = if b then on else off
text_of kind_word k = kind_name k

abbrev pub is_decimal : ℕ → Bool
is_decimal byte = is_digit byte 10

-- whether the byte may be part of the piece
abbrev pub is_part : Piece → ℕ → Bool
is_part number = is_decimal
is_part number_or_dash = no_gap
is_part name = no_gap
is_part name_or_dash = no_gap
is_part word_or_dash = no_gap
is_part (flags names) = no_gap
is_part (truth on off) = no_gap
is_part kind_word = no_gap

-- what is told can be read back
abbrev pub IsTold : (p : Piece) → Told p → Type 0
IsTold number n = IsWrittenWhole n
IsTold number_or_dash o = IfSome o IsWrittenWhole
IsTold name text = Unit {0}
IsTold name_or_dash o = Unit {0}
IsTold word_or_dash o = IfSome o IsPlainWord
IsTold (flags names) bits = HaveNames names bits
IsTold (truth on off) b = Unit {0}
IsTold kind_word k = Unit {0}

abbrev pub is_good : Piece → Bool
is_good number = true
is_good number_or_dash = true
is_good name = true
is_good name_or_dash = true
is_good word_or_dash = true
is_good (flags names) = are_names names
is_good (truth on off) = apart on off
is_good kind_word = true

-- ---- forms

pub data Form : Type 0 where
  end : Form
  word : List ℕ → Form → Form
  piece : Piece → Form → Form
  each : List ℕ → Form → Form → Form

-- what a text of a form tells
abbrev pub Values : Form → Type 0
Values end = Unit {0}
Values (word w f) = Values f
Values (piece p f) = Told p × Values f
Values (each w item f) = List (Values item) × Values f

abbrev pub one_by_one : {A : Type 0} → List ℕ → (A → List ℕ → List ℕ) → List A → List ℕ → List ℕ
one_by_one w go [] rest = rest
one_by_one w go (x ∷ xs) rest = w ++ go x (one_by_one w go xs rest)

-- the text, and what stands behind it
abbrev pub written : (f : Form) → Values f → List ℕ → List ℕ
written end v rest = rest
written (word w f) v rest = w ++ written f v rest
written (piece p f) v rest = text_of p v.0 ++ written f v.1 rest
written (each w item f) v rest = one_by_one w (written item) v.0 (written f v.1 rest)

abbrev pub AreTold : (f : Form) → Values f → Type 0
AreTold end v = Unit {0}
AreTold (word w f) v = AreTold f v
AreTold (piece p f) v = IsTold p v.0 × AreTold f v.1
AreTold (each w item f) v = AllByRecursion (AreTold item) v.0 × AreTold f v.1

-- ---- sound forms

-- the words with which a text of the form begins, where these stand behind it
abbrev pub starts : Form → List (List ℕ) → List (List ℕ)
starts end after = after
starts (word w f) after = w ∷ []
starts (piece p f) after = [] ∷ []
starts (each w item f) after = w ∷ starts f after

-- no text that begins with the word goes on with the piece
abbrev pub closes : Piece → List ℕ → Bool
closes p [] = false
closes p (byte ∷ rest) = not (is_part p byte)

abbrev pub not_empty : List ℕ → Bool
not_empty [] = false
not_empty (byte ∷ rest) = true

-- each piece ends where the next word begins, and items begin otherwise than what stands behind them
abbrev pub is_sound : Form → List (List ℕ) → Bool
is_sound end after = true
is_sound (word w f) after = is_sound f after
is_sound (piece p f) after = is_good p && (all_words (closes p) (starts f after) && is_sound f after)
is_sound (each w item f) after = not_empty w && (all_words (apart w) (starts f after) && (is_sound item (w ∷ starts f after) && is_sound f after))

-- nothing is left, or one of the words
abbrev pub BeginsAmong : List (List ℕ) → List ℕ → Type 0
BeginsAmong [] rest = rest ≡ []
BeginsAmong (w ∷ ws) rest = ((more : List ℕ) × (rest ≡ w ++ more)) ⊎ BeginsAmong ws rest
