-- How the first bad escape is found, byte by byte.
use Rattle.std.proofs.Common.{◌≡◌, ℕ, List, [], ◌∷◌, Bool, true, false, Option, Some, None, ◌||◌, ◌==◌, cond, refl, ◌∙◌, ap}
use Rattle.std.specs.Option.{option_and_then, option_or}
use Rattle.std.specs.List.{find}
use Rattle.check_model.specs.Literals.{escapes, escapes_after, is_octal_escape, is_eight_or_nine, first_bad_escape, escape_rows}
use Rattle.semantic_syntax.specs.declared.spans.Span.{Span}
use Rattle.check_model.specs.Search.{rows_of_some}
use Rattle.statement_checks.specs.BadEscapes.{kind_of_escape, kind_of_first, escapes_past, rows_of_kind}
use Rattle.statement_checks.specs.declared.escapes.BadEscape.TheVariants.{Octal, EightOrNine}

-- a byte that is no backslash begins no escape
pub past_byte : (byte : ℕ) (rest : List ℕ) → (byte == 92) ≡ false → escapes_after false (byte ∷ rest) ≡ escapes_after false rest
past_byte byte rest h = rw (escapes_after, h) refl

-- a backslash begins one, and the byte after it none
past_escape : (byte escaped : ℕ) (after : List ℕ) → (byte == 92) ≡ true → escapes_after false (byte ∷ escaped ∷ after) ≡ (escaped ∷ after) ∷ escapes_after false after
past_escape byte escaped after h = rw (escapes_after, h) refl

at_end : (byte : ℕ) → (byte == 92) ≡ true → escapes_after false (byte ∷ []) ≡ [] ∷ []
at_end byte h = rw (escapes_after, h) refl

-- the kind of an escape with these truths, and of the escapes after it
by_truths : (octal eight : Bool) (escape : List ℕ) (rest : Option (List ℕ)) → is_octal_escape escape ≡ octal → is_eight_or_nine escape ≡ eight → option_and_then kind_of_escape (cond (octal || eight) (Some escape) rest) ≡ option_or (cond octal (Some Octal) (cond eight (Some EightOrNine) None)) (option_and_then kind_of_escape rest)
by_truths true eight escape rest h k = rw (h) refl
by_truths false true escape rest h k = rw (h, k) refl
by_truths false false escape rest h k = refl

-- the kind of the first bad escape is that of the first one, if it is bad
first_kind : (escape : List ℕ) (rest : List (List ℕ)) → kind_of_first (escape ∷ rest) ≡ option_or (kind_of_escape escape) (kind_of_first rest)
first_kind escape rest = by_truths (is_octal_escape escape) (is_eight_or_nine escape) escape (find (λ e. is_octal_escape e || is_eight_or_nine e) rest) refl refl

pub kind_past_byte : (byte : ℕ) (rest : List ℕ) → (byte == 92) ≡ false → kind_of_first (escapes_after false (byte ∷ rest)) ≡ kind_of_first (escapes_after false rest)
kind_past_byte byte rest h = ap kind_of_first (past_byte byte rest h)

pub kind_past_escape : (byte escaped : ℕ) (after : List ℕ) → (byte == 92) ≡ true → kind_of_first (escapes_after false (byte ∷ escaped ∷ after)) ≡ option_or (kind_of_escape (escaped ∷ after)) (kind_of_first (escapes_after false after))
kind_past_escape byte escaped after h = ap kind_of_first (past_escape byte escaped after h) ∙ first_kind (escaped ∷ after) (escapes_after false after)

pub kind_at_end : (byte : ℕ) → (byte == 92) ≡ true → kind_of_first (escapes_after false (byte ∷ [])) ≡ None
kind_at_end byte h = ap kind_of_first (at_end byte h)

-- the same from behind a backslash on
pub kind_behind : (escaped : ℕ) (after : List ℕ) → kind_of_first (escapes_past (Some (escaped ∷ after))) ≡ option_or (kind_of_escape (escaped ∷ after)) (kind_of_first (escapes_after false after))
kind_behind escaped after = first_kind (escaped ∷ after) (escapes_after false after)

pub kind_behind_last : kind_of_first (escapes_past (Some [])) ≡ None
kind_behind_last = refl

pub ruleset steps = (kind_past_byte, kind_past_escape, kind_at_end, kind_behind, kind_behind_last)

-- the rows of the first bad escape, by its kind
rows_by : (octal eight : Bool) (span : Span) (escape : List ℕ) → is_octal_escape escape ≡ octal → is_eight_or_nine escape ≡ eight → (octal || eight) ≡ true → escape_rows span escape ≡ rows_of_kind span (kind_of_escape escape)
rows_by true eight span escape h k q = rw h refl
rows_by false true span escape h k q = rw (h, k) refl
rows_by false false span escape h k q = absurd cc

rows_first : (span : Span) (es : List (List ℕ)) → rows_of_some (escape_rows span) (find (λ e. is_octal_escape e || is_eight_or_nine e) es) ≡ rows_of_kind span (kind_of_first es)
rows_first span [] = refl
rows_first span (e ∷ es) = by (is_octal_escape e) (is_eight_or_nine e) refl refl (rows_first span es)
  where
    by : (octal eight : Bool) → is_octal_escape e ≡ octal → is_eight_or_nine e ≡ eight
        → rows_of_some (escape_rows span) (find (λ e. is_octal_escape e || is_eight_or_nine e) es) ≡ rows_of_kind span (kind_of_first es)
        → rows_of_some (escape_rows span) (find (λ e. is_octal_escape e || is_eight_or_nine e) (e ∷ es)) ≡ rows_of_kind span (kind_of_first (e ∷ es))
    by true eight h k rest = rw (h) (rw (h) refl)
    by false true h k rest = rw (h, k) (rw (h, k) refl)
    by false false h k rest = rw (h, k) rest

pub rows_are : (span : Span) (raw : List ℕ) → rows_of_some (escape_rows span) (first_bad_escape raw) ≡ rows_of_kind span (kind_of_first (escapes raw))
rows_are span raw = rows_first span (escapes raw)

pub ruleset rows = (rows_are)
