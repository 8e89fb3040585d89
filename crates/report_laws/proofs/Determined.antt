-- A text of a sound form determines what it tells.
use Rattle.std.proofs.Common.{if◌then◌else◌, ◌≡◌, ℕ, ◌<◌, ◌^◌, ◌&&◌, inl, inr, not, Bool, true, false, List, [], ◌∷◌, ◌++◌, Option, Some, None, codes, decimal, encode_utf8_all, refl, sym, ap, ◌∙◌, subst, arith, zero, suc}
use Rattle.std.proofs.lemmas.List.{append_cancel_left}
use Rattle.std.proofs.lemmas.Bool.{and_parts, ne_eqb, lt-ltb}
use Rattle.std.proofs.lemmas.Fmt.{decimal_is_IsNumeral, decimal_injective}
use Rattle.std.proofs.lemmas.Str.Parse.{digit_from_value}
use Rattle.std.specs.Char.{digit_value}
use Rattle.std.specs.Int.{IsInRange}
use Rattle.std.specs.Str.Parse.{AllDigits}
use Rattle.std.specs.List.{AllByRecursion, list_all}
use Rattle.std.specs.Prelude.{slice_get}
use Rattle.semantic_kinds.specs.Kinds.{kind_name, kind_named, kind_number, all_kinds}
use Rattle.semantic_kinds.specs.declared.kind.AstType.{AstType}
use Rattle.semantic_kinds.proofs.KindNames.{kind_in_place, kind_named-kind_name}
use Rattle.report_lines.specs.Pieces.{quoted, flags_text, with_bits}
use Rattle.table_bounds.specs.Tellable.{no_gap}
use Rattle.report_laws.proofs.Closed.{BothSame, same_pair, same_cons, same_word, IsWord, IsClosed, apart, apart_differ, all_pass, passing}
use Rattle.report_laws.proofs.Escaped.{same_quoted, quoted_begins}
use Rattle.report_laws.proofs.Utf8.{same_encoded}
use Rattle.report_laws.proofs.FlagNames.{all_words, same_flags, flags_no_gap}
use Rattle.report_laws.proofs.Forms.{Piece, number, number_or_dash, name, name_or_dash, word_or_dash, flags, truth, kind_word, Told, text_of, is_decimal, is_part, IsTold, is_good, Form, end, word, piece, each, Values, one_by_one, written, AreTold, starts, closes, not_empty, is_sound, BeginsAmong}

-- ---- pieces

are_decimal : (ds : List ℕ) → AllDigits 10 ds → IsWord is_decimal ds
are_decimal [] h = tt
are_decimal (d ∷ ds) h = (lt-ltb (digit_value d) 10 h.0, are_decimal ds h.1)

digit_no_gap : (d : ℕ) → digit_value d < 10 → no_gap d ≡ true
digit_no_gap d h =
    let range : IsInRange 48 57 d = digit_from_value d h in
    rw (ne_eqb d 32 (λ e. omega (arith, range.0, e)), ne_eqb d 10 (λ e. omega (arith, range.0, e))) refl

digits_no_gap : (ds : List ℕ) → AllDigits 10 ds → IsWord no_gap ds
digits_no_gap [] h = tt
digits_no_gap (d ∷ ds) h = (digit_no_gap d h.0, digits_no_gap ds h.1)

decimal_digits : (n : ℕ) → n < 2 ^ 64 → AllDigits 10 (decimal n)
decimal_digits n h = (decimal_is_IsNumeral n h).0.1

no_dash : (n : ℕ) → n < 2 ^ 64 → codes "-" ≡ decimal n → ⊥
no_dash n h e =
    let word : IsWord is_decimal (codes "-") = subst (IsWord is_decimal) (sym e) (are_decimal (decimal n) (decimal_digits n h)) in
    let wrong : is_decimal 45 ≡ true = word.0 in
    absurd cc

same_number : (m n : ℕ) → m < 2 ^ 64 → n < 2 ^ 64 → (r s : List ℕ) → IsClosed is_decimal r → IsClosed is_decimal s → decimal m ++ r ≡ decimal n ++ s → BothSame m n r s
same_number m n hm hn r s cr cs e =
    let texts : BothSame (decimal m) (decimal n) r s = same_word is_decimal (decimal m) (decimal n) r s (are_decimal (decimal m) (decimal_digits m hm)) (are_decimal (decimal n) (decimal_digits n hn)) cr cs e in
    (decimal_injective m n hm hn texts.0, texts.1)

dash_no_gap : IsWord no_gap (codes "-")
dash_no_gap = (refl, tt)

same_number_or_dash : (a b : Option ℕ) → IsTold number_or_dash a → IsTold number_or_dash b → (r s : List ℕ) → IsClosed no_gap r → IsClosed no_gap s
    → text_of number_or_dash a ++ r ≡ text_of number_or_dash b ++ s → BothSame a b r s
same_number_or_dash None None ha hb r s cr cs e = (refl, append_cancel_left (codes "-") r s e)
same_number_or_dash None (Some n) ha hb r s cr cs e =
    let texts : BothSame (codes "-") (decimal n) r s = same_word no_gap (codes "-") (decimal n) r s dash_no_gap (digits_no_gap (decimal n) (decimal_digits n hb)) cr cs e in
    absurd (no_dash n hb texts.0)
same_number_or_dash (Some m) None ha hb r s cr cs e =
    let texts : BothSame (decimal m) (codes "-") r s = same_word no_gap (decimal m) (codes "-") r s (digits_no_gap (decimal m) (decimal_digits m ha)) dash_no_gap cr cs e in
    absurd (no_dash m ha (sym texts.0))
same_number_or_dash (Some m) (Some n) ha hb r s cr cs e =
    let texts : BothSame (decimal m) (decimal n) r s = same_word no_gap (decimal m) (decimal n) r s (digits_no_gap (decimal m) (decimal_digits m ha)) (digits_no_gap (decimal n) (decimal_digits n hb)) cr cs e in
    (ap (λ k. Some k) (decimal_injective m n ha hb texts.0), texts.1)

same_name : (a b r s : List ℕ) → text_of name a ++ r ≡ text_of name b ++ s → BothSame a b r s
same_name a b r s e =
    let texts : BothSame (encode_utf8_all a) (encode_utf8_all b) r s = same_quoted (encode_utf8_all a) (encode_utf8_all b) r s e in
    (same_encoded a b texts.0, texts.1)

no_quote : (text r s : List ℕ) → codes "-" ++ r ≡ quoted text ++ s → ⊥
no_quote text r s e = let begins = e ∙ quoted_begins text s in let same : ◌≡◌ {A = ℕ} 45 34 = cc in absurd (omega (arith, same))

same_name_or_dash : (a b : Option (List ℕ)) → (r s : List ℕ) → text_of name_or_dash a ++ r ≡ text_of name_or_dash b ++ s → BothSame a b r s
same_name_or_dash None None r s e = (refl, append_cancel_left (codes "-") r s e)
same_name_or_dash None (Some b) r s e = absurd (no_quote (encode_utf8_all b) r s e)
same_name_or_dash (Some a) None r s e = absurd (no_quote (encode_utf8_all a) s r (sym e))
same_name_or_dash (Some a) (Some b) r s e = let same : BothSame a b r s = same_name a b r s e in (ap (λ k. Some k) same.0, same.1)

same_word_or_dash : (a b : Option (List ℕ)) → IsTold word_or_dash a → IsTold word_or_dash b → (r s : List ℕ) → IsClosed no_gap r → IsClosed no_gap s
    → text_of word_or_dash a ++ r ≡ text_of word_or_dash b ++ s → BothSame a b r s
same_word_or_dash None None ha hb r s cr cs e = (refl, append_cancel_left (codes "-") r s e)
same_word_or_dash None (Some b) ha hb r s cr cs e =
    let texts : BothSame (codes "-") (encode_utf8_all b) r s = same_word no_gap (codes "-") (encode_utf8_all b) r s dash_no_gap hb.no_gaps cr cs e in
    absurd (hb.no_dash (sym texts.0))
same_word_or_dash (Some a) None ha hb r s cr cs e =
    let texts : BothSame (encode_utf8_all a) (codes "-") r s = same_word no_gap (encode_utf8_all a) (codes "-") r s ha.no_gaps dash_no_gap cr cs e in
    absurd (ha.no_dash texts.0)
same_word_or_dash (Some a) (Some b) ha hb r s cr cs e =
    let texts : BothSame (encode_utf8_all a) (encode_utf8_all b) r s = same_word no_gap (encode_utf8_all a) (encode_utf8_all b) r s ha.no_gaps hb.no_gaps cr cs e in
    (ap (λ k. Some k) (same_encoded a b texts.0), texts.1)

same_truth : (on off : List ℕ) → apart on off ≡ true → (a b : Bool) (r s : List ℕ) → (if a then on else off) ++ r ≡ (if b then on else off) ++ s → BothSame a b r s
same_truth on off parts true true r s e = (refl, append_cancel_left on r s e)
same_truth on off parts true false r s e = absurd (apart_differ on off r s parts e)
same_truth on off parts false true r s e = absurd (apart_differ on off s r parts (sym e))
same_truth on off parts false false r s e = (refl, append_cancel_left off r s e)

passes_there : {A : Type 0} (test : A → Bool) (xs : List A) → list_all test xs ≡ true → (i : ℕ) (x : A) → slice_get xs i ≡ Some x → test x ≡ true
passes_there test [] h i x e = absurd cc
passes_there test (y ∷ ys) h zero x e =
    let is : y ≡ x = cc in subst (λ z. test z ≡ true) is (and_parts (test y) (list_all test ys) h).0
passes_there test (y ∷ ys) h (suc i) x e = passes_there test ys (and_parts (test y) (list_all test ys) h).1 i x e

kind_no_gap : (k : AstType) → IsWord no_gap (kind_name k)
kind_no_gap k = passing no_gap (kind_name k) (passes_there (λ (one : AstType). all_pass no_gap (kind_name one)) all_kinds refl (kind_number k) k (kind_in_place k))

same_kind_word : (a b : AstType) (r s : List ℕ) → IsClosed no_gap r → IsClosed no_gap s → kind_name a ++ r ≡ kind_name b ++ s → BothSame a b r s
same_kind_word a b r s cr cs e =
    let texts : BothSame (kind_name a) (kind_name b) r s = same_word no_gap (kind_name a) (kind_name b) r s (kind_no_gap a) (kind_no_gap b) cr cs e in
    let read : ◌≡◌ {A = Option AstType} (Some a) (Some b) = sym (kind_named-kind_name a) ∙ ap kind_named texts.0 ∙ kind_named-kind_name b in
    let is : a ≡ b = cc in
    (is, texts.1)

-- a piece ends where no byte is part of it
pub same_piece : (p : Piece) → is_good p ≡ true → (a b : Told p) → IsTold p a → IsTold p b → (r s : List ℕ) → IsClosed (is_part p) r → IsClosed (is_part p) s
    → text_of p a ++ r ≡ text_of p b ++ s → BothSame a b r s
same_piece number good a b ha hb r s cr cs e = same_number a b ha hb r s cr cs e
same_piece number_or_dash good a b ha hb r s cr cs e = same_number_or_dash a b ha hb r s cr cs e
same_piece name good a b ha hb r s cr cs e = same_name a b r s e
same_piece name_or_dash good a b ha hb r s cr cs e = same_name_or_dash a b r s e
same_piece word_or_dash good a b ha hb r s cr cs e = same_word_or_dash a b ha hb r s cr cs e
same_piece (flags names) good a b ha hb r s cr cs e =
    let texts : BothSame (flags_text (with_bits 1 names) a) (flags_text (with_bits 1 names) b) r s =
    same_word no_gap (flags_text (with_bits 1 names) a) (flags_text (with_bits 1 names) b) r s (flags_no_gap names good a) (flags_no_gap names good b) cr cs e in
    (same_flags names good a b ha hb texts.0, texts.1)
same_piece (truth on off) good a b ha hb r s cr cs e = same_truth on off good a b r s e
same_piece kind_word good a b ha hb r s cr cs e = same_kind_word a b r s cr cs e

-- ---- what stands behind

closed_word : (p : Piece) (w more : List ℕ) → closes p w ≡ true → IsClosed (is_part p) (w ++ more)
closed_word p [] more h = absurd cc
closed_word p (byte ∷ rest) more h = by (is_part p byte) refl h
  where
    by : (t : Bool) → is_part p byte ≡ t → not t ≡ true → is_part p byte ≡ false
    by true is k = absurd cc
    by false is k = is

closed : (p : Piece) (ws : List (List ℕ)) → all_words (closes p) ws ≡ true → (r : List ℕ) → BeginsAmong ws r → IsClosed (is_part p) r
closed p [] h r b = subst (IsClosed (is_part p)) (sym b) tt
closed p (w ∷ ws) h r (inl b) = subst (IsClosed (is_part p)) (sym b.1) (closed_word p w b.0 (and_parts (closes p w) (all_words (closes p) ws) h).0)
closed p (w ∷ ws) h r (inr b) = closed p ws (and_parts (closes p w) (all_words (closes p) ws) h).1 r b

no_word : (w x : List ℕ) → not_empty w ≡ true → w ++ x ≡ [] → ⊥
no_word [] x h e = absurd cc
no_word (byte ∷ rest) x h e = absurd cc

not_there : (w : List ℕ) (ws : List (List ℕ)) → not_empty w ≡ true → all_words (apart w) ws ≡ true → (x r : List ℕ) → BeginsAmong ws r → w ++ x ≡ r → ⊥
not_there w [] some others x r b e = no_word w x some (e ∙ b)
not_there w (v ∷ ws) some others x r (inl b) e = apart_differ w v x b.0 (and_parts (apart w v) (all_words (apart w) ws) others).0 (e ∙ b.1)
not_there w (v ∷ ws) some others x r (inr b) e = not_there w ws some (and_parts (apart w v) (all_words (apart w) ws) others).1 x r b e

pub begins : (f : Form) (after : List (List ℕ)) (v : Values f) (r : List ℕ) → BeginsAmong after r → BeginsAmong (starts f after) (written f v r)
begins end after v r b = b
begins (word w f) after v r b = inl (written f v r, refl)
begins (piece p f) after v r b = inl (text_of p v.0 ++ written f v.1 r, refl)
begins (each w item f) after v r b = by v.0 (begins f after v.1 r b)
  where
    by : (xs : List (Values item)) → BeginsAmong (starts f after) (written f v.1 r) → BeginsAmong (w ∷ starts f after) (one_by_one w (written item) xs (written f v.1 r))
    by [] later = inr later
    by (x ∷ xs) later = inl (written item x (one_by_one w (written item) xs (written f v.1 r)), refl)

-- ---- items

module _ {A : Type 0} (w : List ℕ) (ws : List (List ℕ)) (go : A → List ℕ → List ℕ) where
  begins_items : (xs : List A) (r : List ℕ) → BeginsAmong ws r → BeginsAmong (w ∷ ws) (one_by_one w go xs r)
  begins_items [] r b = inr b
  begins_items (x ∷ xs) r b = inl (go x (one_by_one w go xs r), refl)

  module _ (some : not_empty w ≡ true) (others : all_words (apart w) ws ≡ true) (P : A → Type 0)
      (one : (x y : A) → P x → P y → (r s : List ℕ) → BeginsAmong (w ∷ ws) r → BeginsAmong (w ∷ ws) s → go x r ≡ go y s → BothSame x y r s) where
    same_items : (xs ys : List A) → AllByRecursion P xs → AllByRecursion P ys → (r s : List ℕ) → BeginsAmong ws r → BeginsAmong ws s
        → one_by_one w go xs r ≡ one_by_one w go ys s → BothSame xs ys r s
    same_items [] [] hx hy r s br bs e = (refl, e)
    same_items [] (y ∷ ys) hx hy r s br bs e = absurd (not_there w ws some others (go y (one_by_one w go ys s)) r br (sym e))
    same_items (x ∷ xs) [] hx hy r s br bs e = absurd (not_there w ws some others (go x (one_by_one w go xs r)) s bs e)
    same_items (x ∷ xs) (y ∷ ys) hx hy r s br bs e =
        let tails : go x (one_by_one w go xs r) ≡ go y (one_by_one w go ys s) = append_cancel_left w (go x (one_by_one w go xs r)) (go y (one_by_one w go ys s)) e in
        let first : BothSame x y (one_by_one w go xs r) (one_by_one w go ys s) = one x y hx.0 hy.0 (one_by_one w go xs r) (one_by_one w go ys s) (begins_items xs r br) (begins_items ys s bs) tails in
        let rest : BothSame xs ys r s = same_items xs ys hx.1 hy.1 r s br bs first.1 in
        (same_cons x y xs ys first.0 rest.0, rest.1)

-- ---- forms

pub determined : (f : Form) (after : List (List ℕ)) → is_sound f after ≡ true → (v u : Values f) → AreTold f v → AreTold f u → (r s : List ℕ) → BeginsAmong after r → BeginsAmong after s
    → written f v r ≡ written f u s → BothSame v u r s
determined end after sound v u hv hu r s br bs e = (refl, e)
determined (word w f) after sound v u hv hu r s br bs e = determined f after sound v u hv hu r s br bs (append_cancel_left w (written f v r) (written f u s) e)
determined (piece p f) after sound v u hv hu r s br bs e =
    let good = and_parts (is_good p) (all_words (closes p) (starts f after) && is_sound f after) sound in
    let more = and_parts (all_words (closes p) (starts f after)) (is_sound f after) good.1 in
    let first : BothSame v.0 u.0 (written f v.1 r) (written f u.1 s) =
    same_piece p good.0 v.0 u.0 hv.0 hu.0 (written f v.1 r) (written f u.1 s) (closed p (starts f after) more.0 (written f v.1 r) (begins f after v.1 r br)) (closed p (starts f after) more.0 (written f u.1 s) (begins f after u.1 s bs)) e in
    let rest : BothSame v.1 u.1 r s = determined f after more.1 v.1 u.1 hv.1 hu.1 r s br bs first.1 in
    (same_pair v.0 u.0 v.1 u.1 first.0 rest.0, rest.1)
determined (each w item f) after sound v u hv hu r s br bs e =
    let some = and_parts (not_empty w) (all_words (apart w) (starts f after) && (is_sound item (w ∷ starts f after) && is_sound f after)) sound in
    let others = and_parts (all_words (apart w) (starts f after)) (is_sound item (w ∷ starts f after) && is_sound f after) some.1 in
    let both = and_parts (is_sound item (w ∷ starts f after)) (is_sound f after) others.1 in
    let items : BothSame v.0 u.0 (written f v.1 r) (written f u.1 s) =
    same_items w (starts f after) (written item) some.0 others.0 (AreTold item) (determined item (w ∷ starts f after) both.0) v.0 u.0 hv.0 hu.0
    (written f v.1 r) (written f u.1 s) (begins f after v.1 r br) (begins f after u.1 s bs) e in
    let rest : BothSame v.1 u.1 r s = determined f after both.1 v.1 u.1 hv.1 hu.1 r s br bs items.1 in
    (same_pair v.0 u.0 v.1 u.1 items.0 rest.0, rest.1)

-- a whole text
pub told_same : (f : Form) → is_sound f [] ≡ true → (v u : Values f) → AreTold f v → AreTold f u → written f v [] ≡ written f u [] → v ≡ u
told_same f sound v u hv hu e = (determined f [] sound v u hv hu [] [] refl refl e).0
