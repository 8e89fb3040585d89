-- Names that are barred, one by one.
use Rattle.std.proofs.Common.{◌≡◌, ℕ, zero, suc, ◌+◌, ◌<◌, ◌≤◌, List, [], ◌∷◌, Bool, true, false, not, ◌&&◌, ◌||◌, bytes_eq, length, drop, slice_index_or, sym, ap, ◌∙◌, refl, arith}
use Rattle.std.specs.List.{list_any}
use Rattle.std.proofs.Math.ListN.{drop_of_length-le}
use Rattle.std.proofs.lemmas.Bool.Decides.{same_from_decides}
use Rattle.std.proofs.lemmas.Slice.Eq.{bytes_eq-Decides}
use Rattle.semantic_syntax.proofs.Truth.{or_false, or_assoc}
use Rattle.semantic_syntax.specs.Reading.{no_symbol}
use Rattle.semantic_syntax.specs.Tables.{Name, Symbol, FreeLists}
use Rattle.mangle_model.specs.GoodNames.{is_kept_name}

pub bytes_flip : (a b : List ℕ) → bytes_eq a b ≡ bytes_eq b a
bytes_flip a b =
    same_from_decides {P = b ≡ a} (bytes_eq a b) (bytes_eq b a) ((λ e. sym ((bytes_eq-Decides a b).0 e)), (λ e. (bytes_eq-Decides a b).1 (sym e))) (bytes_eq-Decides b a)

-- ---- free names

abbrev pub any_free : Name → FreeLists → Bool
any_free q lists = list_any (λ f. bytes_eq f.0 q) lists

-- a name more in the set, and one less that is left
pub free_turn : (q : Name) (old new : List Name) (name : Name) (left : FreeLists) (ids : List ℕ) (rest : FreeLists) (whole : Bool) → left ≡ (name, ids) ∷ rest
    → list_any (bytes_eq q) new ≡ (bytes_eq q name || list_any (bytes_eq q) old)
    → (list_any (bytes_eq q) old || any_free q left) ≡ whole → (list_any (bytes_eq q) new || any_free q rest) ≡ whole
free_turn q old new name left ids rest whole e grown h =
    ap (λ b. b || any_free q rest) grown
    ∙ swap (bytes_eq q name) (list_any (bytes_eq q) old) (any_free q rest)
    ∙ ap (λ b. list_any (bytes_eq q) old || (b || any_free q rest)) (bytes_flip q name)
    ∙ ap (λ l. list_any (bytes_eq q) old || any_free q l) (sym e)
    ∙ h
  where
    swap : (a b c : Bool) → ((a || b) || c) ≡ (b || (a || c))
    swap true true c = refl
    swap true false c = refl
    swap false b c = refl

-- ---- names of symbols that keep theirs

kept_here : (may : ℕ → Bool) (q : Name) (from : ℕ) (ys : List Symbol) (i : ℕ) → i < length ys
    → is_kept_name may q (from + i) (drop i ys) ≡ (not (may (from + i)) && bytes_eq (slice_index_or ys i no_symbol).name q || is_kept_name may q (from + (i + 1)) (drop (i + 1) ys))
kept_here may q from [] i h = absurd (omega arith)
kept_here may q from (y ∷ ys) zero h =
    let same : suc (from + 0) ≡ from + (0 + 1) = omega arith in
    ap (λ n. not (may (from + 0)) && bytes_eq y.name q || is_kept_name may q n ys) same
kept_here may q from (y ∷ ys) (suc i) h =
    let shift : from + suc i ≡ suc from + i = omega arith in
    let next : suc from + (i + 1) ≡ from + (suc i + 1) = omega arith in
    let one : i + 1 + 1 ≡ suc i + 1 = omega arith in
    ap (λ n. is_kept_name may q n (drop i ys)) shift
    ∙ kept_here may q (suc from) ys i (omega arith)
    ∙ (λ j. not (may (shift' j)) && bytes_eq (slice_index_or ys i no_symbol).name q || is_kept_name may q (next j) (drop (i + 1) ys))
    ∙ ap (λ n. not (may (from + suc i)) && bytes_eq (slice_index_or ys i no_symbol).name q || is_kept_name may q (from + (suc i + 1)) (drop n (y ∷ ys))) (more i)
  where
    shift' : suc from + i ≡ from + suc i
    shift' = omega arith

    more : (i : ℕ) → suc (i + 1) ≡ suc i + 1
    more i = omega arith

kept_at : (may : ℕ → Bool) (q : Name) (ys : List Symbol) (i : ℕ) → i < length ys
    → is_kept_name may q i (drop i ys) ≡ (not (may i) && bytes_eq (slice_index_or ys i no_symbol).name q || is_kept_name may q (i + 1) (drop (i + 1) ys))
kept_at may q ys i h =
    let none : 0 + i ≡ i = omega arith in
    let next : 0 + (i + 1) ≡ i + 1 = omega arith in
    ap (λ n. is_kept_name may q n (drop i ys)) (sym none)
    ∙ kept_here may q 0 ys i h
    ∙ (λ j. not (may (none j)) && bytes_eq (slice_index_or ys i no_symbol).name q || is_kept_name may q (next j) (drop (i + 1) ys))

-- the next symbol's name, if it must keep it
pub kept_turn : (may : ℕ → Bool) (q : Name) (ys : List Symbol) (i : ℕ) (old new : List Name) (whole : Bool) → i < length ys
    → list_any (bytes_eq q) new ≡ (list_any (bytes_eq q) old || (not (may i) && bytes_eq q (slice_index_or ys i no_symbol).name))
    → (list_any (bytes_eq q) old || is_kept_name may q i (drop i ys)) ≡ whole → (list_any (bytes_eq q) new || is_kept_name may q (i + 1) (drop (i + 1) ys)) ≡ whole
kept_turn may q ys i old new whole h grown rest =
    let left : Bool = is_kept_name may q (i + 1) (drop (i + 1) ys) in
    ap (λ b. b || left) grown
    ∙ or_assoc (list_any (bytes_eq q) old) (not (may i) && bytes_eq q (slice_index_or ys i no_symbol).name) left
    ∙ ap (λ b. list_any (bytes_eq q) old || (not (may i) && b || left)) (bytes_flip q (slice_index_or ys i no_symbol).name)
    ∙ ap (λ b. list_any (bytes_eq q) old || b) (sym (kept_at may q ys i h))
    ∙ rest

-- no symbol is left
pub kept_end : (may : ℕ → Bool) (q : Name) (ys : List Symbol) (i : ℕ) (names : List Name) (whole : Bool) → length ys ≤ i
    → (list_any (bytes_eq q) names || is_kept_name may q i (drop i ys)) ≡ whole → list_any (bytes_eq q) names ≡ whole
kept_end may q ys i names whole h rest = sym (or_false (list_any (bytes_eq q) names)) ∙ ap (λ xs. list_any (bytes_eq q) names || is_kept_name may q i xs) (sym (drop_of_length-le ys h)) ∙ rest
