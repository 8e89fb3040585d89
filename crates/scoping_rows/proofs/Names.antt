-- The numbers of names.
use Rattle.std.proofs.Common.{◌≡◌, ℕ, ◌<◌, ◌≤◌, ◌==◌, Bool, true, false, not, cond, nat_lt, List, [], ◌∷◌, ◌++◌, None, Some, MatchOption, String, length, get_or, map, refl, sym, ap, subst, ◌∙◌, arith, position, length-append, suc, ⊎_elim, if◌then◌else◌}
use Rattle.std.specs.List.{IsDistinct, position_or_len, list_any}
use Rattle.std.specs.Str.{bytes_eq}
use Rattle.std.proofs.lemmas.List.Sums.{fails_before_first, prefix_len_stops}
use Rattle.std.proofs.lemmas.List.{length-map, get_or-map, map-append}
use Rattle.std.proofs.lemmas.Map.Keys.{apart_from_distinct}
use Rattle.std.proofs.lemmas.Slice.Eq.{bytes_eq-Decides}
use Rattle.std.proofs.Math.ListN.{get_or-append}
use Rattle.std.proofs.Math.Seq.{get_or-append_seam}
use Rattle.std.proofs.lemmas.Bool.{cases_lt, ltb-true, ltb-false, eqb-true, eqb-false, eq-eqb, false_from_ne_true, not-false}
use Rattle.indexmap.specs.IndexSet.{insert_key}
use Rattle.std.specs.String.{string_bytes}
use Rattle.std.specs.Str.{chars, IsUtf8, encode_utf8_all}
use Rattle.std.proofs.lemmas.Str.{encodes-chars, IsUtf8-string_bytes}
use Rattle.semantic_syntax.proofs.SameTexts.{same_texts}
use Rattle.semantic_syntax.specs.Tables.{Name}
use Rattle.scoping_rows.specs.Names.{name_at, IsUnknown, IsNumberOf, IsInterned}

-- names that differ in their places
abbrev pub AreApart : List Name → Type 0
AreApart names = (i j : ℕ) → i < j → j < length names → bytes_eq (name_at names i) (name_at names j) ≡ false

pub bytes_eq_same : (a : Name) → bytes_eq a a ≡ true
bytes_eq_same a = (bytes_eq-Decides a a).1 refl

pub bytes_eq_flip_false : (a b : Name) → bytes_eq a b ≡ false → bytes_eq b a ≡ false
bytes_eq_flip_false a b h = false_from_ne_true (bytes_eq b a) (λ t. let e : b ≡ a = (bytes_eq-Decides b a).0 t in let s : bytes_eq a b ≡ true = (bytes_eq-Decides a b).1 (sym e) in cc)

-- the number at which a name stands is its only one
pub number_at : (names : List Name) (name : Name) (n : ℕ) → AreApart names → n < length names → name_at names n ≡ name → IsNumberOf names name n
number_at names name n apart within named = record {
  within = within;
  named = named;
  only = λ m below. at m below (n == m) refl;
}
  where
    at : (m : ℕ) → m < length names → (b : Bool) → (n == m) ≡ b → bytes_eq name (name_at names m) ≡ (n == m)
    at m below true e = let s : n ≡ m = eqb-true n m e in let t : bytes_eq name (name_at names n) ≡ true = (bytes_eq-Decides _ _).1 (sym named) in subst (λ k. bytes_eq name (name_at names k) ≡ (n == k)) s (t ∙ sym (eq-eqb n n refl))
    at m below false e =
        let differs : bytes_eq name (name_at names m) ≡ false = ⊎_elim
        (λ (l : n < m). subst (λ k. bytes_eq k (name_at names m) ≡ false) named (apart n m l below))
        (λ (g : m ≤ n). bytes_eq_flip_false (name_at names m) name (subst (λ k. bytes_eq (name_at names m) k ≡ false) named (apart m n (omega (arith, eqb-false n m e)) within)))
        (cases_lt n m) in
        differs ∙ sym e

-- a name more: the numbers of the others stay, and it has the last
pub interned_last : (names : List Name) (name : Name) → AreApart names → IsUnknown names name → IsNumberOf (names ++ name ∷ []) name (length names)
interned_last names name apart unknown = record {
  within = omega (arith, length-append names (name ∷ []));
  named = get_or-append_seam names name [] [];
  only = λ m below. ⊎_elim
      (λ (l : m < length names). rw (get_or-append names (name ∷ []) [] m l) (unknown.none m l ∙ sym (false_from_ne_true (length names == m) (λ t. omega (arith, eqb-true (length names) m t)))))
      (λ (g : length names ≤ m). let e : length names ≡ m = omega (arith, length-append names (name ∷ [])) in
      subst (λ k. bytes_eq name (name_at (names ++ name ∷ []) k) ≡ (length names == k)) e
      (rw (get_or-append_seam names name [] []) (bytes_eq_same name ∙ sym (eq-eqb (length names) (length names) refl))))
      (cases_lt m (length names));
}

-- what a search among the texts of keys finds
length_map : {X : Type 0} (text : X → Name) (keys : List X) → length (map text keys) ≡ length keys
length_map text keys = length-map keys text

module _ {X : Type 0} (text : X → Name) where
  pub apart_texts : (keys : List X) → IsDistinct (λ a b. bytes_eq (text a) (text b)) keys → AreApart (map text keys)
  apart_texts [] distinct i j l below = absurd (omega arith)
  apart_texts (x ∷ xs) distinct i j l below =
      let b : j < length (x ∷ xs) = omega (arith, length_map text (x ∷ xs)) in
      rw (get_or-map text (x ∷ xs) i x [] (omega arith), get_or-map text (x ∷ xs) j x [] b)
      (apart_from_distinct (λ a b. bytes_eq (text a) (text b)) (x ∷ xs) i j x distinct l b)

  pub unknown_texts : (keys : List X) (name : Name) → IsUnknown (map text keys) name → list_any (λ k. bytes_eq name (text k)) keys ≡ false
  unknown_texts [] name unknown = refl
  unknown_texts (x ∷ xs) name unknown = rw (unknown.none 0 (omega (arith, length_map text (x ∷ xs)))) (unknown_texts xs name (record { none = λ m l. unknown.none (suc m) (omega (arith, length_map text xs, length_map text (x ∷ xs))) }))

  pub find_spec : (keys : List X) (name : Name) → IsDistinct (λ a b. bytes_eq (text a) (text b)) keys
      → MatchOption (position (λ k. bytes_eq name (text k)) keys) (IsUnknown (map text keys) name) (λ n. IsNumberOf (map text keys) name n)
  find_spec [] name distinct = record { none = λ m l. absurd (omega arith) }
  find_spec (x ∷ xs) name distinct = by (nat_lt index (length keys)) refl
    where
      keys : List X
      keys = x ∷ xs

      test : X → Bool
      test k = bytes_eq name (text k)

      index : ℕ
      index = position_or_len test keys

      by : (b : Bool) → nat_lt index (length keys) ≡ b → MatchOption (cond b (Some index) None) (IsUnknown (map text keys) name) (λ n. IsNumberOf (map text keys) name n)
      by true e =
          let lt : index < length keys = ltb-true index (length keys) e in
          let stops : not (test (get_or keys index x)) ≡ false = prefix_len_stops (λ k. not (test k)) keys x lt in
          let passes : test (get_or keys index x) ≡ true = not-false (test (get_or keys index x)) stops in
          number_at (map text keys) name index (apart_texts keys distinct) (omega (arith, length_map text keys))
          (get_or-map text keys index x [] lt ∙ sym ((bytes_eq-Decides _ _).0 passes))
      by false e = record {
        none = λ m l.
            let below : m < length keys = omega (arith, length_map text keys) in
            rw (get_or-map text keys m x [] below) (fails_before_first test keys m x (omega (arith, ltb-false index (length keys) e)));
      }

  pub interned_texts : (old new : List X) (x : X) (name : Name) → IsDistinct (λ a b. bytes_eq (text a) (text b)) old
      → IsUnknown (map text old) name → text x ≡ name → new ≡ insert_key (λ a b. bytes_eq (text a) (text b)) old x
      → IsInterned (map text old) (map text new) name (length old)
  interned_texts old new x name distinct unknown is_name inserted =
      let absent : list_any (λ k. bytes_eq (text x) (text k)) old ≡ false = rw is_name (unknown_texts old name unknown) in
      let last : new ≡ old ++ x ∷ [] = inserted ∙ ap (λ b. if b then old else old ++ x ∷ []) absent in
      let texts : map text new ≡ map text old ++ name ∷ [] = ap (map text) last ∙ map-append text old (x ∷ []) ∙ ap (λ n. map text old ++ n ∷ []) is_name in
      record {
        added = name ∷ [];
        grown = texts;
        number = subst (λ names. IsNumberOf names name (length old)) (sym texts)
            (subst (λ count. IsNumberOf (map text old ++ name ∷ []) name count) (length_map text old)
            (interned_last (map text old) name (apart_texts old distinct) unknown));
      }

-- what a search among texts finds, told by their characters
module _ {Z : Type 0} (keys : List (String Z)) where
  abbrev pub texts : List Name
  texts = map (λ k. chars (string_bytes k)) keys

  by_characters : ◌≡◌ {A = String Z → String Z → Bool} (λ a b. bytes_eq (string_bytes a) (string_bytes b)) (λ a b. bytes_eq (chars (string_bytes a)) (chars (string_bytes b)))
  by_characters = λ j a b. sym (same_texts (string_bytes a) (string_bytes b) (IsUtf8-string_bytes a) (IsUtf8-string_bytes b)) j

  pub find_text : (name : List ℕ) → IsUtf8 name → IsDistinct (λ a b. bytes_eq (string_bytes a) (string_bytes b)) keys
      → MatchOption (position (λ k. bytes_eq name (string_bytes k)) keys) (IsUnknown texts (chars name)) (λ n. IsNumberOf texts (chars name) n)
  find_text name utf8 distinct =
      let test : ◌≡◌ {A = String Z → Bool} (λ k. bytes_eq name (string_bytes k)) (λ k. bytes_eq (chars name) (chars (string_bytes k))) =
      λ j k. sym (same_texts name (string_bytes k) utf8 (IsUtf8-string_bytes k)) j in
      subst (λ t. MatchOption (position t keys) (IsUnknown texts (chars name)) (λ n. IsNumberOf texts (chars name) n)) (sym test)
      (find_spec (λ k. chars (string_bytes k)) keys (chars name) (subst (λ e. IsDistinct e keys) by_characters distinct))

  pub intern_text : (new : List (String Z)) (x : String Z) (name : List ℕ) → IsDistinct (λ a b. bytes_eq (string_bytes a) (string_bytes b)) keys
      → IsUnknown texts (chars name) → string_bytes x ≡ name → new ≡ insert_key (λ a b. bytes_eq (string_bytes a) (string_bytes b)) keys x
      → IsInterned texts (map (λ k. chars (string_bytes k)) new) (chars name) (length keys)
  intern_text new x name distinct unknown is_name inserted =
      interned_texts (λ k. chars (string_bytes k)) keys new x (chars name) (subst (λ e. IsDistinct e keys) by_characters distinct) unknown (ap chars is_name)
      (inserted ∙ ap (λ e. insert_key e keys x) by_characters)

  pub text_bytes : (n : ℕ) (x : String Z) → n < length keys → x ≡ get_or keys n x → string_bytes x ≡ encode_utf8_all (name_at texts n)
  text_bytes n x within read =
      sym (encodes-chars (string_bytes x) (IsUtf8-string_bytes x))
      ∙ ap (λ k. encode_utf8_all (chars (string_bytes k))) read
      ∙ ap encode_utf8_all (sym (get_or-map (λ k. chars (string_bytes k)) keys n x [] within))

  pub number_text : (n : ℕ) → IsDistinct (λ a b. bytes_eq (string_bytes a) (string_bytes b)) keys → n < length texts → IsNumberOf texts (name_at texts n) n
  number_text n distinct within =
      number_at texts (name_at texts n) n (apart_texts (λ k. chars (string_bytes k)) keys (subst (λ e. IsDistinct e keys) by_characters distinct)) within refl
