-- Names among texts in a set.
use Rattle.std.proofs.Common.{◌≡◌, ℕ, zero, suc, List, [], ◌∷◌, ◌++◌, Bool, true, false, ◌||◌, cond, if◌then◌else◌, Some, String, map, refl, sym, ap, ◌∙◌}
use Rattle.std.specs.Prelude.{slice_get, slice_index_or}
use Rattle.std.specs.List.{list_any}
use Rattle.std.specs.Str.{bytes_eq, chars, IsUtf8}
use Rattle.std.specs.String.{string_bytes}
use Rattle.std.proofs.lemmas.Str.{IsUtf8-string_bytes}
use Rattle.std.proofs.lemmas.List.{map-append}
use Rattle.std.proofs.lemmas.Slice.Eq.{bytes_eq-Decides}
use Rattle.indexmap.specs.IndexSet.{insert_key}
use Rattle.semantic_syntax.proofs.SameTexts.{same_texts}
use Rattle.semantic_syntax.specs.Tables.{Name}
use Rattle.semantic_syntax.proofs.Truth.{or_false}

-- the name behind the others, unless it is one of them
abbrev with_text : List Name → Name → List Name
with_text names name = cond (list_any (bytes_eq name) names) names (names ++ name ∷ [])

abbrev is_known : List Name → Name → Bool
is_known names name = list_any (bytes_eq name) names

known_append : (xs ys : List Name) (name : Name) → is_known (xs ++ ys) name ≡ (is_known xs name || is_known ys name)
known_append [] ys name = refl
known_append (x ∷ xs) ys name = by (bytes_eq name x) (known_append xs ys name)
  where
    by : (b : Bool) → is_known (xs ++ ys) name ≡ (is_known xs name || is_known ys name) → (b || is_known (xs ++ ys) name) ≡ ((b || is_known xs name) || is_known ys name)
    by true e = refl
    by false e = e

module _ {Z : Type 0} where
  abbrev texts : List (String Z) → List Name
  texts keys = map (λ k. chars (string_bytes k)) keys

  -- a text is found by its bytes as by its characters
  pub found_text : (keys : List (String Z)) (name : List ℕ) → IsUtf8 name → list_any (λ k. bytes_eq name (string_bytes k)) keys ≡ is_known (texts keys) (chars name)
  found_text [] name u = refl
  found_text (k ∷ ks) name u = rw (same_texts name (string_bytes k) u (IsUtf8-string_bytes k), found_text ks name u) refl

  -- a name that a text is, which is there, is known
  present : (keys : List (String Z)) (x : String Z) (name : Name) → list_any (λ k. bytes_eq (string_bytes x) (string_bytes k)) keys ≡ true → bytes_eq name (chars (string_bytes x)) ≡ true → is_known (texts keys) name ≡ true
  present [] x name h e = absurd cc
  present (k ∷ ks) x name h e = by (bytes_eq (string_bytes x) (string_bytes k)) refl h (λ i. present ks x name i e)
    where
      known : (b : Bool) → is_known (texts ks) name ≡ true → (b || is_known (texts ks) name) ≡ true
      known true i = refl
      known false i = i

      by : (b : Bool) → bytes_eq (string_bytes x) (string_bytes k) ≡ b → (b || list_any (λ k. bytes_eq (string_bytes x) (string_bytes k)) ks) ≡ true
          → (list_any (λ k. bytes_eq (string_bytes x) (string_bytes k)) ks ≡ true → is_known (texts ks) name ≡ true) → (bytes_eq name (chars (string_bytes k)) || is_known (texts ks) name) ≡ true
      by true s i more =
          let same : string_bytes x ≡ string_bytes k = (bytes_eq-Decides (string_bytes x) (string_bytes k)).0 s in
          ap (λ b. b || is_known (texts ks) name) (ap (λ bytes. bytes_eq name (chars bytes)) (sym same) ∙ e)
      by false s i more = known (bytes_eq name (chars (string_bytes k))) (more i)

  -- a text more
  pub known_more : (keys new : List (String Z)) (x : String Z) (word : List ℕ) → string_bytes x ≡ word → new ≡ insert_key (λ a b. bytes_eq (string_bytes a) (string_bytes b)) keys x
      → (name : Name) → is_known (texts new) name ≡ (bytes_eq name (chars word) || is_known (texts keys) name)
  known_more keys new x word is made name = ap (λ ks. is_known (texts ks) name) made ∙ by (list_any (λ k. bytes_eq (string_bytes x) (string_bytes k)) keys) refl ∙ ap (λ bytes. bytes_eq name (chars bytes) || is_known (texts keys) name) is
    where
      there : (b : Bool) → bytes_eq name (chars (string_bytes x)) ≡ b → list_any (λ k. bytes_eq (string_bytes x) (string_bytes k)) keys ≡ true → is_known (texts keys) name ≡ (b || is_known (texts keys) name)
      there true e h = present keys x name h e
      there false e h = refl

      swaps : (a b : Bool) → (a || b) ≡ (b || a)
      swaps true true = refl
      swaps true false = refl
      swaps false true = refl
      swaps false false = refl

      by : (b : Bool) → list_any (λ k. bytes_eq (string_bytes x) (string_bytes k)) keys ≡ b → is_known (texts (if b then keys else keys ++ x ∷ [])) name ≡ (bytes_eq name (chars (string_bytes x)) || is_known (texts keys) name)
      by true h = there (bytes_eq name (chars (string_bytes x))) refl h
      by false h =
          ap (λ ks. is_known ks name) (map-append (λ k. chars (string_bytes k)) keys (x ∷ []))
          ∙ known_append (texts keys) (texts (x ∷ [])) name
          ∙ ap (λ b. is_known (texts keys) name || b) (or_false (bytes_eq name (chars (string_bytes x))))
          ∙ swaps (is_known (texts keys) name) (bytes_eq name (chars (string_bytes x)))

  -- it stands behind the others, unless it is there
  pub joined_more : (keys new : List (String Z)) (x : String Z) (word : List ℕ) → string_bytes x ≡ word → new ≡ insert_key (λ a b. bytes_eq (string_bytes a) (string_bytes b)) keys x → texts new ≡ with_text (texts keys) (chars word)
  joined_more keys new x word is made =
      ap texts made
      ∙ go (list_any (λ k. bytes_eq (string_bytes x) (string_bytes k)) keys)
      ∙ ap (λ b. cond b (texts keys) (texts keys ++ chars (string_bytes x) ∷ [])) (found_text keys (string_bytes x) (IsUtf8-string_bytes x))
      ∙ ap (λ bytes. with_text (texts keys) (chars bytes)) is
    where
      go : (b : Bool) → texts (if b then keys else keys ++ x ∷ []) ≡ cond b (texts keys) (texts keys ++ chars (string_bytes x) ∷ [])
      go true = refl
      go false = map-append (λ k. chars (string_bytes k)) keys (x ∷ [])

  -- the text at a place
  pub named_at : (keys : List (String Z)) (i : ℕ) (k : String Z) → slice_get keys i ≡ Some k → chars (string_bytes k) ≡ slice_index_or (texts keys) i []
  named_at [] i k e = absurd cc
  named_at (x ∷ xs) zero k e = let same : x ≡ k = cc in ap (λ t. chars (string_bytes t)) (sym same)
  named_at (x ∷ xs) (suc i) k e = named_at xs i k e
