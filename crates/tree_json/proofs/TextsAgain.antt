-- The texts of a program are told by their places.
use Rattle.std.proofs.Common.{◌≡◌, ℕ, suc, ◌+◌, ◌<◌, ◌≤◌, ◌^◌, true, false, not, cond, ◌||◌, List, [], ◌∷◌, ◌++◌, length, slice_get, nat_lt, Some, refl, ap, sym, ◌∙◌, arith}
use Rattle.std.proofs.lemmas.Grind.{common_steps}
use Rattle.std.proofs.lemmas.List.{length-append}
use Rattle.std.proofs.lemmas.List.Folds.{list_any-append}
use Rattle.std.proofs.lemmas.Slice.Eq.{bytes_eq-Decides}
use Rattle.std.specs.List.{list_any, position_or_len}
use Rattle.std.specs.Str.{bytes_eq}
use Rattle.std.proofs.lemmas.Bool.{or_left, or_right}
use Rattle.tree_json.specs.Form.{in_list}
use Rattle.tree_json.specs.Lines.{Line}
use Rattle.tree_json.specs.Written.{and_text, texts_from, place_of, IsTold, Each}
use Rattle.tree_json.proofs.Again.{whole_number-fits}

later : (text t : List ℕ) (ts : List (List ℕ)) → (position_or_len (bytes_eq text) ts < length ts) × (slice_get ts (position_or_len (bytes_eq text) ts) ≡ Some text)
    → (1 + position_or_len (bytes_eq text) ts < length (t ∷ ts)) × (slice_get (t ∷ ts) (1 + position_or_len (bytes_eq text) ts) ≡ Some text)
later text t ts stands =
    let next : 1 + position_or_len (bytes_eq text) ts ≡ suc (position_or_len (bytes_eq text) ts) = omega arith in
    (omega (arith, stands.0), rw next stands.1)

-- where a text is found, it stands
found : (text : List ℕ) (texts : List (List ℕ)) → list_any (bytes_eq text) texts ≡ true
    → (position_or_len (bytes_eq text) texts < length texts) × (slice_get texts (position_or_len (bytes_eq text) texts) ≡ Some text)
found text [] any = absurd (cc)
found text (t ∷ ts) any = elim (bytes_eq text t) as (λ b. bytes_eq text t ≡ b → (b || list_any (bytes_eq text) ts) ≡ true
    → (cond (not b) (1 + position_or_len (bytes_eq text) ts) 0 < length (t ∷ ts)) × (slice_get (t ∷ ts) (cond (not b) (1 + position_or_len (bytes_eq text) ts) 0) ≡ Some text)) [
      | true ↦ λ same any. (omega arith, ap Some (sym ((bytes_eq-Decides text t).0 same)))
      | false ↦ λ same any. later text t ts (found text ts any)
    ] refl any

place_found : (text : List ℕ) (texts : List (List ℕ)) → list_any (bytes_eq text) texts ≡ true → (place_of text texts < length texts) × (slice_get texts (place_of text texts) ≡ Some text)
place_found text texts any =
    let (within, stands) = found text texts any in
    let inside : nat_lt (position_or_len (bytes_eq text) texts) (length texts) ≡ true = grind (arith, common_steps) in
    rw (inside) (within, stands)

pub told-found : (text : List ℕ) (texts : List (List ℕ)) → length texts < 2 ^ 32 → list_any (bytes_eq text) texts ≡ true → IsTold (in_list texts) text
told-found text texts few any =
    let (within, stands) = place_found text texts any in
    rw (whole_number-fits (place_of text texts) (omega arith)) stands

-- ---- the texts that are collected

and_text-keeps : (text other : List ℕ) (texts : List (List ℕ)) → list_any (bytes_eq text) texts ≡ true → list_any (bytes_eq text) (and_text texts other) ≡ true
and_text-keeps text other texts any = elim (list_any (bytes_eq other) texts) as (λ b. list_any (bytes_eq text) (cond b texts (texts ++ other ∷ [])) ≡ true) [
  | true ↦ any
  | false ↦ list_any-append (bytes_eq text) texts (other ∷ []) ∙ or_left (list_any (bytes_eq text) texts) (list_any (bytes_eq text) (other ∷ [])) any
]

and_text-has : (text : List ℕ) (texts : List (List ℕ)) → list_any (bytes_eq text) (and_text texts text) ≡ true
and_text-has text texts = elim (list_any (bytes_eq text) texts) as (λ b. list_any (bytes_eq text) texts ≡ b → list_any (bytes_eq text) (cond b texts (texts ++ text ∷ [])) ≡ true) [
  | true ↦ λ is. is
  | false ↦ λ is. list_any-append (bytes_eq text) texts (text ∷ []) ∙ or_right (list_any (bytes_eq text) texts) (list_any (bytes_eq text) (text ∷ [])) (or_left (bytes_eq text text) false ((bytes_eq-Decides text text).1 refl))
] refl

texts_from-keeps : (text : List ℕ) (ls : List Line) (texts : List (List ℕ)) → list_any (bytes_eq text) texts ≡ true → list_any (bytes_eq text) (texts_from texts ls) ≡ true
texts_from-keeps text [] texts any = any
texts_from-keeps text (l ∷ ls) texts any = texts_from-keeps text ls (and_text texts l.text) (and_text-keeps text l.text texts any)

abbrev pub IsAmong : List (List ℕ) → Line → Type 0
IsAmong texts l = list_any (bytes_eq l.text) texts ≡ true

pub texts_from-has : (ls : List Line) (texts : List (List ℕ)) → Each (IsAmong (texts_from texts ls)) ls
texts_from-has [] texts = tt
texts_from-has (l ∷ ls) texts =
    (texts_from-keeps l.text ls (and_text texts l.text) (and_text-has l.text texts), texts_from-has ls (and_text texts l.text))

and_text-len : (text : List ℕ) (texts : List (List ℕ)) → length (and_text texts text) ≤ length texts + 1
and_text-len text texts = elim (list_any (bytes_eq text) texts) as (λ b. length (cond b texts (texts ++ text ∷ [])) ≤ length texts + 1) [
  | true ↦ omega arith
  | false ↦ omega (arith, length-append texts (text ∷ []))
]

pub texts_from-len : (ls : List Line) (texts : List (List ℕ)) → length (texts_from texts ls) ≤ length texts + length ls
texts_from-len [] texts = omega arith
texts_from-len (l ∷ ls) texts = omega (arith, texts_from-len ls (and_text texts l.text), and_text-len l.text texts)
