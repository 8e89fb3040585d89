-- New names among texts in a map.
use Rattle.std.proofs.Common.{◌≡◌, ℕ, List, [], ◌∷◌, Bool, true, false, cond, Option, Some, None, is_some, String, map, refl, sym, ap, ◌∙◌}
use Rattle.std.specs.Map.{lookup}
use Rattle.std.specs.Option.{option_map}
use Rattle.std.specs.Str.{bytes_eq, chars, IsUtf8}
use Rattle.std.specs.String.{string_bytes}
use Rattle.std.proofs.lemmas.Str.{IsUtf8-string_bytes}
use Rattle.std.proofs.lemmas.Slice.Eq.{bytes_eq-Decides}
use Rattle.indexmap.specs.IndexMap.{insert_entry}
use Rattle.semantic_syntax.proofs.SameTexts.{same_texts}
use Rattle.semantic_syntax.specs.Tables.{Name}
use Rattle.mangle_model.specs.Assignment.{first_name}
use Rattle.simple_names.proofs.AmongNames.{none_after}

-- what is found for the last pair
abbrev pub last : Name → List ℕ → List ℕ → Option Name
last q name new = cond (bytes_eq q (chars name)) (Some (chars new)) None

module _ {Z : Type 0} where
  abbrev pub told : List (String Z × String Z) → List (Name × Name)
  told es = map (λ e. (chars (string_bytes e.0), chars (string_bytes e.1))) es

  abbrev is_text : List ℕ → String Z → Bool
  is_text name k = bytes_eq name (string_bytes k)

  abbrev pub text_of : String Z → Name
  text_of t = chars (string_bytes t)

  -- a text is found by its bytes as by its characters
  pub found_new : (es : List (String Z × String Z)) (name : List ℕ) → IsUtf8 name → option_map text_of (lookup (is_text name) es) ≡ lookup (bytes_eq (chars name)) (told es)
  found_new [] name u = refl
  found_new (e ∷ es) name u = go (bytes_eq name (string_bytes e.0)) (found_new es name u) ∙ ap (λ b. cond b (Some (text_of e.1)) (lookup (bytes_eq (chars name)) (told es))) (sym (same_texts name (string_bytes e.0) u (IsUtf8-string_bytes e.0)))
    where
      go : (b : Bool) → option_map text_of (lookup (is_text name) es) ≡ lookup (bytes_eq (chars name)) (told es)
          → option_map text_of (cond b (Some e.1) (lookup (is_text name) es)) ≡ cond b (Some (text_of e.1)) (lookup (bytes_eq (chars name)) (told es))
      go true h = refl
      go false h = h

  -- a name that has one keeps it
  pub known_stays : (es : List (String Z × String Z)) (name new : List ℕ) → IsUtf8 name → is_some (lookup (is_text name) es) ≡ true
      → (q : Name) → lookup (bytes_eq q) (told es) ≡ first_name (lookup (bytes_eq q) (told es)) (cond (bytes_eq q (chars name)) (Some (chars new)) None)
  known_stays es name new u there q = go (bytes_eq q (chars name)) refl
    where
      some : (o : Option (String Z)) → is_some o ≡ true → (p : Option Name) → option_map text_of o ≡ p → (other : Option Name) → p ≡ first_name p other
      some None h p e other = absurd cc
      some (Some t) h None e other = absurd cc
      some (Some t) h (Some n) e other = refl

      go : (b : Bool) → bytes_eq q (chars name) ≡ b → lookup (bytes_eq q) (told es) ≡ first_name (lookup (bytes_eq q) (told es)) (cond b (Some (chars new)) None)
      go false e = sym (none_after (lookup (bytes_eq q) (told es)))
      go true e =
          let same : q ≡ chars name = (bytes_eq-Decides q (chars name)).0 e in
          some (lookup (is_text name) es) there (lookup (bytes_eq q) (told es)) (found_new es name u ∙ ap (λ t. lookup (bytes_eq t) (told es)) (sym same)) (Some (chars new))

  one_more : (d : String Z × String Z) (added es : List (String Z × String Z)) (q : Name) (more : Option Name) (b : Bool) → lookup (bytes_eq q) (told added) ≡ first_name (lookup (bytes_eq q) (told es)) more
      → cond b (Some (text_of d.1)) (lookup (bytes_eq q) (told added)) ≡ first_name (cond b (Some (text_of d.1)) (lookup (bytes_eq q) (told es))) more
  one_more d added es q more true h = refl
  one_more d added es q more false h = h

  abbrev added : List (String Z × String Z) → String Z → String Z → List (String Z × String Z)
  added es k v = insert_entry (λ a b. bytes_eq (string_bytes a) (string_bytes b)) es k v

  -- another one gets it
  new_comes : (es : List (String Z × String Z)) (name new : List ℕ) (k v : String Z) → string_bytes k ≡ name → string_bytes v ≡ new → is_some (lookup (is_text name) es) ≡ false
      → (q : Name) → lookup (bytes_eq q) (told (added es k v)) ≡ first_name (lookup (bytes_eq q) (told es)) (last q name new)
  new_comes [] name new k v e f none q = λ i. cond (bytes_eq q (chars (e i))) (Some (chars (f i))) None
  new_comes (d ∷ es) name new k v e f none q = go (bytes_eq name (string_bytes d.0)) refl none (λ n. new_comes es name new k v e f n q)
    where
      go : (b : Bool) → bytes_eq name (string_bytes d.0) ≡ b → is_some (cond b (Some d.1) (lookup (is_text name) es)) ≡ false
          → (is_some (lookup (is_text name) es) ≡ false → lookup (bytes_eq q) (told (added es k v)) ≡ first_name (lookup (bytes_eq q) (told es)) (last q name new))
          → lookup (bytes_eq q) (told (cond (bytes_eq (string_bytes k) (string_bytes d.0)) ((d.0, v) ∷ es) (d ∷ added es k v))) ≡ first_name (lookup (bytes_eq q) (told (d ∷ es))) (last q name new)
      go true h n more = absurd cc
      go false h n more =
          ap (λ b. lookup (bytes_eq q) (told (cond b ((d.0, v) ∷ es) (d ∷ added es k v)))) (ap (λ t. bytes_eq t (string_bytes d.0)) e ∙ h)
          ∙ one_more d (added es k v) es q (last q name new) (bytes_eq q (text_of d.0)) (more n)

  pub entry_comes : (es more : List (String Z × String Z)) (name new : List ℕ) (k v : String Z) → string_bytes k ≡ name → string_bytes v ≡ new → is_some (lookup (is_text name) es) ≡ false → more ≡ added es k v
      → (q : Name) → lookup (bytes_eq q) (told more) ≡ first_name (lookup (bytes_eq q) (told es)) (last q name new)
  entry_comes es more name new k v e f none is q = ap (λ ds. lookup (bytes_eq q) (told ds)) is ∙ new_comes es name new k v e f none q
