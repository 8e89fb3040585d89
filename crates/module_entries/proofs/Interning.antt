-- Texts that get numbers.
use Rattle.std.proofs.Common.{◌≡◌, ℕ, zero, suc, List, [], ◌∷◌, Option, Some, refl, sym, ap, subst, ◌∙◌, slice_get, map, true}
use Rattle.std.specs.Str.{chars, bytes_eq}
use Rattle.std.proofs.lemmas.Slice.Eq.{bytes_eq-Decides}
use denote.Bor.{Bor}
use Rattle.tree_json.specs.Views.{characters, IsSpelled}
use Rattle.tree_json.proofs.Spelled.{inserted, insert_characters, insert_spelled}
use Rattle.link_targets.specs.Denoted.{Grows}
use Rattle.link_targets.proofs.Growth.{grown}
use Rattle.module_entries.specs.Interned.{AreInterned}

slice_get-map : {A B : Type 0} (f : A → B) (xs : List A) (i : ℕ) (x : A) → slice_get xs i ≡ Some x → slice_get (map f xs) i ≡ Some (f x)
slice_get-map f [] i x e = absurd cc
slice_get-map f (y ∷ ys) zero x e = let same : y ≡ x = cc in ap (λ z. Some (f z)) same
slice_get-map f (y ∷ ys) (suc i) x e = slice_get-map f ys i x e

-- a text is added, unless it is there
pub interned_grows : (old new : List (Bor (List ℕ))) (text : Bor (List ℕ)) → new ≡ inserted old text → AreInterned old → IsSpelled text → Grows (map characters old) (map characters new)
interned_grows old new text e are spelled =
    grown (map characters old) (map characters new) (characters text) (ap (map characters) e ∙ insert_characters text old spelled are.spelled)

pub interned_more : (old new : List (Bor (List ℕ))) (text : Bor (List ℕ)) → new ≡ inserted old text → AreInterned old → IsSpelled text → AreInterned new
interned_more old new text e are spelled = record {
  spelled = subst (λ ks. Rattle.tree_json.specs.Written.Each IsSpelled ks) (sym e) (insert_spelled text old spelled are.spelled);
  apart = (interned_grows old new text e are spelled).apart are.apart;
}

pub interned_same : (old new : List (Bor (List ℕ))) → new ≡ old → AreInterned old → AreInterned new
interned_same old new e are = subst AreInterned (sym e) are

-- the key at the place has the text
pub interned_number : (keys : List (Bor (List ℕ))) (i : ℕ) (key text : Bor (List ℕ)) → slice_get keys i ≡ Some key → bytes_eq text.now key.now ≡ true → slice_get (map characters keys) i ≡ Some (chars text.now)
interned_number keys i key text there same =
    slice_get-map characters keys i key there ∙ ap (λ b. Some (chars b)) (sym ((bytes_eq-Decides text.now key.now).0 same))
