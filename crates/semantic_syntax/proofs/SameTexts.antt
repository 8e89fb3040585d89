-- Texts are equal as characters exactly where they are as bytes.
use Rattle.std.proofs.Common.{◌≡◌, Bool, true, false, cond, List, [], ◌∷◌, ℕ, Some, map, option_map, refl, ap, sym, ◌∙◌}
use Rattle.std.specs.Borrow.{Bor}
use Rattle.std.specs.List.{AllByRecursion}
use Rattle.std.specs.Map.{lookup}
use Rattle.std.specs.Str.{chars, IsUtf8, bytes_eq, encode_utf8_all}
use Rattle.std.proofs.lemmas.Bool.Decides.{same_from_decides}
use Rattle.std.proofs.lemmas.Slice.Eq.{bytes_eq-Decides}
use Rattle.std.proofs.lemmas.Str.{encodes-chars}

pub same_texts : (a b : List ℕ) → IsUtf8 a → IsUtf8 b → bytes_eq (chars a) (chars b) ≡ bytes_eq a b
same_texts a b u v =
    let shown = bytes_eq-Decides (chars a) (chars b) in
    same_from_decides {P = a ≡ b} (bytes_eq (chars a) (chars b)) (bytes_eq a b)
    ((λ t. sym (encodes-chars a u) ∙ ap encode_utf8_all (shown.0 t) ∙ encodes-chars b v), (λ e. shown.1 (ap chars e)))
    (bytes_eq-Decides a b)

pub ruleset texts = (same_texts)

-- what stands under a text stands under its characters, where each value is seen by view
module _ {V W : Type 0} (view : V → W) where
  pub lookup_text : (q : List ℕ) → IsUtf8 q → (es : List (Bor (List ℕ) × V)) → AllByRecursion (λ e. IsUtf8 e.0.now) es
      → lookup (bytes_eq (chars q)) (map (λ e. (chars e.0.now, view e.1)) es) ≡ option_map view (lookup (λ k. bytes_eq q k.now) es)
  lookup_text q u [] h = refl
  lookup_text q u (e ∷ es) h =
      ap (λ b. cond b (Some (view e.1)) (lookup (bytes_eq (chars q)) (map (λ d. (chars d.0.now, view d.1)) es))) (same_texts q e.0.now u h.0)
      ∙ by (bytes_eq q e.0.now) (lookup_text q u es h.1)
    where
      by : (b : Bool) → lookup (bytes_eq (chars q)) (map (λ d. (chars d.0.now, view d.1)) es) ≡ option_map view (lookup (λ k. bytes_eq q k.now) es)
          → cond b (Some (view e.1)) (lookup (bytes_eq (chars q)) (map (λ d. (chars d.0.now, view d.1)) es)) ≡ option_map view (cond b (Some e.1) (lookup (λ k. bytes_eq q k.now) es))
      by true rest = refl
      by false rest = rest
