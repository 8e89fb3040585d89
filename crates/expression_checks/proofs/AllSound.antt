-- Elements that stand in the source, by a test of each.
use Rattle.std.proofs.Common.{◌≡◌, ℕ, ◌+◌, ◌<◌, List, [], ◌∷◌, Bool, true, false, ◌&&◌, length, get_or, drop, map, refl, sym, ap, ◌∙◌}
use Rattle.std.specs.List.{list_all, AllByRecursion}
use Rattle.semantic_tree.specs.Sound.{is_sound}
use Rattle.semantic_model.specs.Element.{Element}
use Rattle.check_context.proofs.Fitting.{both_hold, holds_both}
use Rattle.expression_checks.specs.SoundElements.{are_all_sound, are_sound, AreSound}
use Rattle.expression_checks.proofs.EachClass.{next_at}

module _ (source : List ℕ) where
  of_class : (elements : List Element) → are_sound source elements ≡ true → AreSound source elements
  of_class [] h = tt
  of_class (e ∷ elements) h = let both = both_hold (is_sound source e.span) (are_sound source elements) h in (both.0, of_class elements both.1)

  class_of : (elements : List Element) → AreSound source elements → are_sound source elements ≡ true
  class_of [] h = refl
  class_of (e ∷ elements) h = holds_both (is_sound source e.span) (are_sound source elements) h.0 (class_of elements h.1)

  pub tested_sound : (classes : List (List Element)) → are_all_sound source classes ≡ true → AllByRecursion (AreSound source) classes
  tested_sound [] h = tt
  tested_sound (elements ∷ classes) h = let both = both_hold (are_sound source elements) (are_all_sound source classes) h in (of_class elements both.0, tested_sound classes both.1)

  pub sound_told : (classes : List (List Element)) → AllByRecursion (AreSound source) classes → are_all_sound source classes ≡ true
  sound_told [] h = refl
  sound_told (elements ∷ classes) h = holds_both (are_sound source elements) (are_all_sound source classes) (class_of elements h.0) (sound_told classes h.1)

-- a pass over a list stops at what fails, and goes on behind what passes
module _ {X Y : Type 0} (f : X → Y) (p : Y → Bool) (xs : List X) (i : ℕ) (x : X) (within : i < length xs) (here : x ≡ get_or xs i x) where
  turn : list_all p (map f (drop i xs)) ≡ (p (f x) && list_all p (map f (drop (i + 1) xs)))
  turn = ap (list_all p) (next_at f xs i x within here)

  pub fails_here : p (f x) ≡ false → false ≡ list_all p (map f (drop i xs))
  fails_here h = sym (turn ∙ ap (λ b. b && list_all p (map f (drop (i + 1) xs))) h)

  pub passes_here : p (f x) ≡ true → list_all p (map f (drop (i + 1) xs)) ≡ list_all p (map f (drop i xs))
  passes_here h = sym (turn ∙ ap (λ b. b && list_all p (map f (drop (i + 1) xs))) h)

pub ruleset each_told = (fails_here, passes_here)
