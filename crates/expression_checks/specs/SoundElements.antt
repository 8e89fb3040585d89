-- The spans of elements.
use Rattle.std.specs.Prelude.{◌≡◌, ℕ, List, Bool, true}
use Rattle.std.specs.List.{list_all, AllByRecursion}
use Rattle.semantic_tree.specs.Sound.{is_sound}
use Rattle.semantic_model.specs.Element.{Element}

-- the spans of the elements lie in the source, on its characters
abbrev pub AreSound : List ℕ → List Element → Type 0
AreSound source elements = AllByRecursion (λ e. is_sound source e.span ≡ true) elements

-- the same as tests, of a class and of each
abbrev pub are_sound : List ℕ → List Element → Bool
are_sound source elements = list_all (λ e. is_sound source e.span) elements

abbrev pub are_all_sound : List ℕ → List (List Element) → Bool
are_all_sound source classes = list_all (are_sound source) classes
