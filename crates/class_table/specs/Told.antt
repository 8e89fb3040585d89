-- The lists that tell some classes.
use Rattle.std.specs.Prelude.{◌≡◌, ℕ, ◌+◌, ◌<◌, List, [], ◌∷◌, ◌++◌, Option, Some, None, IfSome, map, length, slice_index_or, slice_set}
use Rattle.std.specs.List.{AllByRecursion}
use Rattle.std.specs.Option.{option_map, option_map_or, option_to_list}
use Rattle.semantic_model.specs.Element.{Element}
use Rattle.semantic_model.specs.Class.{Class, PrivateUse}
use Rattle.class_table.specs.Lists.{ClassLists, elements_in}

-- the classes that stand inside others, numbered from n on
abbrev pub parents_from : ℕ → List Class → List (ℕ × ℕ)
parents_from n [] = []
parents_from n (class ∷ more) = option_to_list (option_map (λ p. (n, p)) class.parent) ++ parents_from (n + 1) more

-- the classes as a table has them
abbrev pub lists_told : List Class → ClassLists
lists_told classes = record {
  parents = parents_from 0 classes;
  nodes = map (λ c. c.node) classes;
  elements = map (λ c. c.elements) classes;
  uses = map (λ c. c.uses) classes;
}

-- the uses with some more of the current class
abbrev pub with_more_uses : Option ℕ → List PrivateUse → List (List PrivateUse) → List (List PrivateUse)
with_more_uses None us uses = uses
with_more_uses (Some c) us uses = slice_set uses c (slice_index_or uses c [] ++ us)

-- the lists with some classes more, and some uses more of the current class
abbrev pub lists_with : ClassLists → Option ℕ → List PrivateUse → List Class → ClassLists
lists_with lists current us classes = record {
  parents = lists.parents ++ parents_from (length lists.nodes) classes;
  nodes = lists.nodes ++ map (λ c. c.node) classes;
  elements = lists.elements ++ map (λ c. c.elements) classes;
  uses = with_more_uses current us lists.uses ++ map (λ c. c.uses) classes;
}

-- the lists fit and the current class is there
pub record FitCurrent (lists : ClassLists) (current : Option ℕ) : Type 0 where
  pub there : IfSome current (λ c. c < length lists.nodes)
  pub with_elements : length lists.elements ≡ length lists.nodes
  pub with_uses : length lists.uses ≡ length lists.nodes
  pub inside : AllByRecursion (λ e. e.0 < length lists.nodes) lists.parents

-- the elements of the current class
abbrev pub current_elements : ClassLists → Option ℕ → List Element
current_elements lists current = option_map_or (elements_in lists) current []
