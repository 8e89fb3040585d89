-- The classes of a table, as lists by their ids.
use Rattle.std.specs.Prelude.{◌≡◌, ℕ, ◌<◌, ◌≤◌, ◌^◌, ◌-◌, List, [], ◌∷◌, ◌++◌, Option, length, slice_index_or, slice_set}
use Rattle.std.specs.List.{AllByRecursion}
use Rattle.std.specs.Option.{option_map, option_to_list}
use Rattle.semantic_model.specs.Element.{Element}
use Rattle.semantic_model.specs.Class.{PrivateUse}

-- for each class its node, its elements and the uses of private names in it; each class inside one with the one around it
pub record ClassLists : Type 0 where
  pub parents : List (ℕ × ℕ)
  pub nodes : List ℕ
  pub elements : List (List Element)
  pub uses : List (List PrivateUse)

-- a class and the one around it, which stands before it
abbrev pub IsInside : ℕ → ℕ × ℕ → Type 0
IsInside classes e = (e.0 < classes) × (e.1 < e.0)

-- the lists fit, each parent stands before its class, and there is an id for each class and element
pub record IsClassLists (lists : ClassLists) : Type 0 where
  pub inside : AllByRecursion (IsInside (length lists.nodes)) lists.parents
  pub with_elements : length lists.elements ≡ length lists.nodes
  pub with_uses : length lists.uses ≡ length lists.nodes
  pub numbered : length lists.nodes ≤ 2 ^ 32 - 1
  pub elements_numbered : AllByRecursion (λ es. length es ≤ 2 ^ 32 - 1) lists.elements

-- no class
abbrev pub no_classes : ClassLists
no_classes = record { parents = []; nodes = []; elements = []; uses = [] }

-- the elements of a class
abbrev pub elements_in : ClassLists → ℕ → List Element
elements_in lists c = slice_index_or lists.elements c []

-- the uses of private names in a class
abbrev pub uses_in : ClassLists → ℕ → List PrivateUse
uses_in lists c = slice_index_or lists.uses c []

-- the classes and one more, with these elements and without uses
abbrev pub with_class : ClassLists → Option ℕ → ℕ → List Element → ClassLists
with_class lists parent node elements = record {
  parents = lists.parents ++ option_to_list (option_map (λ p. (length lists.nodes, p)) parent);
  nodes = lists.nodes ++ node ∷ [];
  elements = lists.elements ++ elements ∷ [];
  uses = lists.uses ++ [] ∷ [];
}

-- one more element of a class
abbrev pub with_element : ClassLists → ℕ → Element → ClassLists
with_element lists c element = record lists { elements = slice_set lists.elements c (elements_in lists c ++ element ∷ []) }

-- one more use in a class
abbrev pub with_use : ClassLists → ℕ → PrivateUse → ClassLists
with_use lists c use_of = record lists { uses = slice_set lists.uses c (uses_in lists c ++ use_of ∷ []) }
