-- The names that the children of a node bind, one child after the other.
use Rattle.std.proofs.Common.{◌≡◌, ℕ, ◌+◌, ◌<◌, ◌≤◌, true, false, List, [], ◌++◌, cond, length, get_or, drop, sym, ap, ◌∙◌}
use Rattle.std.proofs.Math.ListN.{drop_of_length-le}
use Rattle.std.proofs.lemmas.List.{append_assoc}
use Rattle.semantic_syntax.proofs.Truth.{drop_here}
use Rattle.semantic_kinds.specs.declared.kind.AstType.{AstType}
use Rattle.semantic_kinds.specs.declared.role.Role.{Role}
use Rattle.semantic_tree.specs.Children.{forest_of}
use Rattle.semantic_tree.specs.Views.{is_role_of}
use Rattle.semantic_tree.specs.declared.node.Node.{Node}
use Rattle.semantic_model.specs.Names.{binding_roles, bound_below, bound_names}

module _ (parent : AstType) (items : List (Role × Node)) (i : ℕ) (child : Role × Node) (within : i < length items) (is : child ≡ get_or items i child) where
  abbrev later : List Node
  later = bound_below parent (forest_of (drop (i + 1) items))

  here_and_later : bound_below parent (forest_of (drop i items)) ≡ cond (is_role_of child.0 (binding_roles parent)) (bound_names child.1) [] ++ later
  here_and_later = ap (λ (xs : List (Role × Node)). bound_below parent (forest_of xs)) (drop_here items i child within is)

  -- the names of a child in a binding role come before those of the children behind it
  pub names_here : (names : List Node) → is_role_of child.0 (binding_roles parent) ≡ true → names ++ bound_below parent (forest_of (drop i items)) ≡ (names ++ bound_names child.1) ++ later
  names_here names e = ap (λ xs. names ++ xs) (here_and_later ∙ ap (λ b. cond b (bound_names child.1) [] ++ later) e) ∙ sym (append_assoc names (bound_names child.1) later)

  -- and a child in another role has none
  pub names_past : is_role_of child.0 (binding_roles parent) ≡ false → bound_below parent (forest_of (drop i items)) ≡ later
  names_past e = here_and_later ∙ ap (λ b. cond b (bound_names child.1) [] ++ later) e

-- no names are left at the end
pub names_end : (parent : AstType) (items : List (Role × Node)) (i : ℕ) → length items ≤ i → bound_below parent (forest_of (drop i items)) ≡ []
names_end parent items i h = ap (λ (xs : List (Role × Node)). bound_below parent (forest_of xs)) (drop_of_length-le items h)
