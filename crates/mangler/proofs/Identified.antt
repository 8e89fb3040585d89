-- Children that are identifiers, if they are given a name, one after the other.
use Rattle.std.proofs.Common.{◌≡◌, ℕ, ◌+◌, ◌<◌, List, Bool, true, false, not, ◌&&◌, ◌||◌, length, drop, get_or, ap, sym, ◌∙◌}
use Rattle.semantic_kinds.specs.declared.role.Role.{Role}
use Rattle.semantic_syntax.proofs.Truth.{drop_here}
use Rattle.semantic_tree.specs.Children.{forest_of}
use Rattle.semantic_tree.specs.declared.node.Node.{Node}
use Rattle.rename_model.specs.WithName.{is_identifier}
use Rattle.mangle_model.specs.Mangling.{all_identifiers}

module _ (chosen : ℕ → Bool) (items : List (Role × Node)) (i : ℕ) (child : Role × Node) (whole : Bool) (h : i < length items) (is : child ≡ get_or items i child) where
  abbrev own : Bool
  own = not (chosen child.1.node_id) || is_identifier child.1.kind

  abbrev left : Bool
  left = all_identifiers chosen (forest_of (drop (i + 1) items))

  here : all_identifiers chosen (forest_of (drop i items)) ≡ (own && (all_identifiers chosen child.1.children && left))
  here = ap (λ xs. all_identifiers chosen (forest_of xs)) (drop_here items i child h is)

  pub next_identified : own ≡ true → all_identifiers chosen child.1.children ≡ true → all_identifiers chosen (forest_of (drop i items)) ≡ whole → left ≡ whole
  next_identified e f rest = sym (here ∙ (λ j. e j && (f j && left))) ∙ rest

  pub own_is_not : own ≡ false → all_identifiers chosen (forest_of (drop i items)) ≡ whole → false ≡ whole
  own_is_not e rest = sym (here ∙ ap (λ b. b && (all_identifiers chosen child.1.children && left)) e) ∙ rest

  pub one_below_is_not : own ≡ true → all_identifiers chosen child.1.children ≡ false → all_identifiers chosen (forest_of (drop i items)) ≡ whole → false ≡ whole
  one_below_is_not e f rest = sym (here ∙ (λ j. e j && (f j && left))) ∙ rest
