-- The lengths of names in a forest, child by child.
use Rattle.std.proofs.Common.{◌≡◌, ℕ, ◌+◌, ◌<◌, ◌≤◌, List, [], ◌∷◌, length, drop, get_or, refl, ap, sym, ◌∙◌, arith}
use Rattle.std.proofs.Math.ListN.{drop_of_length-le}
use Rattle.semantic_kinds.specs.declared.role.Role.{Role}
use Rattle.semantic_syntax.proofs.Truth.{drop_here}
use Rattle.semantic_tree.specs.Children.{forest_of}
use Rattle.semantic_tree.specs.Nodes.{first_of}
use Rattle.semantic_tree.specs.declared.node.Node.{Node}
use Rattle.mangle_model.specs.Written.{own_size, as_size, size_written_below}
use Rattle.mangler.specs.Sizes.{other_size_of}

-- the first of each are compared
pub sizes_of_first : (xs ys : List Node) → as_size xs ys ≡ other_size_of (first_of xs) (first_of ys)
sizes_of_first [] ys = refl
sizes_of_first (x ∷ xs) [] = refl
sizes_of_first (x ∷ xs) (y ∷ ys) = refl

-- a child, what is below it, and those that are left
pub size_turn : (items : List (Role × Node)) (i : ℕ) (child : Role × Node) (size : ℕ) → i < length items → child ≡ get_or items i child
    → size + own_size child.1 + size_written_below child.1.children + size_written_below (forest_of (drop (i + 1) items)) ≡ size + size_written_below (forest_of (drop i items))
size_turn items i child size h e =
    plus size (own_size child.1) (size_written_below child.1.children) (size_written_below (forest_of (drop (i + 1) items)))
    ∙ ap (λ xs. size + size_written_below (forest_of xs)) (sym (drop_here items i child h e))
  where
    plus : (a b c d : ℕ) → a + b + c + d ≡ a + (b + (c + d))
    plus a b c d = omega arith

-- at the end nothing is left
pub size_end : (items : List (Role × Node)) (i size : ℕ) → length items ≤ i → size + size_written_below (forest_of (drop i items)) ≡ size
size_end items i size h = ap (λ xs. size + size_written_below (forest_of xs)) (drop_of_length-le items h) ∙ omega arith
