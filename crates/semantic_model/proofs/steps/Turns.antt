-- The steps of the children of a node, one child at a time.
use Rattle.std.proofs.Common.{◌≡◌, ℕ, ◌+◌, ◌<◌, ◌≤◌, List, length, get_or, drop, ◌++◌, Option, cond, refl}
use Rattle.std.proofs.Math.ListN.{drop_of_length-le}
use Rattle.semantic_syntax.proofs.Truth.{drop_here}
use Rattle.semantic_tree.specs.Children.{forest_of}
use Rattle.semantic_kinds.specs.declared.role.Role.{Role}
use Rattle.semantic_tree.specs.declared.node.Node.{Node}
use Rattle.semantic_model.specs.Place.{Place, OpenScope}
use Rattle.semantic_model.specs.Inside.{opens, scopes_in}
use Rattle.semantic_model.specs.Step.{steps_below, steps_of, opening_at, ending_after, opening_last, scope_at, next_at, child_place, cursor_past}

-- the steps of the children that are left are those of the first one, and those of the rest
pub steps_turn : (p : Place) (own : Option OpenScope) (n cursor : ℕ) (items : List (Role × Node)) (i : ℕ) (child : Role × Node) → i < length items → child ≡ get_or items i child → steps_below p own n cursor (forest_of (drop i items)) ≡ opening_at p child.0 own n ++ steps_of (child_place p (scope_at p child.0 own n) cursor child.0 child.1) (next_at p child.0 own n) ++ ending_after p child.0 (scope_at p child.0 own n) (forest_of (drop (i + 1) items)) ++ steps_below p (scope_at p child.0 own n) (next_at p child.0 own n + cond (opens child.1.kind) 1 0 + scopes_in child.1.children) (cursor_past p child.0 cursor (child_place p (scope_at p child.0 own n) cursor child.0 child.1)) (forest_of (drop (i + 1) items))
steps_turn p own n cursor items i child h e = rw (drop_here items i child h e) refl

-- at the end a scope without children inside opens and closes
pub steps_end : (p : Place) (own : Option OpenScope) (n cursor : ℕ) (items : List (Role × Node)) (i : ℕ) → length items ≤ i → steps_below p own n cursor (forest_of (drop i items)) ≡ opening_last p own n
steps_end p own n cursor items i h = rw (drop_of_length-le items h) refl
