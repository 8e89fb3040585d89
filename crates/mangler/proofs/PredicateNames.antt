-- The names that type predicates have, child by child.
use Rattle.std.proofs.Common.{◌≡◌, ◌+◌, ◌<◌, ℕ, List, ◌++◌, Bool, ◌||◌, bytes_eq, length, drop, get_or, sym, ap, ◌∙◌}
use Rattle.std.specs.List.{list_any}
use Rattle.semantic_kinds.specs.declared.role.Role.{Role}
use Rattle.semantic_syntax.specs.Tables.{Name}
use Rattle.semantic_syntax.proofs.Truth.{drop_here}
use Rattle.semantic_tree.specs.Children.{forest_of}
use Rattle.semantic_tree.specs.declared.node.Node.{Node}
use Rattle.mangler.specs.Predicates.{predicates_below, predicates_from}
use Rattle.mangler.proofs.AnyOf.{any_append, or_assoc}

pub names_begin : (q : Name) (old new at below : List Name) → list_any (bytes_eq q) new ≡ (list_any (bytes_eq q) old || list_any (bytes_eq q) at)
    → (list_any (bytes_eq q) new || list_any (bytes_eq q) below) ≡ (list_any (bytes_eq q) old || list_any (bytes_eq q) (at ++ below))
names_begin q old new at below e =
    ap (λ b. b || list_any (bytes_eq q) below) e
    ∙ or_assoc (list_any (bytes_eq q) old) (list_any (bytes_eq q) at) (list_any (bytes_eq q) below)
    ∙ ap (λ b. list_any (bytes_eq q) old || b) (sym (any_append (bytes_eq q) at below))

pub names_turn : (q : Name) (inside : Bool) (items : List (Role × Node)) (i : ℕ) (child : Role × Node) (old new : List Name) (whole : Bool) → i < length items → child ≡ get_or items i child
    → list_any (bytes_eq q) new ≡ (list_any (bytes_eq q) old || list_any (bytes_eq q) (predicates_from inside child.1))
    → (list_any (bytes_eq q) old || list_any (bytes_eq q) (predicates_below inside (forest_of (drop i items)))) ≡ whole
    → (list_any (bytes_eq q) new || list_any (bytes_eq q) (predicates_below inside (forest_of (drop (i + 1) items)))) ≡ whole
names_turn q inside items i child old new whole h is grown rest =
    names_begin q old new (predicates_from inside child.1) (predicates_below inside (forest_of (drop (i + 1) items))) grown
    ∙ ap (λ xs. list_any (bytes_eq q) old || list_any (bytes_eq q) (predicates_below inside (forest_of xs))) (sym (drop_here items i child h is))
    ∙ rest
