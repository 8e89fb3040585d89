-- The children of a node that stands in the source.
use Rattle.std.proofs.Common.{◌≡◌, ℕ, List, [], ◌∷◌, Bool, true, false, IfSome, if◌then◌else◌}
use Rattle.semantic_kinds.specs.Roles.{same_role}
use Rattle.semantic_kinds.specs.declared.role.Role.{Role}
use Rattle.semantic_tree.specs.Forest.{Forest, nothing, tree}
use Rattle.semantic_tree.specs.Nodes.{trees, nodes_in, first_of}
use Rattle.semantic_tree.specs.Sound.{has_good_span}
use Rattle.check_context.specs.Sound.{HaveGoodSpans}

module _ (source : List ℕ) where
  -- a child in a role, if there is one
  pub child_good : (r : Role) (f : Forest) → HaveGoodSpans source f → IfSome (first_of (nodes_in r (trees f))) (λ child. has_good_span source child ≡ true)
  child_good r nothing h = tt
  child_good r (tree r2 k span text marks below id after) h = by (same_role r2 r) (child_good r after h.1.1)
    where
      by : (b : Bool) → IfSome (first_of (nodes_in r (trees after))) (λ child. has_good_span source child ≡ true) → IfSome (first_of (if b then (record { kind = k; span = span; text = text; marks = marks; children = below; node_id = id }) ∷ nodes_in r (trees after) else nodes_in r (trees after))) (λ child. has_good_span source child ≡ true)
      by true rest = h.0
      by false rest = rest
