use Rattle.std.proofs.Common.{◌≡◌, ◌||◌, ℕ, List, bytes_eq, drop}
use Rattle.std.specs.List.{list_any}
use Rattle.semantic_tree.specs.Forest.{count}
use Rattle.semantic_tree.specs.Children.{forest_of}
use Rattle.mangler.specs.Predicates.{predicates_below, predicates_from}
use Rattle.mangler.proofs.predicates.+add_predicates.Given as goal

-- with those of the children that are left, all names are there
abbrev pub invariant-loop-child : goal.invariant-loop-child
invariant-loop-child l = record {
  items : forest_of l.child-items ≡ l.node.children;
  rest : (q : List ℕ) → (list_any (bytes_eq q) l.names || list_any (bytes_eq q) (predicates_below l.is_predicate (forest_of (drop l.child-index l.child-items))))
      ≡ (list_any (bytes_eq q) l.fn.names || list_any (bytes_eq q) (predicates_from l.fn.in_predicate l.node));
}

-- how many nodes are below
abbrev pub decreases-add_predicates : goal.decreases-add_predicates
decreases-add_predicates l = count l.node.now.children
