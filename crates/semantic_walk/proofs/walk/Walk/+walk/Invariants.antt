use Rattle.std.proofs.Common.{◌≡◌, ◌+◌, ◌*◌, ◌≤◌, ℕ, List, Option, length}
use Rattle.semantic_tree.specs.Forest.{count}
use Rattle.semantic_tree.specs.Children.{forest_of}
use Rattle.semantic_model.specs.Place.{Place, OpenScope}
use Rattle.semantic_model.specs.Declaration.{Declaration}
use Rattle.semantic_walk.specs.AtPlace.{IsEntered}
use Rattle.semantic_walk.specs.Walker.{Walker}
use Rattle.table_building.specs.Growth.{Goes}
use Rattle.semantic_walk.specs.Turns.{IsTurn}
use Rattle.semantic_walk.proofs.Visiting.{Rests, turn_at}
use Rattle.semantic_walk.proofs.walk.Walk.+walk.Given as goal

-- how many nodes are below, and which of the functions comes to them
abbrev pub decreases-walk_child : goal.decreases-walk_child
decreases-walk_child g l = 4 * count l.kind.node.now.children + 3

abbrev pub decreases-walk_over : goal.decreases-walk_over
decreases-walk_over g l = 4 * count l.kind.node.now.children + 2

abbrev pub decreases-walk_below : goal.decreases-walk_below
decreases-walk_below g l = 4 * count l.kind.node.now.children + 1

abbrev pub decreases-walk_even : goal.decreases-walk_even
decreases-walk_even g l = 4 * count l.kind.node.now.children

abbrev pub decreases-walk_acting : goal.decreases-walk_acting
decreases-walk_acting g l = 4 * count l.kind.node.now.children

abbrev pub decreases-walk_even-loop-child_role : goal.decreases-walk_even-loop-child_role
decreases-walk_even-loop-child_role g l = length l.left

abbrev pub decreases-walk_acting-loop-child_role : goal.decreases-walk_acting-loop-child_role
decreases-walk_acting-loop-child_role g l = length l.left

-- what is left is below the node, and the walk goes over it to where all is walked over
abbrev pub invariant-walk_even-loop-child_role : goal.invariant-walk_even-loop-child_role
invariant-walk_even-loop-child_role g l =
    record {
      left : count (forest_of l.left) ≤ count l.kind.node.now.children;
      goes : Goes l.initial.self.made l.self.made;
      risen : l.fn.steps ≤ l.steps;
      rests : (ds : List Declaration) (first : Walker) (p : Place) (own : Option OpenScope) (n : ℕ) → p.node ≡ l.kind.node.now → p.role ≡ l.fn.role → IsEntered ds first l.fn.self p own n
          → Rests ds first p own n l.fn.steps l.steps l.self (turn_at l.fn.self l.kind.node.now.kind) (forest_of l.left);
    }

-- so it does where it opens scopes between children, and the turn stands
abbrev pub invariant-walk_acting-loop-child_role : goal.invariant-walk_acting-loop-child_role
invariant-walk_acting-loop-child_role g l =
    record {
      left : count (forest_of l.left) ≤ count l.kind.node.now.children;
      turn : IsTurn l.self.made l.turn;
      goes : Goes l.initial.self.made l.self.made;
      start : length l.initial.self.made.waiting ≤ l.turn.header_start;
      risen : l.fn.steps ≤ l.steps;
      rests : (ds : List Declaration) (first : Walker) (p : Place) (own : Option OpenScope) (n : ℕ) → p.node ≡ l.kind.node.now → p.role ≡ l.role → IsEntered ds first l.fn.self p own n
          → Rests ds first p own n l.fn.steps l.steps l.self l.turn (forest_of l.left);
    }
