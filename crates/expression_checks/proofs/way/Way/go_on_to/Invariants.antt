use Rattle.std.proofs.Common.{◌≡◌, List, length}
use Rattle.semantic_tree.specs.declared.node.Node.{Node}
use Rattle.expression_checks.specs.Ways.{from_id, way_left, GoesAlong}
use Rattle.expression_checks.proofs.way.Way.go_on_to.Given as goal

abbrev pub invariant-loop-self : goal.invariant-loop-self
invariant-loop-self l = record {
  left : from_id l.id (way_left l.self) ≡ from_id l.id (way_left l.initial.self);
  along : (nodes : List Node) → GoesAlong nodes l.initial.self → GoesAlong nodes l.self;
}

abbrev pub decreases-loop-self : goal.decreases-loop-self
decreases-loop-self l = length (way_left l.self)
