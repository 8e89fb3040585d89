use Rattle.std.proofs.Common.{◌≡◌, ◌==◌, List, length}
use Rattle.semantic_tree.specs.declared.node.Node.{Node}
use Rattle.check_model.specs.Search.{find_before}
use Rattle.check_model.specs.Super.{is_element}
use Rattle.expression_checks.specs.Ways.{way_links, GoesAlong}
use Rattle.expression_checks.proofs.way.Way.next_element.Given as goal

abbrev pub invariant-loop-child : goal.invariant-loop-child
invariant-loop-child l = record {
  link : find_before (λ link. link.1.node_id == l.class) (λ link. is_element link.1.kind) (way_links l.self) ≡ find_before (λ link. link.1.node_id == l.class) (λ link. is_element link.1.kind) (way_links l.initial.self);
  along : (nodes : List Node) → GoesAlong nodes l.initial.self → GoesAlong nodes l.self;
}

abbrev pub decreases-loop-child : goal.decreases-loop-child
decreases-loop-child l = length (way_links l.self)
