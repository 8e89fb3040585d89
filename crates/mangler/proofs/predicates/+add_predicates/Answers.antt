use Rattle.std.proofs.Common.{bytes_eq, ◌||◌, ◌∙◌, ◌<◌, length, arith}
use Rattle.std.specs.List.{list_any}
use Rattle.mangler.specs.Predicates.{predicate_at, predicates_below}
use Rattle.mangler.proofs.PredicateNames.{names_begin, names_turn}
use Rattle.mangler.proofs.predicates.+add_predicates.Goals as goal

pub loop-child-init : goal.loop-child-init
loop-child-init t c = record {
  items = c.as_slice-child-items.ensures.forest;
  rest = λ q.
      (λ i. list_any (bytes_eq q) c.add_name.new.names || list_any (bytes_eq q) (predicates_below (c.eq-is_predicate.ensures i) (c.as_slice-child-items.ensures.forest i)))
      ∙ names_begin q c.args.names.now c.add_name.new.names (predicate_at c.args.in_predicate c.args.node.now) _ (c.in_ok-add_name.ensures q);
}

pub loop-child-preserved : goal.loop-child-preserved
loop-child-preserved t c =
    let within : c.loop-child.child-index < length c.as_slice-child-items.result.now = omega arith in
    record {
      items = c.loop-child.invariant.items;
      rest = λ q. names_turn q c.eq-is_predicate.result c.as_slice-child-items.result.now c.loop-child.child-index c.loop-child-item.result c.loop-child.names c.add_predicates.new.names _ within c.loop-child-item.is
          (c.in_ok-add_predicates.ensures q) (c.loop-child.invariant.rest q);
    }
