use Rattle.std.proofs.Common.{◌≡◌, length, subst, sym, ◌∙◌}
use Rattle.node_store.specs.Outward.{numbered_from}
use Rattle.node_store.specs.Left.{numbered_behind}
use Rattle.report_lines.specs.CountLines.{node_line_by}
use Rattle.report_lines.proofs.Items.{items_go_on, items_fail}
use Rattle.report_lines.proofs.Numbers.{AreBelow, first_below, all_numbered, begins_with}
use Rattle.report_lines.proofs.write_nodes.write_nodes.Goals as goal

pub loop-id-preserved : goal.loop-id-preserved
loop-id-preserved g c = record {
  below = (first_below numbered_behind _ _ _ _ _ c.loop-id.invariant.below c.in-Some.is c.next.ensures.steps).1;
  written = items_go_on g.K.Sink.held g.K.Sink.faults numbered_behind (node_line_by c.args.nodes.now.parents) _ _ _ _ _ _ _ _ _ c.loop-id.invariant.written c.in-Some.is c.next.ensures.steps c.in_ok-write_node.ensures;
}

pub returns-in_err-write_node : goal.returns-in_err-write_node
returns-in_err-write_node g c = items_fail g.K.Sink.held g.K.Sink.faults numbered_behind (node_line_by c.args.nodes.now.parents) _ _ _ _ _ _ _ _ _ c.from_residual.result c.loop-id.invariant.written c.in-Some.is c.next.ensures.steps c.in_err-write_node.ensures c.from_residual.ensures.1

pub loop-id-init : goal.loop-id-init
loop-id-init g c =
    let begins : c.into_iter-id-iterator.result ≡ numbered_from 0 c.args.nodes.now.nodes = c.into_iter-id-iterator.ensures.into_iter_gives ∙ c.iter_enumerated-id-items.ensures in
    record {
      below = subst (AreBelow (length c.args.nodes.now.nodes)) (sym begins) (all_numbered c.args.nodes.now.nodes);
      written = begins_with g.K.Sink.held g.K.Sink.faults c.args.out.now (node_line_by c.args.nodes.now.parents) _ _ begins;
    }
