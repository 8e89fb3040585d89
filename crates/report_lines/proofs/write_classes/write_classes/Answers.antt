use Rattle.std.proofs.Common.{◌≡◌, length, subst, sym, ◌∙◌}
use Rattle.std.specs.List.{enumerate_from}
use Rattle.report_lines.specs.ClassLines.{class_lines}
use Rattle.report_lines.proofs.Items.{items_go_on, items_fail}
use Rattle.report_lines.proofs.Numbers.{AreBelow, first_below, all_enumerated, begins_with}
use Rattle.report_lines.proofs.write_classes.write_classes.Goals as goal

pub loop-class-preserved : goal.loop-class-preserved
loop-class-preserved g c = record {
  below = (first_below (λ p. p) _ _ _ _ _ c.loop-class.invariant.below c.in-Some.is c.next.ensures.steps).1;
  written = items_go_on g.K.Sink.held g.K.Sink.faults (λ p. p) (class_lines c.args.classes.now) _ _ _ _ _ _ _ _ _ c.loop-class.invariant.written c.in-Some.is c.next.ensures.steps c.in_ok-write_class.ensures;
}

pub returns-in_err-write_class : goal.returns-in_err-write_class
returns-in_err-write_class g c = items_fail g.K.Sink.held g.K.Sink.faults (λ p. p) (class_lines c.args.classes.now) _ _ _ _ _ _ _ _ _ c.from_residual.result c.loop-class.invariant.written c.in-Some.is c.next.ensures.steps c.in_err-write_class.ensures c.from_residual.ensures.1

pub loop-class-init : goal.loop-class-init
loop-class-init g c =
    let begins : c.into_iter-class-iterator.result ≡ enumerate_from 0 c.args.classes.now.nodes = c.into_iter-class-iterator.ensures.into_iter_gives ∙ c.iter_enumerated-class-items.ensures in
    record {
      below = subst (AreBelow (length c.args.classes.now.nodes)) (sym begins) (all_enumerated c.args.classes.now.nodes);
      written = begins_with g.K.Sink.held g.K.Sink.faults c.args.out.now (class_lines c.args.classes.now) _ _ begins;
    }
