use Rattle.class_table.specs.Seen.{element_seen}
use Rattle.report_lines.specs.ClassLines.{element_line}
use Rattle.report_lines.proofs.Items.{places_go_on, places_fail}
use Rattle.report_lines.proofs.write_classes.write_elements.Goals as goal

pub returns-in_err-write_element : goal.returns-in_err-write_element
returns-in_err-write_element g c =
    places_fail g.K.Sink.held g.K.Sink.faults (λ n e. element_line c.args.class n (element_seen e)) c.loop-number.number c.args.elements.now _ _ _ _ _ _ c.from_residual.result c.loop-number.invariant c.loop-number-test.true
    (rw c.new.ensures at c.in_err-write_element.ensures) c.from_residual.ensures.1

pub loop-number-preserved : goal.loop-number-preserved
loop-number-preserved g c =
    places_go_on g.K.Sink.held g.K.Sink.faults (λ n e. element_line c.args.class n (element_seen e)) c.loop-number.number c.args.elements.now _ _ _ _ _ _ c.loop-number.invariant c.loop-number-test.true
    (rw c.new.ensures at c.in_ok-write_element.ensures)
