use Rattle.semantic_syntax.specs.Reading.{no_reference}
use Rattle.report_lines.specs.TableLines.{reference_line}
use Rattle.report_lines.proofs.Items.{places_go_on, places_fail}
use Rattle.report_lines.proofs.write_references.write_named.Goals as goal

pub returns-in_err-write_reference : goal.returns-in_err-write_reference
returns-in_err-write_reference g c =
    places_fail g.K.Sink.held g.K.Sink.faults (reference_line c.args.scoping.now) c.loop-number.number c.args.scoping.now.references no_reference _ _ _ _ _ c.from_residual.result c.loop-number.invariant
    (rw c.references_len-count.ensures.count at c.loop-number-test.true) (rw c.new.ensures at c.in_err-write_reference.ensures) c.from_residual.ensures.1

pub loop-number-preserved : goal.loop-number-preserved
loop-number-preserved g c =
    places_go_on g.K.Sink.held g.K.Sink.faults (reference_line c.args.scoping.now) c.loop-number.number c.args.scoping.now.references no_reference _ _ _ _ _ c.loop-number.invariant
    (rw c.references_len-count.ensures.count at c.loop-number-test.true) (rw c.new.ensures at c.in_ok-write_reference.ensures)
