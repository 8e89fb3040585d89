use Rattle.std.proofs.Common.{length, flat_map}
use Rattle.report_ends.specs.Streams.{PartWritten}
use Rattle.report_lines.specs.Rows.{IsRow}
use Rattle.report_lines.specs.ClassLines.{class_lines, all_class_lines}
use Rattle.report_lines.proofs.Numbers.{AreBelow}
use Rattle.report_lines.proofs.write_classes.write_classes.Given as goal

abbrev pub invariant-loop-class : goal.invariant-loop-class
invariant-loop-class g l = record {
  below : AreBelow (length l.classes.nodes) l.class-iterator;
  written : PartWritten g.K.Sink.held g.K.Sink.faults g.K.Sink.Offered IsRow l.fn.out l.out (flat_map (class_lines l.classes) l.class-iterator) (all_class_lines l.classes);
}
