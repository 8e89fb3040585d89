use Rattle.std.proofs.Common.{flat_map}
use Rattle.class_table.specs.Lists.{uses_in}
use Rattle.report_ends.specs.Streams.{PartWritten}
use Rattle.report_lines.specs.Rows.{IsRow}
use Rattle.report_lines.specs.ClassLines.{private_use_line}
use Rattle.report_lines.proofs.write_classes.write_uses.Given as goal

abbrev pub invariant-loop-used : goal.invariant-loop-used
invariant-loop-used g l = PartWritten g.K.Sink.held g.K.Sink.faults g.K.Sink.Offered IsRow l.fn.out l.out (flat_map (private_use_line l.class) l.used-iterator) (flat_map (private_use_line l.class) (uses_in l.classes l.class))
