use Rattle.std.proofs.Common.{flat_map, drop}
use Rattle.report_ends.specs.Streams.{PartWritten}
use Rattle.report_lines.specs.Rows.{IsRow}
use Rattle.report_lines.specs.CountLines.{label_line}
use Rattle.report_lines.proofs.write_counts.write_labels.Given as goal

abbrev pub invariant-loop-label : goal.invariant-loop-label
invariant-loop-label g l = PartWritten g.K.Sink.held g.K.Sink.faults g.K.Sink.Offered IsRow l.fn.out l.out (flat_map label_line (drop l.label-index l.labels)) (flat_map label_line l.labels)
