use Rattle.std.proofs.Common.{length, flat_map}
use Rattle.report_ends.specs.Streams.{PartWritten}
use Rattle.report_lines.specs.Rows.{IsRow}
use Rattle.report_lines.specs.CountLines.{node_line_by, node_lines}
use Rattle.report_lines.proofs.Numbers.{AreBelow}
use Rattle.report_lines.proofs.write_nodes.write_nodes.Given as goal

abbrev pub invariant-loop-id : goal.invariant-loop-id
invariant-loop-id g l = record {
  below : AreBelow (length l.nodes.nodes) l.id-iterator;
  written : PartWritten g.K.Sink.held g.K.Sink.faults g.K.Sink.Offered IsRow l.fn.out l.out (flat_map (node_line_by l.nodes.parents) l.id-iterator) (node_lines l.nodes);
}
