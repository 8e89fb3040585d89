use Rattle.std.proofs.Common.{flat_map, drop, map}
use Rattle.report_ends.specs.Streams.{PartWritten}
use Rattle.name_lint.specs.Gathered.{text_of, span_of}
use Rattle.name_lint.specs.Lines.{undeclared_line, IsNameLine}
use Rattle.name_lint.proofs.name_lines.write_undeclared.Given as goal

abbrev pub invariant-loop-reference : goal.invariant-loop-reference
invariant-loop-reference g l = PartWritten g.K.Sink.held g.K.Sink.faults g.K.Sink.Offered IsNameLine l.fn.out l.out (flat_map (undeclared_line (map text_of l.nodes) (map span_of l.nodes)) (drop l.reference-index l.references)) (flat_map (undeclared_line (map text_of l.nodes) (map span_of l.nodes)) l.references)
