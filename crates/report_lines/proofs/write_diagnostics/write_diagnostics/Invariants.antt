use Rattle.std.proofs.Common.{flat_map}
use Rattle.report_ends.specs.Streams.{PartWritten}
use Rattle.report_lines.specs.Rows.{IsRow}
use Rattle.report_lines.specs.DiagnosticLine.{diagnostic_line}
use Rattle.report_lines.proofs.write_diagnostics.write_diagnostics.Given as goal

abbrev pub invariant-loop-diagnostic : goal.invariant-loop-diagnostic
invariant-loop-diagnostic g l = PartWritten g.K.Sink.held g.K.Sink.faults g.K.Sink.Offered IsRow l.fn.out l.out (flat_map diagnostic_line l.diagnostic-iterator) (flat_map diagnostic_line l.diagnostics)
