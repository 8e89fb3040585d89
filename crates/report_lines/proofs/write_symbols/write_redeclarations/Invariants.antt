use Rattle.std.proofs.Common.{flat_map, drop}
use Rattle.report_ends.specs.Streams.{PartWritten}
use Rattle.report_lines.specs.Rows.{IsRow}
use Rattle.report_lines.specs.TableLines.{redeclaration_line}
use Rattle.report_lines.proofs.write_symbols.write_redeclarations.Given as goal

abbrev pub invariant-loop-entry : goal.invariant-loop-entry
invariant-loop-entry g l = PartWritten g.K.Sink.held g.K.Sink.faults g.K.Sink.Offered IsRow l.fn.out l.out (flat_map (redeclaration_line l.symbol) (drop l.entry-index l.entries)) (flat_map (redeclaration_line l.symbol) l.entries)
