use Rattle.std.proofs.Common.{flat_map}
use Rattle.report_ends.specs.Streams.{PartWritten}
use Rattle.report_lines.specs.Rows.{IsRow}
use Rattle.report_lines.specs.TableLines.{pure_line}
use Rattle.report_lines.proofs.write_symbols.write_pures.Given as goal

abbrev pub invariant-loop-symbol : goal.invariant-loop-symbol
invariant-loop-symbol g l = PartWritten g.K.Sink.held g.K.Sink.faults g.K.Sink.Offered IsRow l.fn.out l.out (flat_map pure_line l.symbol-iterator) (flat_map pure_line l.symbols.keys)
