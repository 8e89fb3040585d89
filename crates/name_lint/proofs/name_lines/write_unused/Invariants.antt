use Rattle.std.proofs.Common.{flat_map, drop}
use Rattle.report_ends.specs.Streams.{PartWritten}
use Rattle.name_lint.specs.Lines.{unused_line, IsNameLine}
use Rattle.name_lint.proofs.name_lines.write_unused.Given as goal

abbrev pub invariant-loop-symbol : goal.invariant-loop-symbol
invariant-loop-symbol g l = PartWritten g.K.Sink.held g.K.Sink.faults g.K.Sink.Offered IsNameLine l.fn.out l.out (flat_map (unused_line l.scoping) (drop l.symbol-index l.symbols)) (flat_map (unused_line l.scoping) l.symbols)
