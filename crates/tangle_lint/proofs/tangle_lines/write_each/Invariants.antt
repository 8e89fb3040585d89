use Rattle.std.proofs.Common.{flat_map, drop}
use Rattle.report_ends.specs.Streams.{PartWritten}
use Rattle.tangle_lint.specs.Lines.{seen_line, IsTangleLine}
use Rattle.tangle_lint.proofs.tangle_lines.write_each.Given as goal

abbrev pub invariant-loop-name : goal.invariant-loop-name
invariant-loop-name g l = PartWritten g.K.Sink.held g.K.Sink.faults g.K.Sink.Offered IsTangleLine l.fn.out l.out (flat_map (seen_line l.scoping) (drop l.name-index l.names)) (flat_map (seen_line l.scoping) l.names)
