use Rattle.std.proofs.Common.{flat_map}
use Rattle.report_ends.specs.Streams.{PartWritten}
use Rattle.report_lines.specs.Rows.{IsRow}
use Rattle.report_lines.specs.TableLines.{bind_line}
use Rattle.report_lines.proofs.write_scopes.write_bindings.Given as goal

abbrev pub invariant-loop-name : goal.invariant-loop-name
invariant-loop-name g l = PartWritten g.K.Sink.held g.K.Sink.faults g.K.Sink.Offered IsRow l.fn.out l.out (flat_map (bind_line l.scope) l.name-iterator) (flat_map (bind_line l.scope) l.bindings)
