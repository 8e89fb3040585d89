use Rattle.std.proofs.Common.{drop}
use Rattle.report_ends.specs.Streams.{PartWritten, numbered_text}
use Rattle.report_lines.specs.Rows.{IsRow}
use Rattle.report_lines.specs.TableLines.{scope_lines}
use Rattle.report_lines.proofs.write_scopes.write_scopes.Given as goal

abbrev pub invariant-loop-number : goal.invariant-loop-number
invariant-loop-number g l = PartWritten g.K.Sink.held g.K.Sink.faults g.K.Sink.Offered IsRow l.fn.out l.out (numbered_text (scope_lines l.scoping) l.number (drop l.number l.scoping.scopes)) (numbered_text (scope_lines l.scoping) 0 l.scoping.scopes)
