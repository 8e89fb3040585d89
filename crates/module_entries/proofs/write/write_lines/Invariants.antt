use Rattle.std.proofs.Common.{length, map}
use Rattle.report_ends.specs.Streams.{PartWritten}
use Rattle.tree_json.specs.Views.{characters}
use Rattle.module_entries.specs.LinkLines.{lines_for, IsLinkLine}
use Rattle.module_entries.proofs.Pairs.{left}
use Rattle.module_entries.proofs.write.write_lines.Given as goal

abbrev pub invariant-loop-local : goal.invariant-loop-local
invariant-loop-local g l = PartWritten g.K.Sink.held g.K.Sink.faults g.K.Sink.Offered IsLinkLine l.fn.out l.out (left l.locals l.links (length l.yielded)) (lines_for (map characters l.locals) l.links)
