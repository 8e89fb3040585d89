use Rattle.std.proofs.Common.{drop}
use Rattle.class_table.specs.Seen.{element_seen}
use Rattle.report_ends.specs.Streams.{PartWritten, numbered_text}
use Rattle.report_lines.specs.Rows.{IsRow}
use Rattle.report_lines.specs.ClassLines.{element_line}
use Rattle.report_lines.proofs.write_classes.write_elements.Given as goal

abbrev pub invariant-loop-number : goal.invariant-loop-number
invariant-loop-number g l =
    PartWritten g.K.Sink.held g.K.Sink.faults g.K.Sink.Offered IsRow l.fn.out l.out (numbered_text (λ n e. element_line l.class n (element_seen e)) l.number (drop l.number l.elements))
    (numbered_text (λ n e. element_line l.class n (element_seen e)) 0 l.elements)
