use Rattle.std.proofs.Common.{◌≡◌, ◌++◌, drop, flat_map}
use Rattle.report_lines.specs.DiagnosticLine.{label_text}
use Rattle.report_lines.proofs.diagnostic_line.push_labels.Given as goal

abbrev pub invariant-loop-label : goal.invariant-loop-label
invariant-loop-label l = l.line ++ flat_map label_text (drop l.label-index l.labels) ≡ l.fn.line ++ flat_map label_text l.labels
