use Rattle.std.proofs.Common.{◌≡◌, ◌++◌, drop}
use Rattle.report_lines.specs.Pieces.{numbers_text}
use Rattle.report_lines.proofs.class_lines.push_elements.Given as goal

abbrev pub invariant-loop-element : goal.invariant-loop-element
invariant-loop-element l = l.line ++ numbers_text (drop l.element-index l.elements) ≡ l.fn.line ++ numbers_text l.elements
