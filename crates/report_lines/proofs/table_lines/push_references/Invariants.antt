use Rattle.std.proofs.Common.{◌≡◌, ◌++◌, drop}
use Rattle.report_lines.specs.Pieces.{numbers_text}
use Rattle.report_lines.proofs.table_lines.push_references.Given as goal

abbrev pub invariant-loop-reference : goal.invariant-loop-reference
invariant-loop-reference l = l.line ++ numbers_text (drop l.reference-index l.references) ≡ l.fn.line ++ numbers_text l.references
