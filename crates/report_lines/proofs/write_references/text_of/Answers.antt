use Rattle.report_lines.proofs.Utf8.{same_characters}
use Rattle.report_lines.proofs.write_references.text_of.Goals as goal

pub returns-in-Some : goal.returns-in-Some
returns-in-Some c = rw c.in-Some.is (same_characters _ _ c.as_str.utf8 c.as_str.ensures)
