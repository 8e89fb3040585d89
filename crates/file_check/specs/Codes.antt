-- The status and the end of two answers.
use Rattle.std.specs.Prelude.{◌≡◌, ℕ, List, [], ◌∷◌, true, refl}
use Rattle.semantic_diagnostics.specs.declared.diagnostic.Diagnostic.{Diagnostic}
use Rattle.program_ends.specs.FindingEnds.{end_of}
use Rattle.program_ends.specs.Meaning.{End, found, is_answer}
use Rattle.program_ends.specs.declared.finding.FindingStatus.{FindingStatus}
use Rattle.program_ends.specs.declared.finding.FindingStatus.TheVariants.{Found}
use Rattle.report_answers.specs.Codes as report
use Rattle.name_lint.specs.Codes as lint

-- the lint's status, unless the report has diagnostics
abbrev pub status_of_both : FindingStatus → FindingStatus → FindingStatus
status_of_both Found named = Found
status_of_both reported named = named

-- the second end, unless the first one is that there are findings
abbrev pub end_of_both : End → End → End
end_of_both found named = found
end_of_both reported named = named

-- the end of both is one of an answer
pub both_answer : (diagnostics : List Diagnostic) (unused undeclared : List ℕ) → is_answer (end_of_both (end_of (report.status_for diagnostics)) (end_of (lint.status_for unused undeclared))) ≡ true
both_answer [] unused undeclared = lint.status_answers unused undeclared
both_answer (d ∷ ds) unused undeclared = refl
