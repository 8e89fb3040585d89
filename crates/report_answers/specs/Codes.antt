-- The status for diagnostics.
use Rattle.std.specs.Prelude.{List, [], ◌∷◌}
use Rattle.semantic_diagnostics.specs.declared.diagnostic.Diagnostic.{Diagnostic}
use Rattle.program_ends.specs.declared.finding.FindingStatus.{FindingStatus}
use Rattle.program_ends.specs.declared.finding.FindingStatus.TheVariants.{Done, Found}

-- whether there are any
abbrev pub status_for : List Diagnostic → FindingStatus
status_for [] = Done
status_for (first ∷ others) = Found
