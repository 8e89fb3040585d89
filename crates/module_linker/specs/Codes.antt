-- The status for links.
use Rattle.std.specs.Prelude.{List, Bool, true, false, if◌then◌else◌}
use Rattle.std.specs.List.{list_any}
use Rattle.link_model.specs.declared.outcome.Link.{Link}
use Rattle.link_model.specs.declared.outcome.LinkOutcome.{LinkOutcome}
use Rattle.link_model.specs.declared.outcome.LinkOutcome.TheVariants.{Missing, Ring, Ambiguous}
use Rattle.program_ends.specs.declared.finding.FindingStatus.{FindingStatus}
use Rattle.program_ends.specs.declared.finding.FindingStatus.TheVariants.{Done, Found}

-- an import that comes to nothing, or to things that differ
abbrev pub is_loose : LinkOutcome → Bool
is_loose Missing = true
is_loose Ring = true
is_loose Ambiguous = true
is_loose _ = false

-- whether there is one
abbrev pub status_for : List Link → FindingStatus
status_for links = if list_any (λ l. is_loose l.outcome) links then Found else Done
