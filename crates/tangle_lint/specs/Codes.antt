-- The status for tangled names.
use Rattle.std.specs.Prelude.{◌≡◌, List, [], ◌∷◌, true, refl}
use Rattle.program_ends.specs.FindingEnds.{end_of}
use Rattle.program_ends.specs.Meaning.{is_answer}
use Rattle.program_ends.specs.declared.finding.FindingStatus.{FindingStatus}
use Rattle.program_ends.specs.declared.finding.FindingStatus.TheVariants.{Done, Found}
use Rattle.tangle_model.specs.Tangled.{Tangle}

-- whether there are any
abbrev pub status_for : List Tangle → FindingStatus
status_for [] = Done
status_for (n ∷ ns) = Found

-- the status is one of an answer
pub status_answers : (found : List Tangle) → is_answer (end_of (status_for found)) ≡ true
status_answers [] = refl
status_answers (n ∷ ns) = refl
