-- The status for names.
use Rattle.std.specs.Prelude.{◌≡◌, ℕ, List, [], ◌∷◌, true, refl}
use Rattle.program_ends.specs.FindingEnds.{end_of}
use Rattle.program_ends.specs.Meaning.{is_answer}
use Rattle.program_ends.specs.declared.finding.FindingStatus.{FindingStatus}
use Rattle.program_ends.specs.declared.finding.FindingStatus.TheVariants.{Done, Found}

-- whether a symbol is unused, or a reference undeclared
abbrev pub status_for : (unused undeclared : List ℕ) → FindingStatus
status_for [] [] = Done
status_for _ _ = Found

-- the status is one of an answer
pub status_answers : (unused undeclared : List ℕ) → is_answer (end_of (status_for unused undeclared)) ≡ true
status_answers [] [] = refl
status_answers [] (r ∷ rs) = refl
status_answers (y ∷ ys) rs = refl
