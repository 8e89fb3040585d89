-- Two answers that are written one behind the other.
use Rattle.std.proofs.Common.{◌≡◌, ◌++◌, ℕ, List, Option, Result, Ok, Err, refl}
use Rattle.std.specs.Result.{IsErrAnd}
use Rattle.report_ends.proofs.Stages.{text_then, text_not_then}
use Rattle.report_ends.specs.declared.error.ReportError.{ReportError}
use Rattle.program_ends.proofs.Answering.{writes_not_all}
use Rattle.program_ends.specs.Answering.{WritesAll}
use Rattle.program_ends.specs.FindingEnds.{end_of}
use Rattle.program_ends.specs.declared.finding.FindingStatus.{FindingStatus}
use Rattle.program_ends.specs.declared.finding.FindingStatus.TheVariants.{Done, Found, Usage, Tree, TooLong, Read, Write, Memory}
use Rattle.file_check.specs.Codes.{status_of_both, end_of_both}

module _ {K S U : Type 0} (held : K → Option (List ℕ)) (faults : K → ℕ) (a b : K) (first second : List ℕ) (reported : S) (status : U) where
  -- the first isn't written to its end
  pub first_fails : (cause : ReportError) (result : Result U ReportError) → WritesAll held faults a b first reported (Err cause) → IsErrAnd result (λ told. told ≡ cause) → WritesAll held faults a b (first ++ second) status result
  first_fails cause result writes same =
      writes_not_all held faults a b (first ++ second) status cause result (text_not_then held faults a b first second (first ++ second) cause writes refl) same

  -- nor is the second
  pub second_fails : {T : Type 0} (c : K) (named : T) (given : S) (cause : ReportError) (result : Result U ReportError) → WritesAll held faults a b first reported (Ok given) → WritesAll held faults b c second named (Err cause) → IsErrAnd result (λ told. told ≡ cause) → WritesAll held faults a c (first ++ second) status result
  second_fails c named given cause result before writes same =
      writes_not_all held faults a c (first ++ second) status cause result (text_then held faults a b c first second (first ++ second) tt (Err cause) before.1 writes refl) same

  -- both are
  pub both_written : {T : Type 0} (c : K) (named : T) (given : S) (also : T) (told : U) → WritesAll held faults a b first reported (Ok given) → WritesAll held faults b c second named (Ok also) → told ≡ status → WritesAll held faults a c (first ++ second) status (Ok told)
  both_written c named given also told before writes same = (same, text_then held faults a b c first second (first ++ second) tt (Ok tt) before.1 writes.1 refl)

-- the end of the status of both
pub ends_of_both : (reported named : FindingStatus) → end_of (status_of_both reported named) ≡ end_of_both (end_of reported) (end_of named)
ends_of_both Done named = refl
ends_of_both Found named = refl
ends_of_both Usage named = refl
ends_of_both Tree named = refl
ends_of_both TooLong named = refl
ends_of_both Read named = refl
ends_of_both Write named = refl
ends_of_both Memory named = refl
