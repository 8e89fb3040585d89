-- Why no links of an input are written.
use Rattle.report_ends.specs.Causes.{Rose}
use Rattle.report_ends.specs.Streams.{HadMoreThan}
use Rattle.report_ends.specs.declared.error.ReportError.TheVariants as error
use Rattle.program_ends.specs.Calls.{SourceCall}
use Rattle.program_ends.specs.Meaning as ends
use Rattle.module_set.specs.Outcome.{IsWantOfMemory}
use Rattle.module_set.specs.Reading.{RefusesSet}
use Rattle.module_linker.specs.declared.failure.LinkFailure.{LinkFailure}
use Rattle.module_linker.specs.declared.failure.LinkFailure.TheVariants.{Refused, Stopped}

-- why no set is found in the input
abbrev pub NotFound : SourceCall → LinkFailure → Type 0
NotFound source (Refused e) = ¬ IsWantOfMemory e → ends.Refused RefusesSet source e
NotFound source (Stopped (error.Tree cause)) = ⊥
NotFound source (Stopped error.TooLong) = HadMoreThan 67108864 source.left
NotFound source (Stopped error.Read) = Rose source.faults source.faults_then
NotFound source (Stopped error.Write) = ⊥
NotFound source (Stopped error.Memory) = Unit {0}

-- the count of the source's faults is as it was, unless a read failed
abbrev pub FailureKeeps : Type 0 → LinkFailure → Type 0
FailureKeeps kept (Stopped error.Read) = Unit {0}
FailureKeeps kept failure = kept

-- the input isn't refused
abbrev pub IsNotRefused : LinkFailure → Type 0
IsNotRefused (Refused e) = IsWantOfMemory e
IsNotRefused (Stopped e) = Unit {0}
