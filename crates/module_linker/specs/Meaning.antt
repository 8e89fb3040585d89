-- What each status of the program means.
use Rattle.std.specs.Prelude.{◌≡◌, ◌⊎◌, ◌≤◌, ℕ, List, [], Option, Some, None, Result, Ok, Err, String, length}
use Rattle.std.specs.declared.alloc.Global.{Global}
use Rattle.report_ends.specs.Causes.{Rose}
use Rattle.report_ends.specs.Streams.{HadMoreThan, Writes}
use Rattle.report_ends.specs.declared.error.ReportError.TheVariants as error
use Rattle.program_ends.specs.Calls.{SourceCall, SinkCall, Untouched}
use Rattle.program_ends.specs.Meaning.{End, Finds, Answered, AnsweredPart}
use Rattle.program_ends.specs.Meaning as ends
use Rattle.module_set.specs.Outcome.{IsWantOfMemory}
use Rattle.module_set.specs.Reading.{StandsForSet, RefusesSet}
use Rattle.module_set.specs.declared.error.LinkError.{LinkError}
use Rattle.module_set.specs.declared.modules.Module.{Module}
use Rattle.link_model.specs.Module.{all_analysed}
use Rattle.link_model.specs.Outcome.{AreLinks, all_imports}
use Rattle.link_model.specs.Refusal.{refusal_of}
use Rattle.link_model.specs.declared.outcome.Link.{Link}
use Rattle.module_entries.specs.LinkLines.{link_lines}
use Rattle.program_ends.specs.FindingEnds.{end_of}
use Rattle.module_linker.specs.Codes.{status_for}
use Rattle.module_linker.specs.Lines.{cause_line, usage_line}
use Rattle.module_linker.specs.Telling.{failure_stop}
use Rattle.module_linker.specs.declared.failure.LinkFailure.{LinkFailure}
use Rattle.module_linker.specs.declared.failure.LinkFailure.TheVariants.{Refused, Stopped}
use Rattle.program_ends.specs.declared.finding.FindingStatus.{FindingStatus}

-- ---- the input

-- the input stands for modules of which nothing is refused
pub record StandsLinked (bytes : List ℕ) (ms : List Module) : Type 0 where
  pub set : StandsForSet bytes ms
  pub linkable : refusal_of ms ≡ None

-- the input stands for modules that aren't linked, for this cause
pub record StandsUnlinked (bytes : List ℕ) (e : LinkError) : Type 0 where
  pub modules : List Module
  pub set : StandsForSet bytes modules
  pub why : refusal_of modules ≡ Some e

-- why an input is refused, other than by want of memory: it is no set, or its modules aren't linked
pub record RefusedFor (bytes : List ℕ) (e : LinkError) : Type 0 where
  pub other : ¬ IsWantOfMemory e
  pub why : RefusesSet bytes e ⊎ StandsUnlinked bytes e

-- ---- the answer

-- the text has a line on each link of the modules, and this is the end for it
pub record Answers (end : End) (ms : List Module) (text : List ℕ) : Type 0 where
  pub links : List Link
  pub linked : AreLinks ms links
  pub told : text ≡ link_lines (all_imports (all_analysed ms)) links
  pub ends : end ≡ end_of (status_for links)

-- the sink has taken the links of the modules, or a prefix of them; or they aren't linked
abbrev pub GivesLinks : {K : Type 0} → (K → Option (List ℕ)) → (K → ℕ) → K → K → List Module → Result FindingStatus LinkFailure → Type 0
GivesLinks held faults old new ms (Ok status) = (refusal_of ms ≡ None) × (text : List ℕ) × Answers (end_of status) ms text × Writes held faults old new text (Ok tt)
GivesLinks held faults old new ms (Err (Refused e)) = (held new ≡ held old) × (¬ IsWantOfMemory e → refusal_of ms ≡ Some e) × (faults new ≡ faults old)
GivesLinks held faults old new ms (Err (Stopped e)) = (refusal_of ms ≡ None) × (end : End) × (text : List ℕ) × Answers end ms text × Writes held faults old new text (Err e)

-- why no links are written, or not to their end, before it is told
abbrev pub Fails : SourceCall → SinkCall → LinkFailure → Type 0
Fails source out (Refused e) = Untouched out × (¬ IsWantOfMemory e → ends.Refused RefusedFor source e)
Fails source out (Stopped (error.Tree cause)) = ⊥
Fails source out (Stopped error.TooLong) = Untouched out × HadMoreThan 67108864 source.left
Fails source out (Stopped error.Read) = Untouched out × Rose source.faults source.faults_then
Fails source out (Stopped error.Write) = Rose out.faults out.faults_then × AnsweredPart (Finds StandsLinked) Answers source out
Fails source out (Stopped error.Memory) = Untouched out ⊎ AnsweredPart (Finds StandsLinked) Answers source out

-- what becomes of an input, before it is told
abbrev pub Ends : SourceCall → SinkCall → Result FindingStatus LinkFailure → Type 0
Ends source out (Ok status) = Answered (Finds StandsLinked) Answers source out (end_of status)
Ends source out (Err failure) = Fails source out failure

-- the end of a result that isn't told yet
abbrev pub end_due : Result FindingStatus LinkFailure → End
end_due (Ok status) = end_of status
end_due (Err failure) = ends.end_of_stop (failure_stop failure)

-- ---- the whole program

-- of modules that are linked nothing more is refused
abbrev pub RefusesNone : List Module → List ℕ → Type 0
RefusesNone ms line = ⊥

-- What the program has done at each status.
abbrev pub Means : SourceCall → SinkCall → SinkCall → List (String Global) → FindingStatus → Type 0
Means source out errs words status =
    ends.Means (words ≡ []) usage_line StandsLinked RefusedFor cause_line Answers RefusesNone source out errs (end_of status)

-- nothing is in the way of the links: the input stands for modules that are linked, and no end fails
pub record IsClear (source : SourceCall) (out : SinkCall) : Type 0 where
  pub input : List ℕ
  pub modules : List Module
  pub told : source.left ≡ Some input
  pub fits : length input ≤ 67108864
  pub stands : StandsLinked input modules
  pub source_holds : ¬ (Rose source.faults source.faults_then)
  pub out_holds : ¬ (Rose out.faults out.faults_then)
