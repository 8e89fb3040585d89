-- What each status of the program means.
use Rattle.std.specs.Prelude.{◌≡◌, ℕ, List, Option, Some, None, Result, String}
use Rattle.std.specs.declared.alloc.Global.{Global}
use Rattle.semantic_syntax.specs.Tables.{Tables}
use Rattle.semantic_tree.specs.Tree.{Tree}
use Rattle.semantic_diagnostics.specs.declared.diagnostic.Diagnostic.{Diagnostic}
use Rattle.generated_tree.specs.Generated.{generated}
use Rattle.report_ends.specs.Causes.{Rose}
use Rattle.report_ends.specs.declared.error.ReportError.{ReportError}
use Rattle.program_ends.specs.Answering.{EndsBy}
use Rattle.program_ends.specs.Answering as answering
use Rattle.program_ends.specs.Calls.{SourceCall, SinkCall, Unread}
use Rattle.program_ends.specs.Completeness.{IsClear}
use Rattle.program_ends.specs.Lines.{tree_line}
use Rattle.program_ends.specs.Meaning.{End, Finds, MeansOf}
use Rattle.program_ends.specs.Reads.{Stands, RefusedFor}
use Rattle.promise.specs.Analysis.{IsAnalysis}
use Rattle.program_ends.specs.FindingEnds.{end_of}
use Rattle.report_answers.specs.Codes.{status_for}
use Rattle.report.specs.Built.{found_of}
use Rattle.report_answers.specs.Report.{answer_text}
use Rattle.report_answers.specs.Requests.{request_of}
use Rattle.report.specs.Telling.{usage_line}
use Rattle.report_answers.specs.declared.request.Request.{Request}
use Rattle.program_ends.specs.declared.finding.FindingStatus.{FindingStatus}

-- ---- what is answered

-- the program that is answered about: what the input stands for, or the script of so many functions, for which nothing is read
abbrev pub IsAbout : Option ℕ → SourceCall → Tree → Type 0
IsAbout None source p = Finds Stands source p
IsAbout (Some functions) source p = Unread source × (p ≡ generated functions)

-- the text is the answer to the request about the program, whose tables and diagnostics these are, and this is the end for it: `found` exactly where there are diagnostics
pub record Answers (request : Request) (end : End) (p : Tree) (text : List ℕ) : Type 0 where
  pub tables : Tables
  pub diagnostics : List Diagnostic
  pub built : IsAnalysis request.check p tables diagnostics
  pub told : text ≡ answer_text request (found_of p tables diagnostics)
  pub ends : end ≡ end_of (status_for diagnostics)

-- the sink has taken the answer about the program, or a prefix of it; or memory was wanting before there was one
abbrev pub GivesAnswer : {K : Type 0} → (K → Option (List ℕ)) → (K → ℕ) → K → K → Request → Tree → Result FindingStatus ReportError → Type 0
GivesAnswer held faults old new request p result = answering.GivesAnswer end_of (Answers request) held faults old new p result

-- what becomes of a request, before it is told
abbrev pub Ends : Request → SourceCall → SinkCall → Result FindingStatus ReportError → Type 0
Ends request source out result = EndsBy end_of (request.make ≡ None) (IsAbout request.make) (Answers request) source out result

-- ---- the whole program

-- the words ask for something
abbrev pub IsAsked : Option Request → Type 0
IsAsked None = ⊥
IsAsked (Some request) = Unit {0}

-- the words ask for the report of the input
abbrev pub AsksForReport : Option Request → Type 0
AsksForReport None = ⊥
AsksForReport (Some request) = request.make ≡ None

-- what they ask about
abbrev pub IsAskedAbout : Option Request → SourceCall → Tree → Type 0
IsAskedAbout None source p = ⊥
IsAskedAbout (Some request) source p = IsAbout request.make source p

-- what is answered
abbrev pub AnswersTo : Option Request → End → Tree → List ℕ → Type 0
AnswersTo None end p text = ⊥
AnswersTo (Some request) end p text = Answers request end p text

-- no request is refused about a good input
abbrev pub RefusesNone : Tree → List ℕ → Type 0
RefusesNone p line = ⊥

-- what the program has done at a status, by what the words ask for
abbrev pub MeansBy : Option Request → SourceCall → SinkCall → SinkCall → FindingStatus → Type 0
MeansBy asked source out errs status =
    MeansOf (IsAsked asked) (AsksForReport asked) usage_line (IsAskedAbout asked) RefusedFor tree_line (AnswersTo asked) RefusesNone source out errs (end_of status)

-- What the program has done at each status.
abbrev pub Means : SourceCall → SinkCall → SinkCall → List (String Global) → FindingStatus → Type 0
Means source out errs words status = MeansBy (request_of words) source out errs status

-- ---- completeness

-- nothing is in the way of an answer: of a report the input stands for a program and no end fails, of a summary the sink doesn't fail
abbrev pub IsClearBy : Option ℕ → SourceCall → SinkCall → Type 0
IsClearBy None source out = IsClear source out
IsClearBy (Some functions) source out = ¬ (Rose out.faults out.faults_then)

-- the words ask for something, and nothing is in the way of the answer
abbrev pub IsClearFor : Option Request → SourceCall → SinkCall → Type 0
IsClearFor None source out = ⊥
IsClearFor (Some request) source out = IsClearBy request.make source out
