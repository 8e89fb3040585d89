-- What the program has done at its end.
use Rattle.std.proofs.Common.{◌≡◌, ℕ, List, [], ◌∷◌, true, Option, Some, None, Result, Ok, Err, subst, sym, ap, ◌∙◌, refl}
use Rattle.semantic_tree.specs.Tree.{Tree}
use Rattle.generated_tree.specs.Generated.{generated}
use Rattle.semantic_diagnostics.specs.declared.diagnostic.Diagnostic.{Diagnostic}
use Rattle.report_ends.specs.declared.error.ReportError.{ReportError}
use Rattle.report_ends.specs.declared.error.ReportError.TheVariants as error
use Rattle.program_ends.specs.Calls.{SourceCall, SinkCall, Unread, Untouched}
use Rattle.program_ends.specs.Completeness.{IsNotRefused, IsDoneOrMemory}
use Rattle.program_ends.specs.Ending.{TellsEnd}
use Rattle.program_ends.specs.Lines.{tree_line, line_on_error}
use Rattle.program_ends.specs.Reads.{Stands, RefusedFor}
use Rattle.program_ends.specs.Meaning.{Finds, is_answer}
use Rattle.program_ends.specs.Telling.{stop_of}
use Rattle.program_ends.specs.declared.stops.Stop.TheVariants as stop
use Rattle.program_ends.proofs.Endings.{ends_usage, ends_answered, ends_told, answer_ends, memory_ends}
use Rattle.program_ends.proofs.Meanings.{clear_reading, clear_making}
use Rattle.program_ends.specs.FindingEnds.{end_of}
use Rattle.report_answers.specs.Codes.{status_for}
use Rattle.report.specs.Meaning.{IsAbout, Answers, GivesAnswer, Ends, IsAsked, AsksForReport, IsAskedAbout, AnswersTo, RefusesNone, MeansBy, IsClearBy, IsClearFor}
use Rattle.report.specs.Telling.{usage_line}
use Rattle.report_answers.specs.declared.request.Request.{Request}
use Rattle.program_ends.specs.declared.finding.FindingStatus.{FindingStatus}

-- ---- the answer

-- the same program
pub gives_about : {K : Type 0} (held : K → Option (List ℕ)) (faults : K → ℕ) (old new : K) (request : Request) (p q : Tree) (result : Result FindingStatus ReportError) → p ≡ q → GivesAnswer held faults old new request p result → GivesAnswer held faults old new request q result
gives_about held faults old new request p q result same given = subst (λ r. GivesAnswer held faults old new request r result) same given

-- what is read or made is what the request is about
pub read_about : (make : Option ℕ) (source : SourceCall) (p : Tree) → make ≡ None → Finds Stands source p → IsAbout make source p
read_about make source p read finds = subst (λ m. IsAbout m source p) (sym read) finds

pub made_about : (make : Option ℕ) (functions : ℕ) (source : SourceCall) → make ≡ Some functions → Unread source → IsAbout make source (generated functions)
made_about make functions source made unread = subst (λ m. IsAbout m source (generated functions)) (sym made) (unread, refl)

-- ---- the meaning of the status

is_answer_for : (diagnostics : List Diagnostic) → is_answer (end_of (status_for diagnostics)) ≡ true
is_answer_for [] = refl
is_answer_for (first ∷ others) = refl

is_answered : (request : Request) (source : SourceCall) (out : SinkCall) (result : FindingStatus) → Ends request source out (Ok result) → is_answer (end_of result) ≡ true
is_answered request source out result whole = ap is_answer whole.answers.ends ∙ is_answer_for whole.answers.diagnostics

module _ (source : SourceCall) (out errs : SinkCall) where
  -- the words are refused
  pub means_refused : (asked : Option Request) (result : FindingStatus) → asked ≡ None → Unread source → Untouched out → TellsEnd errs usage_line stop.Usage (end_of result) → MeansBy asked source out errs result
  means_refused None result none unread untouched tells = ends_usage (IsAsked None) (AsksForReport None) usage_line (IsAskedAbout None) RefusedFor tree_line (AnswersTo None) RefusesNone source out errs (end_of result) (λ asked. asked) unread untouched tells
  means_refused (Some request) result none unread untouched tells = absurd (cc)

  -- the answer is written
  pub means_answered : (asked : Option Request) (request : Request) (result : FindingStatus) → asked ≡ Some request → Ends request source out (Ok result) → Untouched errs → MeansBy asked source out errs result
  means_answered asked request result is whole untouched =
      subst (λ a. MeansBy a source out errs result) (sym is)
      (ends_answered (IsAsked (Some request)) (AsksForReport (Some request)) usage_line (IsAskedAbout (Some request)) RefusedFor tree_line (AnswersTo (Some request)) RefusesNone source out errs (end_of result) tt whole (is_answered request source out result whole) untouched)

  -- why it isn't is told
  pub means_stopped : (asked : Option Request) (request : Request) (cause : ReportError) (result : FindingStatus) → asked ≡ Some request → Ends request source out (Err cause) → TellsEnd errs (line_on_error cause) (stop_of cause) (end_of result) → MeansBy asked source out errs result
  means_stopped asked request cause result is why tells =
      subst (λ a. MeansBy a source out errs result) (sym is)
      (ends_told (IsAsked (Some request)) (AsksForReport (Some request)) usage_line (IsAskedAbout (Some request)) (AnswersTo (Some request)) RefusesNone source out errs cause (end_of result) tt why tells)

-- ---- completeness

pub answered_done : (request : Request) (source : SourceCall) (out : SinkCall) (result : FindingStatus) → Ends request source out (Ok result) → IsDoneOrMemory (end_of result)
answered_done request source out result whole = answer_ends (end_of result) (is_answered request source out result whole)

made_not_read : (functions : ℕ) → Some functions ≡ None → ⊥
made_not_read functions same = absurd (cc)

pub clear_stopped : (asked : Option Request) (request : Request) (source : SourceCall) (out errs : SinkCall) (cause : ReportError) (result : FindingStatus) → asked ≡ Some request → IsClearFor asked source out
    → (request.make ≡ None → (input : List ℕ) (program : Tree) → source.left ≡ Some input → Stands input program → IsNotRefused cause) → Ends request source out (Err cause) → TellsEnd errs (line_on_error cause) (stop_of cause) (end_of result) → IsDoneOrMemory (end_of result)
clear_stopped asked request source out errs cause result is clear kept why tells =
    subst IsDoneOrMemory (sym (memory_ends errs cause (end_of result) (by request.make refl (subst (λ a. IsClearFor a source out) is clear)) tells)) tt
  where
    by : (make : Option ℕ) → request.make ≡ make → IsClearBy make source out → cause ≡ error.Memory
    by None e c = clear_reading (request.make ≡ None) (IsAbout request.make) (Answers request) source out cause c (kept e c.input c.program c.told c.stands) why
    by (Some functions) e c = clear_making (request.make ≡ None) (IsAbout request.make) (Answers request) source out cause (λ none. made_not_read functions (sym e ∙ none)) c why

-- nothing is asked for where the words are refused
pub none_clear : (asked : Option Request) (source : SourceCall) (out : SinkCall) → asked ≡ None → IsClearFor asked source out → ⊥
none_clear None source out none clear = clear
none_clear (Some request) source out none clear = absurd (cc)

pub asked_not_none : (asked : Option Request) (request : Request) → asked ≡ Some request → asked ≡ None → ⊥
asked_not_none asked request is none = absurd (cc)
