-- What was written, or not to its end, is what becomes of an input that is asked about.
use Rattle.std.proofs.Common.{◌≡◌, ◌⊎◌, inl, inr, ℕ, List, Option, Result, Ok, Err, subst, sym, refl}
use Rattle.std.specs.Result.{IsErrAnd, IfErr}
use Rattle.report_ends.specs.Streams.{WriteCause, Writes}
use Rattle.report_ends.specs.declared.error.ReportError.{ReportError}
use Rattle.report_ends.specs.declared.error.ReportError.TheVariants as error
use Rattle.program_ends.specs.Answering.{WritesAll, GivesAnswer, EndsBy}
use Rattle.program_ends.specs.Calls.{SourceCall, SinkCall, sink_call, Unread, Untouched}
use Rattle.program_ends.specs.Completeness.{IsNotRefused}
use Rattle.program_ends.specs.Meaning.{End, NotFound, Stopped}
use Rattle.program_ends.proofs.Meanings.{stopped_reading, stopped_writing}

-- the answer isn't written to its end
pub writes_not_all : {K S : Type 0} (held : K → Option (List ℕ)) (faults : K → ℕ) (old new : K) (text : List ℕ) (status : S) (cause : ReportError) (result : Result S ReportError) → Writes held faults old new text (Err cause) → IsErrAnd result (λ told. told ≡ cause) → WritesAll held faults old new text status result
writes_not_all held faults old new text status cause (Err told) writes same = subst (λ e. Writes held faults old new text (Err e)) (sym same) writes
writes_not_all held faults old new text status cause (Ok given) writes same = absurd same

no_refusal : (rose : Type 0) (cause : ReportError) → WriteCause rose cause → IsNotRefused cause
no_refusal rose (error.Tree refusal) why = absurd why
no_refusal rose other why = tt

module _ {K S Input : Type 0} (held : K → Option (List ℕ)) (faults : K → ℕ) (end_of : S → End) (Answers : End → Input → List ℕ → Type 0) (what : Input) where
  -- memory was wanting before there was an answer
  pub gives_none : (old : K) (result : Result S ReportError) → IsErrAnd result (λ told. told ≡ error.Memory) → GivesAnswer end_of Answers held faults old old what result
  gives_none old (Err told) same = inl (same, refl)
  gives_none old (Ok status) same = absurd same

  -- the answer was written, or a prefix of it
  pub gives : (old new : K) (text : List ℕ) (status : S) (result : Result S ReportError) → Answers (end_of status) what text → WritesAll held faults old new text status result → GivesAnswer end_of Answers held faults old new what result
  gives old new text status (Ok given) answers writes = (text, subst (λ s. Answers (end_of s) what text) (sym writes.0) answers, writes.1)
  gives old new text status (Err cause) answers writes = inr (end_of status, text, answers, writes)

  -- what was given is no refusal of the input
  pub gives_no_refusal : (old new : K) (result : Result S ReportError) → GivesAnswer end_of Answers held faults old new what result → IfErr result IsNotRefused
  gives_no_refusal old new (Ok status) given = tt
  gives_no_refusal old new (Err cause) (inl memory) = subst IsNotRefused (sym memory.0) tt
  gives_no_refusal old new (Err cause) (inr part) = no_refusal _ cause part.3.cause

  -- what was given is what becomes of the input
  pub gives_ends : (IsRead : Type 0) (Gives : SourceCall → Input → Type 0) (source : SourceCall) (old new : K) (result : Result S ReportError) → IsRead ⊎ Unread source → Gives source what → GivesAnswer end_of Answers held faults old new what result
      → EndsBy end_of IsRead Gives Answers source (sink_call held faults old new) result
  gives_ends IsRead Gives source old new (Ok status) read found given = record { what = what; gives = found; text = given.0; answers = given.1; told = given.2.whole }
  gives_ends IsRead Gives source old new (Err cause) read found (inl memory) = subst (Stopped IsRead Gives Answers source (sink_call held faults old new)) (sym memory.0) (read, inl memory.1)
  gives_ends IsRead Gives source old new (Err cause) read found (inr part) = stopped_writing IsRead Gives Answers source held faults old new what part.0 part.1 cause read found part.2 part.3

-- no program is found
pub ends_unfound : {S Input : Type 0} (end_of : S → End) (IsRead : Type 0) (Gives : SourceCall → Input → Type 0) (Answers : End → Input → List ℕ → Type 0) (source : SourceCall) (out : SinkCall) (cause : ReportError) (result : Result S ReportError) → IsRead → Untouched out → NotFound source cause
    → IsErrAnd result (λ told. told ≡ cause) → EndsBy end_of IsRead Gives Answers source out result
ends_unfound end_of IsRead Gives Answers source out cause (Err told) read untouched why same =
    subst (Stopped IsRead Gives Answers source out) (sym same) (stopped_reading IsRead Gives Answers source out cause read untouched why)
ends_unfound end_of IsRead Gives Answers source out cause (Ok status) read untouched why same = absurd same

pub unfound_no_refusal : {S : Type 0} (cause : ReportError) (result : Result S ReportError) → IsNotRefused cause → IsErrAnd result (λ told. told ≡ cause) → IfErr result IsNotRefused
unfound_no_refusal cause (Err told) kept same = subst IsNotRefused (sym same) kept
unfound_no_refusal cause (Ok status) kept same = tt
