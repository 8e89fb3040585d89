-- How a program ends where one of its ends failed.
use Rattle.std.proofs.Common.{◌≡◌, inl, inr, ℕ, List, Option, Result, Ok, Err, subst, sym, ap, ◌∙◌}
use Rattle.std.specs.Result.{IsErrAnd}
use Rattle.report_ends.specs.Streams.{ReadKeeps, Writes}
use Rattle.report_ends.specs.declared.error.ReportError.{ReportError}
use Rattle.report_ends.specs.declared.error.ReportError.TheVariants as error
use Rattle.program_ends.specs.Answering.{GivesAnswer}
use Rattle.program_ends.specs.Calls.{SourceCall, SinkCall, sink_call}
use Rattle.program_ends.specs.Ending.{TellsEnd}
use Rattle.program_ends.specs.Faults.{SourceKept, SinkKept, FaultsEnd, end_due}
use Rattle.program_ends.specs.Meaning.{End, end_of_stop}
use Rattle.program_ends.specs.Telling.{stop_of}
use Rattle.program_ends.specs.declared.stops.Stop.{Stop}

-- ---- a source's count

-- the count is as it was
pub keeps : {T : Type 0} (kept : Type 0) (result : Result T ReportError) → kept → ReadKeeps kept result
keeps kept (Ok x) steady = steady
keeps kept (Err (error.Tree refusal)) steady = steady
keeps kept (Err error.TooLong) steady = steady
keeps kept (Err error.Read) steady = tt
keeps kept (Err error.Write) steady = steady
keeps kept (Err error.Memory) steady = steady

-- the cause is handed on
pub keeps_still : {T : Type 0} (kept : Type 0) (cause : ReportError) (result : Result T ReportError) → ReadKeeps {T = T} kept (Err cause) → IsErrAnd result (λ told. told ≡ cause) → ReadKeeps kept result
keeps_still {T = T} kept cause (Err told) before same = subst (λ e. ReadKeeps {T = T} kept (Err e)) (sym same) before
keeps_still kept cause (Ok x) before same = absurd same

-- ---- what isn't told yet

module _ (source : SourceCall) (out : SinkCall) where
  -- the input isn't read whole
  pub unread_due : (cause : ReportError) → SinkKept out → ReadKeeps {T = Unit {0}} (SourceKept source) (Err cause) → FaultsEnd source out (end_of_stop (stop_of cause))
  unread_due (error.Tree refusal) wrote read = record { reading = inl read; writing = inl wrote }
  unread_due error.TooLong wrote read = record { reading = inl read; writing = inl wrote }
  unread_due error.Read wrote read = record { reading = inr tt; writing = inl wrote }
  unread_due error.Write wrote read = record { reading = inl read; writing = inl wrote }
  unread_due error.Memory wrote read = record { reading = inl read; writing = inl wrote }

  -- no program is found
  pub unfound_failing : {S : Type 0} (end_of : S → End) (cause : ReportError) (result : Result S ReportError) → SinkKept out → ReadKeeps {T = S} (SourceKept source) (Err cause) → IsErrAnd result (λ told. told ≡ cause) → FaultsEnd source out (end_due end_of result)
  unfound_failing end_of cause (Err told) wrote read same = subst (λ e. FaultsEnd source out (end_of_stop (stop_of e))) (sym same) (unread_due cause wrote read)
  unfound_failing end_of cause (Ok status) wrote read same = absurd same

module _ {K : Type 0} (held : K → Option (List ℕ)) (faults : K → ℕ) (source : SourceCall) (old new : K) where
  -- a text isn't written whole
  pub unwritten_due : (text : List ℕ) (cause : ReportError) → SourceKept source → Writes held faults old new text (Err cause) → FaultsEnd source (sink_call held faults old new) (end_of_stop (stop_of cause))
  unwritten_due text error.Write read writes = record { reading = inl read; writing = inr tt }
  unwritten_due text error.Memory read writes = record { reading = inl read; writing = inr tt }
  unwritten_due text other read writes = absurd writes.cause

  -- memory was wanting
  pub wanting_due : (cause : ReportError) → cause ≡ error.Memory → FaultsEnd source (sink_call held faults old new) (end_of_stop (stop_of cause))
  wanting_due cause wanting = subst (λ e. FaultsEnd source (sink_call held faults old new) (end_of_stop (stop_of e))) (sym wanting) (record { reading = inr tt; writing = inr tt })

  -- an answer is given, or a prefix of it
  pub given_failing : {S Input : Type 0} (end_of : S → End) (Answers : End → Input → List ℕ → Type 0) (what : Input) (result : Result S ReportError) → SourceKept source → GivesAnswer end_of Answers held faults old new what result → FaultsEnd source (sink_call held faults old new) (end_due end_of result)
  given_failing end_of Answers what (Ok status) read given = record { reading = inl read; writing = inl given.2.kept }
  given_failing end_of Answers what (Err cause) read (inl memory) = wanting_due cause memory.0
  given_failing end_of Answers what (Err cause) read (inr part) = unwritten_due part.1 cause read part.3

-- ---- what is told

-- the end that is due is told, or memory was wanting
pub told_failing : (source : SourceCall) (out errs : SinkCall) (line : List ℕ) (wanted : Stop) (end : End) → FaultsEnd source out (end_of_stop wanted) → TellsEnd errs line wanted end → FaultsEnd source out end
told_failing source out errs line wanted end due (told, is, inl whole) = subst (FaultsEnd source out) (sym (is ∙ ap end_of_stop whole.0)) due
told_failing source out errs line wanted end due (told, is, inr part) = subst (FaultsEnd source out) (sym (is ∙ ap end_of_stop part.0)) (record { reading = inr tt; writing = inr tt })
