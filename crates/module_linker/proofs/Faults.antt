-- How the program ends where one of its ends failed.
use Rattle.std.proofs.Common.{◌≡◌, inl, inr, ℕ, List, Option, Result, Ok, Err, subst, sym}
use Rattle.std.specs.Result.{IsErrAnd, IfErr}
use Rattle.report_ends.specs.Streams.{ReadKeeps}
use Rattle.report_ends.specs.declared.error.ReportError.{ReportError}
use Rattle.report_ends.specs.declared.error.ReportError.TheVariants as error
use Rattle.program_ends.specs.Calls.{SourceCall, SinkCall, sink_call}
use Rattle.program_ends.specs.Faults.{SourceKept, SinkKept, FaultsEnd}
use Rattle.program_ends.specs.Meaning.{end_of_stop}
use Rattle.program_ends.proofs.Faults.{unwritten_due}
use Rattle.module_set.specs.declared.error.LinkError.{LinkError}
use Rattle.module_set.specs.declared.modules.Module.{Module}
use Rattle.module_linker.specs.Failing.{FailureKeeps}
use Rattle.module_linker.specs.Meaning.{GivesLinks, end_due}
use Rattle.module_linker.specs.Telling.{stop_of_refusal, failure_stop}
use Rattle.module_linker.specs.declared.failure.LinkFailure.{LinkFailure}
use Rattle.module_linker.specs.declared.failure.LinkFailure.TheVariants.{Refused, Stopped}
use Rattle.program_ends.specs.declared.finding.FindingStatus.{FindingStatus}

-- ---- a source's count

cause_keeps : (kept : Type 0) (cause : ReportError) → ReadKeeps {T = Unit {0}} kept (Err cause) → FailureKeeps kept (Stopped cause)
cause_keeps kept (error.Tree e) before = before
cause_keeps kept error.TooLong before = before
cause_keeps kept error.Read before = tt
cause_keeps kept error.Write before = before
cause_keeps kept error.Memory before = before

-- the input isn't read whole
pub unread_keeps : {U : Type 0} (kept : Type 0) (cause : ReportError) (result : Result U LinkFailure) → ReadKeeps {T = Unit {0}} kept (Err cause) → IsErrAnd result (λ told. told ≡ Stopped cause) → IfErr result (FailureKeeps kept)
unread_keeps kept cause (Err told) before same = subst (FailureKeeps kept) (sym same) (cause_keeps kept cause before)
unread_keeps kept cause (Ok x) before same = tt

-- the input is refused
pub refused_keeps : {U : Type 0} (kept : Type 0) (e : LinkError) (result : Result U LinkFailure) → kept → IsErrAnd result (λ told. told ≡ Refused e) → IfErr result (FailureKeeps kept)
refused_keeps kept e (Err told) before same = subst (FailureKeeps kept) (sym same) before
refused_keeps kept e (Ok x) before same = tt

-- ---- what isn't told yet

refused_due : (source : SourceCall) (out : SinkCall) (e : LinkError) → SourceKept source → SinkKept out → FaultsEnd source out (end_of_stop (stop_of_refusal e))
refused_due source out e read wrote = record { reading = inl read; writing = inl wrote }

module _ (source : SourceCall) (out : SinkCall) where
  unfound_due : (failure : LinkFailure) → SinkKept out → FailureKeeps (SourceKept source) failure → FaultsEnd source out (end_of_stop (failure_stop failure))
  unfound_due (Refused e) wrote read = refused_due source out e read wrote
  unfound_due (Stopped (error.Tree cause)) wrote read = record { reading = inl read; writing = inl wrote }
  unfound_due (Stopped error.TooLong) wrote read = record { reading = inl read; writing = inl wrote }
  unfound_due (Stopped error.Read) wrote read = record { reading = inr tt; writing = inl wrote }
  unfound_due (Stopped error.Write) wrote read = record { reading = inl read; writing = inl wrote }
  unfound_due (Stopped error.Memory) wrote read = record { reading = inl read; writing = inl wrote }

  -- no set is found
  pub unfound_failing : (failure : LinkFailure) (result : Result FindingStatus LinkFailure) → SinkKept out → FailureKeeps (SourceKept source) failure → IsErrAnd result (λ told. told ≡ failure) → FaultsEnd source out (end_due result)
  unfound_failing failure (Err told) wrote read same = subst (λ f. FaultsEnd source out (end_of_stop (failure_stop f))) (sym same) (unfound_due failure wrote read)
  unfound_failing failure (Ok status) wrote read same = absurd same

-- what is given of the modules that are found
pub given_failing : {K : Type 0} (held : K → Option (List ℕ)) (faults : K → ℕ) (source : SourceCall) (old new : K) (ms : List Module) (result : Result FindingStatus LinkFailure) → SourceKept source → GivesLinks held faults old new ms result
    → FaultsEnd source (sink_call held faults old new) (end_due result)
given_failing held faults source old new ms (Ok status) read given = record { reading = inl read; writing = inl given.3.kept }
given_failing held faults source old new ms (Err (Refused e)) read given = refused_due source (sink_call held faults old new) e read given.2
given_failing held faults source old new ms (Err (Stopped e)) read given = unwritten_due held faults source old new given.2 e read given.4
