-- What is read of an input.
use Rattle.std.proofs.Common.{◌≡◌, ℕ, List, Result, Ok, Err, subst, sym}
use Rattle.std.specs.Result.{IsErrAnd, IfOk, IfErr}
use Rattle.report_ends.specs.Causes.{Rose}
use Rattle.report_ends.specs.Streams.{IsReadWhole, HadAtMost, HadMoreThan, ReadCause}
use Rattle.report_ends.specs.declared.error.ReportError.{ReportError}
use Rattle.report_ends.specs.declared.error.ReportError.TheVariants as error
use Rattle.program_ends.specs.Calls.{SourceCall}
use Rattle.program_ends.specs.Meaning.{Finds}
use Rattle.module_set.specs.Outcome.{IsWantOfMemory, IsReadAs}
use Rattle.module_set.specs.Reading.{StandsForSet, RefusesSet}
use Rattle.module_set.specs.declared.error.LinkError.{LinkError}
use Rattle.module_set.specs.declared.modules.Module.{Module}
use Rattle.module_linker.specs.Failing.{NotFound, IsNotRefused}
use Rattle.module_linker.specs.declared.failure.LinkFailure.{LinkFailure}
use Rattle.module_linker.specs.declared.failure.LinkFailure.TheVariants.{Refused, Stopped}

-- ---- an input that isn't read whole

unread_cause : (source : SourceCall) (cause : ReportError) → ReadCause (Rose source.faults source.faults_then) (HadMoreThan 67108864 source.left) cause → NotFound source (Stopped cause)
unread_cause source (error.Tree refusal) why = why
unread_cause source error.TooLong why = why
unread_cause source error.Read why = why
unread_cause source error.Write why = why
unread_cause source error.Memory why = tt

pub not_read : {T : Type 0} (source : SourceCall) (cause : ReportError) (result : Result T LinkFailure) → ReadCause (Rose source.faults source.faults_then) (HadMoreThan 67108864 source.left) cause → IsErrAnd result (λ told. told ≡ Stopped cause) → IfErr result (NotFound source)
not_read source cause (Err told) why same = subst (NotFound source) (sym same) (unread_cause source cause why)
not_read source cause (Ok x) why same = tt

pub stopped_no_refusal : {T : Type 0} (cause : ReportError) (result : Result T LinkFailure) → IsErrAnd result (λ told. told ≡ Stopped cause) → IfErr result IsNotRefused
stopped_no_refusal cause (Err told) same = subst IsNotRefused (sym same) tt
stopped_no_refusal cause (Ok x) same = tt

pub stopped_no_set : {T : Type 0} (P : T → Type 0) (cause : LinkFailure) (result : Result T LinkFailure) → IsErrAnd result (λ told. told ≡ cause) → IfOk result P
stopped_no_set P cause (Err told) same = tt
stopped_no_set P cause (Ok x) same = absurd same

-- ---- an input that is read whole

-- the modules of the input are found
pub finds : (source : SourceCall) (bytes : List ℕ) (ms : List Module) → IsReadWhole source.left source.left_then bytes → HadAtMost 67108864 source.left → StandsForSet bytes ms → Finds StandsForSet source ms
finds source bytes ms whole fits stands = record { bytes = bytes; whole = whole; fits = fits; stands = stands }

-- the input is refused
pub refused : {T : Type 0} (source : SourceCall) (bytes : List ℕ) (e : LinkError) (result : Result T LinkFailure) → IsReadWhole source.left source.left_then bytes → HadAtMost 67108864 source.left → (¬ IsWantOfMemory e → RefusesSet bytes e)
    → IsErrAnd result (λ told. told ≡ Refused e) → IfErr result (NotFound source)
refused source bytes e (Err told) whole fits why same = subst (NotFound source) (sym same) (λ other. record { bytes = bytes; whole = whole; fits = fits; why = why other })
refused source bytes e (Ok x) whole fits why same = tt

-- an input that stands for modules isn't
pub not_refused : {T : Type 0} (ms : List Module) (e : LinkError) (result : Result T LinkFailure) → IsReadAs ms (Err e) → IsErrAnd result (λ told. told ≡ Refused e) → IfErr result IsNotRefused
not_refused ms e (Err told) memory same = subst IsNotRefused (sym same) memory
not_refused ms e (Ok x) memory same = tt
