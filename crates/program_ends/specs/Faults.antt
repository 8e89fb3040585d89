-- How a program ends where one of its ends failed.
use Rattle.std.specs.Prelude.{◌≡◌, ◌⊎◌, Result, Ok, Err}
use Rattle.report_ends.specs.declared.error.ReportError.{ReportError}
use Rattle.program_ends.specs.Calls.{SourceCall, SinkCall}
use Rattle.program_ends.specs.Meaning.{End, read, write, memory, end_of_stop}
use Rattle.program_ends.specs.Telling.{stop_of}

-- the source failed no more often
abbrev pub SourceKept : SourceCall → Type 0
SourceKept source = source.faults_then ≡ source.faults

-- the sink failed no more often
abbrev pub SinkKept : SinkCall → Type 0
SinkKept out = out.faults_then ≡ out.faults

abbrev pub IsReadOrMemory : End → Type 0
IsReadOrMemory read = Unit {0}
IsReadOrMemory memory = Unit {0}
IsReadOrMemory other = ⊥

abbrev pub IsWriteOrMemory : End → Type 0
IsWriteOrMemory write = Unit {0}
IsWriteOrMemory memory = Unit {0}
IsWriteOrMemory other = ⊥

-- where a read failed the end is `read`, and where a write failed it is `write`; want of memory alone may stand in place of either
pub record FaultsEnd (source : SourceCall) (out : SinkCall) (end : End) : Type 0 where
  pub reading : SourceKept source ⊎ IsReadOrMemory end
  pub writing : SinkKept out ⊎ IsWriteOrMemory end

-- the end of a result that isn't told yet: its status', or that of what stopped it
abbrev pub end_due : {S : Type 0} → (S → End) → Result S ReportError → End
end_due end_of (Ok status) = end_of status
end_due end_of (Err cause) = end_of_stop (stop_of cause)
