-- How a line on what stops a program is told, and what becomes of it.
use Rattle.std.specs.Prelude.{◌≡◌, ◌⊎◌, ℕ, List, Result, Ok, Err}
use Rattle.std.specs.Io.KnownBytes.{Appends}
use Rattle.std.specs.declared.alloc.AllocError.{AllocError}
use Rattle.report_ends.specs.Causes.{Rose}
use Rattle.report_ends.specs.Streams.{AppendsPrefix}
use Rattle.report_ends.specs.declared.error.ReportError.{ReportError}
use Rattle.report_ends.specs.declared.error.ReportError.TheVariants as error
use Rattle.program_ends.specs.Calls.{SinkCall}
use Rattle.program_ends.specs.declared.stops.Stop.{Stop}
use Rattle.program_ends.specs.declared.stops.Stop.TheVariants as stop

-- the sink has taken the line, or a prefix of it where it failed
abbrev pub IsLineTold : SinkCall → List ℕ → Type 0
IsLineTold errs line = Appends errs.held errs.held_then line ⊎ (AppendsPrefix errs.held errs.held_then line × Rose errs.faults errs.faults_then)

-- the line was told, or memory was wanting, and the sink has taken a prefix of it
abbrev pub TellsLine : SinkCall → List ℕ → Result Unit AllocError → Type 0
TellsLine errs line (Ok done) = IsLineTold errs line
TellsLine errs line (Err wanting) = AppendsPrefix errs.held errs.held_then line

-- the line was told and this is the stop, or memory was wanting
abbrev pub TellsAtEnd : SinkCall → List ℕ → Stop → Stop → Type 0
TellsAtEnd errs line wanted result = ((result ≡ wanted) × IsLineTold errs line) ⊎ ((result ≡ stop.Memory) × AppendsPrefix errs.held errs.held_then line)

-- at which stop an error ends a program
abbrev pub stop_of : ReportError → Stop
stop_of (error.Tree cause) = stop.Tree
stop_of error.TooLong = stop.TooLong
stop_of error.Read = stop.Read
stop_of error.Write = stop.Write
stop_of error.Memory = stop.Memory
