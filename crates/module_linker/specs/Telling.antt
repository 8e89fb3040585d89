-- How the line on why no links are written is told.
use Rattle.std.specs.Prelude.{ℕ, List}
use Rattle.program_ends.specs.Lines.{line_on_error}
use Rattle.program_ends.specs.Telling.{stop_of}
use Rattle.program_ends.specs.declared.stops.Stop.{Stop}
use Rattle.program_ends.specs.declared.stops.Stop.TheVariants as stop
use Rattle.module_set.specs.declared.error.LinkError.{LinkError}
use Rattle.module_set.specs.declared.error.LinkError.TheVariants.{Memory}
use Rattle.module_linker.specs.Lines.{cause_line}
use Rattle.module_linker.specs.declared.failure.LinkFailure.{LinkFailure}
use Rattle.module_linker.specs.declared.failure.LinkFailure.TheVariants.{Refused, Stopped}

-- at which stop a refusal ends the program
abbrev pub stop_of_refusal : LinkError → Stop
stop_of_refusal (Memory wanting) = stop.Memory
stop_of_refusal _ = stop.Tree

-- the line on why no links are written
abbrev pub failure_line : LinkFailure → List ℕ
failure_line (Refused e) = cause_line e
failure_line (Stopped e) = line_on_error e

abbrev pub failure_stop : LinkFailure → Stop
failure_stop (Refused e) = stop_of_refusal e
failure_stop (Stopped e) = stop_of e
