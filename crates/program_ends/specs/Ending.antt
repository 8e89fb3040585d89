-- The end of a program that has told why it stopped.
use Rattle.std.specs.Prelude.{◌≡◌, ℕ, List, Result, Err}
use Rattle.report_ends.specs.Errors.{error_of_write}
use Rattle.report_ends.specs.declared.ends.WriteFault.{WriteFault}
use Rattle.program_ends.specs.Calls.{SinkCall, Untouched}
use Rattle.program_ends.specs.Lines.{line_on_error}
use Rattle.program_ends.specs.Meaning.{End, done, found, end_of_stop}
use Rattle.program_ends.specs.Telling.{TellsAtEnd, stop_of}
use Rattle.program_ends.specs.declared.stops.Stop.{Stop}

-- the line is told, and this is the end of what stops the program then
abbrev pub TellsEnd : SinkCall → List ℕ → Stop → End → Type 0
TellsEnd errs line wanted end = (told : Stop) × (end ≡ end_of_stop told) × TellsAtEnd errs line wanted told

-- the end of a program whose last bytes are handed on: a fault there is told, where all went well before
abbrev pub Finishes : SinkCall → End → Result Unit WriteFault → End → Type 0
Finishes errs done (Err fault) result = TellsEnd errs (line_on_error (error_of_write fault)) (stop_of (error_of_write fault)) result
Finishes errs found (Err fault) result = TellsEnd errs (line_on_error (error_of_write fault)) (stop_of (error_of_write fault)) result
Finishes errs end flushed result = (result ≡ end) × Untouched errs
