-- The line on why the program stopped, and what becomes of it.
use Rattle.std.specs.Prelude.{◌≡◌, ◌⊎◌, ℕ, List, codes}
use Rattle.report_ends.specs.Streams.{AppendsPrefix}
use Rattle.program_ends.specs.Calls.{SinkCall}
use Rattle.program_ends.specs.Ending.{TellsEnd}
use Rattle.program_ends.specs.Lines.{line_on_error}
use Rattle.program_ends.specs.Meaning.{End}
use Rattle.program_ends.specs.Meaning as ends
use Rattle.program_ends.specs.Telling.{IsLineTold, stop_of}
use Rattle.renamer.specs.Answers.{refusal_line}
use Rattle.renamer.specs.declared.refusal.RequestError.{RequestError}
use Rattle.renamer.specs.declared.refusal.RequestError.TheVariants.{Refused, Stopped}

abbrev pub usage_line : List ℕ
usage_line = codes "usage: renamer SYMBOL NAME\n"

-- the line on a refusal is told, or memory was wanting
abbrev pub TellsRefusal : SinkCall → List ℕ → End → Type 0
TellsRefusal errs line end = ((end ≡ ends.refused) × IsLineTold errs line) ⊎ ((end ≡ ends.memory) × AppendsPrefix errs.held errs.held_then line)

-- why a request isn't done is told
abbrev pub TellsError : SinkCall → RequestError → End → Type 0
TellsError errs (Refused refusal) end = TellsRefusal errs (refusal_line refusal) end
TellsError errs (Stopped cause) end = TellsEnd errs (line_on_error cause) (stop_of cause) end
