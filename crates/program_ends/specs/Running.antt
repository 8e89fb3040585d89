-- What becomes of a program that is run over the real ends.
use Rattle.std.specs.Prelude.{◌⊎◌, Result}
use Rattle.report_ends.specs.declared.ends.WriteFault.{WriteFault}
use Rattle.program_ends.specs.Calls.{SinkCall}
use Rattle.program_ends.specs.Completeness.{IsUsageOrMemory}
use Rattle.program_ends.specs.Ending.{Finishes}
use Rattle.program_ends.specs.Meaning.{End}

-- its words couldn't be had, or memory was wanting; or it was run, and this is the end once its last bytes are handed on
abbrev pub EndsRun : {S : Type 0} → (S → End) → (S → Type 0) → S → Type 0
EndsRun end_of IsGiven result =
    IsUsageOrMemory (end_of result) ⊎ ((status : _) × IsGiven status × (errs : SinkCall) × (flushed : Result Unit WriteFault) × Finishes errs (end_of status) flushed (end_of result))
