-- What becomes of an input that is asked about, before that is told. A program's own statuses stand for ends.
use Rattle.std.specs.Prelude.{◌≡◌, ◌⊎◌, ℕ, List, Option, Result, Ok, Err}
use Rattle.report_ends.specs.Streams.{Writes}
use Rattle.report_ends.specs.declared.error.ReportError.{ReportError}
use Rattle.report_ends.specs.declared.error.ReportError.TheVariants as error
use Rattle.program_ends.specs.Calls.{SourceCall, SinkCall}
use Rattle.program_ends.specs.Meaning.{End, Answered, Stopped}

-- the sink has taken the text, and this is the status for it; or it has taken a prefix
abbrev pub WritesAll : {K S : Type 0} → (K → Option (List ℕ)) → (K → ℕ) → K → K → List ℕ → S → Result S ReportError → Type 0
WritesAll held faults old new text status (Ok given) = (given ≡ status) × Writes held faults old new text (Ok tt)
WritesAll held faults old new text status (Err cause) = Writes held faults old new text (Err cause)

-- the sink has taken an answer, or a prefix of it; or memory was wanting before there was one
abbrev pub GivesAnswer : {K S Input : Type 0} → (S → End) → (End → Input → List ℕ → Type 0) → (K → Option (List ℕ)) → (K → ℕ) → K → K → Input → Result S ReportError → Type 0
GivesAnswer end_of Answers held faults old new what (Ok status) = (text : List ℕ) × Answers (end_of status) what text × Writes held faults old new text (Ok tt)
GivesAnswer end_of Answers held faults old new what (Err cause) =
    ((cause ≡ error.Memory) × (held new ≡ held old)) ⊎ ((end : End) × (text : List ℕ) × Answers end what text × Writes held faults old new text (Err cause))

-- it is answered, or this stopped the reading or the answering
abbrev pub EndsBy : {S Input : Type 0} → (S → End) → Type 0 → (SourceCall → Input → Type 0) → (End → Input → List ℕ → Type 0) → SourceCall → SinkCall → Result S ReportError → Type 0
EndsBy end_of IsRead Gives Answers source out (Ok status) = Answered Gives Answers source out (end_of status)
EndsBy end_of IsRead Gives Answers source out (Err cause) = Stopped IsRead Gives Answers source out cause
