-- What whole inputs and texts do to the bytes that a source has left and a sink holds, where these tell them.
use Rattle.std.specs.Prelude.{◌+◌, ◌∷◌, ◌++◌, ◌≡◌, ℕ, ◌<◌, ◌≤◌, List, [], length, ⊤, None, Some, Option, Result, Err, OnOk, OnErr, IfErr}
use Rattle.report_ends.specs.Causes.{Rose}
use Rattle.report_ends.specs.declared.error.ReportError.{ReportError}
use Rattle.report_ends.specs.declared.error.ReportError.TheVariants.{Read, Write, TooLong, Memory}
use Rattle.std.specs.Io.KnownBytes.{Appends}
use Rattle.report_ends.specs.Offers.{Offering, HasOffered, OffersLines}

-- the source had these bytes left, and has none now
abbrev pub IsReadWhole : Option (List ℕ) → Option (List ℕ) → List ℕ → Type 0
IsReadWhole None new bytes = ⊤
IsReadWhole (Some left) new bytes = (bytes ≡ left) × (new ≡ Some [])

-- the source had more than `limit` bytes left, if it tells them
abbrev pub HadMoreThan : ℕ → Option (List ℕ) → Type 0
HadMoreThan limit None = ⊤
HadMoreThan limit (Some left) = limit < length left

-- the source had at most `limit` bytes left, if it tells them
abbrev pub HadAtMost : ℕ → Option (List ℕ) → Type 0
HadAtMost limit None = ⊤
HadAtMost limit (Some left) = length left ≤ limit

-- known bytes have grown by a part of the text, and this is the rest of it
pub record HasWritten (old new : Option (List ℕ)) (rest text : List ℕ) : Type 0 where
  pub part : List ℕ
  pub appended : Appends old new part
  pub whole : part ++ rest ≡ text

-- known bytes have grown by a prefix of the text
abbrev pub AppendsPrefix : Option (List ℕ) → Option (List ℕ) → List ℕ → Type 0
AppendsPrefix old new text = (rest : List ℕ) × HasWritten old new rest text

-- what may be told of an input that isn't read whole
abbrev pub ReadCause : Type 0 → Type 0 → ReportError → Type 0
ReadCause rose longer Read = rose
ReadCause rose longer TooLong = longer
ReadCause rose longer Memory = ⊤
ReadCause rose longer error = ⊥

-- what may be told of a text that isn't written whole: a fault of the sink, or want of memory
abbrev pub WriteCause : Type 0 → ReportError → Type 0
WriteCause rose Write = rose
WriteCause rose Memory = ⊤
WriteCause rose error = ⊥

-- the count of faults is as it was, unless a read failed
abbrev pub ReadKeeps : {T : Type 0} → Type 0 → Result T ReportError → Type 0
ReadKeeps kept (Err Read) = ⊤
ReadKeeps kept other = kept

-- the count of faults is as it was, unless a write failed
abbrev pub WriteKeeps : Type 0 → Result Unit ReportError → Type 0
WriteKeeps kept (Err Write) = ⊤
WriteKeeps kept other = kept

-- At `Ok` the sink has taken the text, at `Err` a prefix of it, an error has its cause, and a fault is told as one.
pub record Writes {K : Type 0} (held : K → Option (List ℕ)) (faults : K → ℕ) (old new : K) (text : List ℕ) (result : Result Unit ReportError) : Type 0 where
  pub whole : OnOk result (Appends (held old) (held new) text)
  pub part : OnErr result (AppendsPrefix (held old) (held new) text)
  pub cause : IfErr result (WriteCause (Rose (faults old) (faults new)))
  pub kept : WriteKeeps (faults new ≡ faults old) result

-- The same, and each line of the text is offered as one piece, and what a call leaves of it again. A line is what is said here.
pub record WritesLines {K : Type 0} (held : K → Option (List ℕ)) (faults : K → ℕ) (Offered : Offering K) (IsLine : List ℕ → Type 0) (old new : K) (text : List ℕ) (result : Result Unit ReportError) : Type 0 where
  pub written : Writes held faults old new text result
  pub pieces : OffersLines Offered IsLine old new text result

-- the texts of the items, one after the other, each with the item's number
abbrev pub numbered_text : {X : Type 0} → (ℕ → X → List ℕ) → ℕ → List X → List ℕ
numbered_text line number [] = []
numbered_text line number (x ∷ xs) = line number x ++ numbered_text line (number + 1) xs

-- The sink has taken a first part of the text, this is the rest of it, and no write failed.
pub record PartTaken {K : Type 0} (held : K → Option (List ℕ)) (faults : K → ℕ) (old new : K) (rest text : List ℕ) : Type 0 where
  pub written : HasWritten (held old) (held new) rest text
  pub kept : faults new ≡ faults old

-- The same, and that part is lines, each offered as one piece.
pub record PartWritten {K : Type 0} (held : K → Option (List ℕ)) (faults : K → ℕ) (Offered : Offering K) (IsLine : List ℕ → Type 0) (old new : K) (rest text : List ℕ) : Type 0 where
  pub taken : PartTaken held faults old new rest text
  pub pieces : HasOffered Offered IsLine old new rest text
