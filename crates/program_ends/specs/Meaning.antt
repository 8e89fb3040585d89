-- What each end of a program means, whatever the program does.
use Rattle.std.specs.Prelude.{◌⊎◌, ℕ, List, Bool, true, false}
use Rattle.std.specs.Io.KnownBytes.{Appends}
use Rattle.report_ends.specs.Causes.{Rose}
use Rattle.report_ends.specs.Streams.{IsReadWhole, HadMoreThan, HadAtMost, AppendsPrefix}
use Rattle.report_ends.specs.declared.error.ReportError.{ReportError}
use Rattle.report_ends.specs.declared.error.ReportError.TheVariants as error
use Rattle.program_ends.specs.Calls.{SourceCall, SinkCall, Unread, Untouched}
use Rattle.program_ends.specs.Lines.{too_long_line, read_line, write_line, memory_line}
use Rattle.program_ends.specs.Reads.{RefusedFor}
use Rattle.program_ends.specs.Telling.{IsLineTold}
use Rattle.program_ends.specs.declared.stops.Stop.{Stop}
use Rattle.program_ends.specs.declared.stops.Stop.TheVariants as stop

-- how a program ends: it has answered, in one of two ways, or what stopped it
pub data End : Type 0 where
  done : End
  found : End
  usage : End
  input : End
  too_long : End
  read : End
  write : End
  memory : End
  -- what was asked of a good input is refused
  refused : End

-- the program has answered
abbrev pub is_answer : End → Bool
is_answer done = true
is_answer found = true
is_answer other = false

abbrev pub end_of_stop : Stop → End
end_of_stop stop.Usage = usage
end_of_stop stop.Tree = input
end_of_stop stop.TooLong = too_long
end_of_stop stop.Read = read
end_of_stop stop.Write = write
end_of_stop stop.Memory = memory

-- ---- the input

-- the whole input, which isn't too long, stands for this
pub record Finds {Input : Type 0} (Stands : List ℕ → Input → Type 0) (source : SourceCall) (what : Input) : Type 0 where
  pub bytes : List ℕ
  pub whole : IsReadWhole source.left source.left_then bytes
  pub fits : HadAtMost 67108864 source.left
  pub stands : Stands bytes what

-- the whole input, which isn't too long, is refused for this cause
pub record Refused {Cause : Type 0} (RefusedFor : List ℕ → Cause → Type 0) (source : SourceCall) (cause : Cause) : Type 0 where
  pub bytes : List ℕ
  pub whole : IsReadWhole source.left source.left_then bytes
  pub fits : HadAtMost 67108864 source.left
  pub why : RefusedFor bytes cause

-- why no program is found in the input
abbrev pub NotFound : SourceCall → ReportError → Type 0
NotFound source (error.Tree cause) = Refused RefusedFor source cause
NotFound source error.TooLong = HadMoreThan 67108864 source.left
NotFound source error.Read = Rose source.faults source.faults_then
NotFound source error.Write = ⊥
NotFound source error.Memory = Unit {0}

-- ---- the answer

-- the sink has taken the whole answer, which is one of this end
pub record Answered {Input : Type 0} (Gives : SourceCall → Input → Type 0) (Answers : End → Input → List ℕ → Type 0) (source : SourceCall) (out : SinkCall) (end : End) : Type 0 where
  pub what : Input
  pub gives : Gives source what
  pub text : List ℕ
  pub answers : Answers end what text
  pub told : Appends out.held out.held_then text

-- the sink has taken a prefix of an answer
pub record AnsweredPart {Input : Type 0} (Gives : SourceCall → Input → Type 0) (Answers : End → Input → List ℕ → Type 0) (source : SourceCall) (out : SinkCall) : Type 0 where
  pub what : Input
  pub gives : Gives source what
  pub end : End
  pub text : List ℕ
  pub answers : Answers end what text
  pub told : AppendsPrefix out.held out.held_then text

-- what stopped the reading and the answering, before it is told
abbrev pub Stopped : {Input : Type 0} → Type 0 → (SourceCall → Input → Type 0) → (End → Input → List ℕ → Type 0) → SourceCall → SinkCall → ReportError → Type 0
Stopped IsRead Gives Answers source out (error.Tree cause) = IsRead × Refused RefusedFor source cause × Untouched out
Stopped IsRead Gives Answers source out error.TooLong = IsRead × HadMoreThan 67108864 source.left × Untouched out
Stopped IsRead Gives Answers source out error.Read = IsRead × Rose source.faults source.faults_then × Untouched out
Stopped IsRead Gives Answers source out error.Write = (IsRead ⊎ Unread source) × Rose out.faults out.faults_then × AnsweredPart Gives Answers source out
Stopped IsRead Gives Answers source out error.Memory = (IsRead ⊎ Unread source) × (Untouched out ⊎ AnsweredPart Gives Answers source out)

-- ---- the whole program

-- What a program is told by: whether its words are in order, and whether they ask that the input is read; what it is about, which is
-- what the source stands for where it is read; why another input is refused; what it answers, and what it refuses. `Input` is what
-- an input stands for, `Cause` why it is refused.
module _ {Input Cause : Type 0} (IsAsked IsRead : Type 0) (usage_line : List ℕ) (Gives : SourceCall → Input → Type 0) (RefusedFor : List ℕ → Cause → Type 0) (cause_line : Cause → List ℕ) (Answers : End → Input → List ℕ → Type 0) (Refuses : Input → List ℕ → Type 0) where
  -- some line that the program may tell
  pub data MayTell : List ℕ → Type 0 where
    of_usage : MayTell usage_line
    of_input : (cause : Cause) → MayTell (cause_line cause)
    of_length : MayTell too_long_line
    of_reading : MayTell read_line
    of_writing : MayTell write_line
    of_memory : MayTell memory_line
    of_refusal : (what : Input) (line : List ℕ) → Refuses what line → MayTell line

  abbrev pub ToldPart : SinkCall → Type 0
  ToldPart errs = (line : List ℕ) × MayTell line × AppendsPrefix errs.held errs.held_then line

  -- what the program has done at each end
  abbrev pub MeansOf : SourceCall → SinkCall → SinkCall → End → Type 0
  MeansOf source out errs done = IsAsked × Answered Gives Answers source out done × Untouched errs
  MeansOf source out errs found = IsAsked × Answered Gives Answers source out found × Untouched errs
  MeansOf source out errs usage = (IsAsked → ⊥) × Unread source × Untouched out × IsLineTold errs usage_line
  MeansOf source out errs input = IsRead × Untouched out × ((cause : Cause) × Refused RefusedFor source cause × IsLineTold errs (cause_line cause))
  MeansOf source out errs too_long = IsRead × HadMoreThan 67108864 source.left × Untouched out × IsLineTold errs too_long_line
  MeansOf source out errs read = IsRead × Rose source.faults source.faults_then × Untouched out × IsLineTold errs read_line
  MeansOf source out errs write = IsAsked × Rose out.faults out.faults_then × AnsweredPart Gives Answers source out × IsLineTold errs write_line
  MeansOf source out errs memory = (IsRead ⊎ Unread source) × (Untouched out ⊎ (IsAsked × AnsweredPart Gives Answers source out)) × ToldPart errs
  MeansOf source out errs refused = IsAsked × Untouched out × ((what : Input) × Gives source what × ((line : List ℕ) × Refuses what line × IsLineTold errs line))

-- the same of a program that reads its input whatever it is asked
abbrev pub Means : {Input Cause : Type 0} → Type 0 → List ℕ → (List ℕ → Input → Type 0) → (List ℕ → Cause → Type 0) → (Cause → List ℕ) → (End → Input → List ℕ → Type 0) → (Input → List ℕ → Type 0) → SourceCall → SinkCall → SinkCall → End → Type 0
Means IsAsked usage_line Stands RefusedFor cause_line Answers Refuses = MeansOf IsAsked IsAsked usage_line (Finds Stands) RefusedFor cause_line Answers Refuses
