-- What a program has done at its end.
use Rattle.std.proofs.Common.{◌≡◌, ◌⊎◌, inl, inr, ℕ, ◌<◌, List, [], Option, Err, length, subst, sym, refl, arith, append-nil}
use Rattle.report_ends.specs.Streams.{HadMoreThan, AppendsPrefix, Writes}
use Rattle.report_ends.specs.Causes.{Rose}
use Rattle.report_ends.specs.declared.error.ReportError.{ReportError}
use Rattle.report_ends.specs.declared.error.ReportError.TheVariants as error
use Rattle.program_ends.specs.Calls.{SourceCall, SinkCall, sink_call, Unread, Untouched}
use Rattle.program_ends.specs.Lines.{tree_line, line_on_error, too_long_line, read_line, write_line, memory_line}
use Rattle.program_ends.specs.Reads.{RefusedFor}
use Rattle.program_ends.specs.Telling.{IsLineTold, TellsAtEnd, stop_of}
use Rattle.program_ends.specs.Meaning.{End, NotFound, Refused, AnsweredPart, Stopped, MayTell, of_usage, of_input, of_length, of_reading, of_writing, of_memory, MeansOf, end_of_stop}
use Rattle.program_ends.specs.Completeness.{IsClear, IsNotRefused}
use Rattle.program_ends.specs.declared.stops.Stop.{Stop}
use Rattle.program_ends.specs.declared.stops.Stop.TheVariants as stop

-- a line that was told, or a prefix of it, is a prefix of it
pub part_told : (errs : SinkCall) (line : List ℕ) → IsLineTold errs line → AppendsPrefix errs.held errs.held_then line
part_told errs line (inl whole) = ([], record { part = line; appended = whole; whole = append-nil line })
part_told errs line (inr part) = part.0

-- ---- what stopped it

module _ {Input : Type 0} (IsRead : Type 0) (Gives : SourceCall → Input → Type 0) (Answers : End → Input → List ℕ → Type 0) (source : SourceCall) where
  -- no program is found in the input
  pub stopped_reading : (out : SinkCall) (cause : ReportError) → IsRead → Untouched out → NotFound source cause → Stopped IsRead Gives Answers source out cause
  stopped_reading out (error.Tree refusal) asked untouched why = (asked, why, untouched)
  stopped_reading out error.TooLong asked untouched why = (asked, why, untouched)
  stopped_reading out error.Read asked untouched why = (asked, why, untouched)
  stopped_reading out error.Write asked untouched why = absurd why
  stopped_reading out error.Memory asked untouched why = (inl asked, inl untouched)

  -- the answer isn't written to its end
  pub stopped_writing : {K : Type 0} (held : K → Option (List ℕ)) (faults : K → ℕ) (old new : K) (what : Input) (end : End) (text : List ℕ) (cause : ReportError) → IsRead ⊎ Unread source → Gives source what → Answers end what text
      → Writes held faults old new text (Err cause) → Stopped IsRead Gives Answers source (sink_call held faults old new) cause
  stopped_writing held faults old new what end text error.Write read gives answers writes = (read, writes.cause, record { what = what; gives = gives; end = end; text = text; answers = answers; told = writes.part })
  stopped_writing held faults old new what end text error.Memory read gives answers writes = (read, inr (record { what = what; gives = gives; end = end; text = text; answers = answers; told = writes.part }))
  stopped_writing held faults old new what end text other read gives answers writes = absurd writes.cause

-- ---- what it means

module _ {Input Cause : Type 0} (IsAsked IsRead : Type 0) (usage_line : List ℕ) (Gives : SourceCall → Input → Type 0) (RefusedFor : List ℕ → Cause → Type 0) (cause_line : Cause → List ℕ) (Answers : End → Input → List ℕ → Type 0) (Refuses : Input → List ℕ → Type 0) (source : SourceCall) (out errs : SinkCall) where
  -- the end means what was done
  abbrev pub Meant : End → Type 0
  Meant = MeansOf IsAsked IsRead usage_line Gives RefusedFor cause_line Answers Refuses source out errs

  -- some line of it
  abbrev MayBeTold : List ℕ → Type 0
  MayBeTold = MayTell IsAsked IsRead usage_line Gives RefusedFor cause_line Answers Refuses

  -- a line is told, or memory was wanting
  by_line : (line : List ℕ) (wanted told : Stop) → MayBeTold line → IsRead ⊎ Unread source → Untouched out ⊎ (IsAsked × AnsweredPart Gives Answers source out) → (IsLineTold errs line → Meant (end_of_stop wanted)) → TellsAtEnd errs line wanted told → Meant (end_of_stop told)
  by_line line wanted told may read part means (inl whole) = subst (λ s. Meant (end_of_stop s)) (sym whole.0) (means whole.1)
  by_line line wanted told may read part means (inr prefix) = subst (λ s. Meant (end_of_stop s)) (sym prefix.0) (read, part, (line, may, prefix.1))

  -- the words are refused
  pub means_usage : (told : Stop) → (IsAsked → ⊥) → Unread source → Untouched out → TellsAtEnd errs usage_line stop.Usage told → Meant (end_of_stop told)
  means_usage told not_asked unread untouched tells = by_line usage_line stop.Usage told of_usage (inr unread) (inl untouched) (λ line. (not_asked, unread, untouched, line)) tells

  -- the input is refused
  pub means_refused : (cause : Cause) (told : Stop) → IsRead → Refused RefusedFor source cause → Untouched out → TellsAtEnd errs (cause_line cause) stop.Tree told → Meant (end_of_stop told)
  means_refused cause told read why untouched tells = by_line (cause_line cause) stop.Tree told (of_input cause) (inl read) (inl untouched) (λ line. (read, untouched, (cause, why, line))) tells

  pub means_too_long : (told : Stop) → IsRead → HadMoreThan 67108864 source.left → Untouched out → TellsAtEnd errs too_long_line stop.TooLong told → Meant (end_of_stop told)
  means_too_long told read longer untouched tells = by_line too_long_line stop.TooLong told of_length (inl read) (inl untouched) (λ line. (read, longer, untouched, line)) tells

  pub means_unread : (told : Stop) → IsRead → Rose source.faults source.faults_then → Untouched out → TellsAtEnd errs read_line stop.Read told → Meant (end_of_stop told)
  means_unread told read rose untouched tells = by_line read_line stop.Read told of_reading (inl read) (inl untouched) (λ line. (read, rose, untouched, line)) tells

  pub means_unwritten : (told : Stop) → IsAsked → IsRead ⊎ Unread source → Rose out.faults out.faults_then → AnsweredPart Gives Answers source out → TellsAtEnd errs write_line stop.Write told → Meant (end_of_stop told)
  means_unwritten told asked read rose part tells = by_line write_line stop.Write told of_writing read (inr (asked, part)) (λ line. (asked, rose, part, line)) tells

  part_asked : IsAsked → Untouched out ⊎ AnsweredPart Gives Answers source out → Untouched out ⊎ (IsAsked × AnsweredPart Gives Answers source out)
  part_asked asked (inl untouched) = inl untouched
  part_asked asked (inr part) = inr (asked, part)

  pub means_memory : (told : Stop) → IsAsked → IsRead ⊎ Unread source → Untouched out ⊎ AnsweredPart Gives Answers source out → TellsAtEnd errs memory_line stop.Memory told → Meant (end_of_stop told)
  means_memory told asked read part tells =
      by_line memory_line stop.Memory told of_memory read (part_asked asked part) (λ line. (read, part_asked asked part, (memory_line, of_memory, part_told errs memory_line line))) tells

module _ {Input : Type 0} (IsAsked IsRead : Type 0) (usage_line : List ℕ) (Gives : SourceCall → Input → Type 0) (Answers : End → Input → List ℕ → Type 0) (Refuses : Input → List ℕ → Type 0) (source : SourceCall) (out errs : SinkCall) where
  abbrev MeantHere : End → Type 0
  MeantHere = Meant IsAsked IsRead usage_line Gives RefusedFor tree_line Answers Refuses source out errs

  -- what stopped it is told
  pub means_told : (cause : ReportError) (told : Stop) → IsAsked → Stopped IsRead Gives Answers source out cause → TellsAtEnd errs (line_on_error cause) (stop_of cause) told → MeantHere (end_of_stop told)
  means_told (error.Tree refusal) told asked why tells = means_refused IsAsked IsRead usage_line Gives RefusedFor tree_line Answers Refuses source out errs refusal told why.0 why.1 why.2 tells
  means_told error.TooLong told asked why tells = means_too_long IsAsked IsRead usage_line Gives RefusedFor tree_line Answers Refuses source out errs told why.0 why.1 why.2 tells
  means_told error.Read told asked why tells = means_unread IsAsked IsRead usage_line Gives RefusedFor tree_line Answers Refuses source out errs told why.0 why.1 why.2 tells
  means_told error.Write told asked why tells = means_unwritten IsAsked IsRead usage_line Gives RefusedFor tree_line Answers Refuses source out errs told asked why.0 why.1 why.2 tells
  means_told error.Memory told asked why tells = means_memory IsAsked IsRead usage_line Gives RefusedFor tree_line Answers Refuses source out errs told asked why.0 why.1 tells

-- ---- completeness

module _ {Input : Type 0} (IsRead : Type 0) (Gives : SourceCall → Input → Type 0) (Answers : End → Input → List ℕ → Type 0) (source : SourceCall) (out : SinkCall) where
  -- nothing is in the way of an answer about the input but want of memory
  pub clear_reading : (cause : ReportError) → IsClear source out → IsNotRefused cause → Stopped IsRead Gives Answers source out cause → cause ≡ error.Memory
  clear_reading (error.Tree refusal) clear kept why = absurd kept
  clear_reading error.TooLong clear kept why =
      let longer : 67108864 < length clear.input = subst (HadMoreThan 67108864) clear.told why.1 in
      absurd (omega (arith, longer, clear.fits))
  clear_reading error.Read clear kept why = absurd (clear.source_holds why.1)
  clear_reading error.Write clear kept why = absurd (clear.out_holds why.1)
  clear_reading error.Memory clear kept why = refl

  -- the same where the input isn't asked for
  pub clear_making : (cause : ReportError) → ¬ IsRead → ¬ (Rose out.faults out.faults_then) → Stopped IsRead Gives Answers source out cause → cause ≡ error.Memory
  clear_making error.Write unasked holds why = absurd (holds why.1)
  clear_making error.Memory unasked holds why = refl
  clear_making other unasked holds why = absurd (unasked why.0)
