-- What a program that has told why it stopped has done.
use Rattle.std.proofs.Common.{◌≡◌, inl, inr, ℕ, List, true, subst, sym, ap, ◌∙◌}
use Rattle.report_ends.specs.declared.error.ReportError.{ReportError}
use Rattle.report_ends.specs.declared.error.ReportError.TheVariants as error
use Rattle.program_ends.specs.Calls.{SourceCall, SinkCall, Unread, Untouched}
use Rattle.program_ends.specs.Completeness.{IsDoneOrMemory, IsUsageOrMemory}
use Rattle.program_ends.specs.Ending.{TellsEnd}
use Rattle.program_ends.specs.Lines.{tree_line, line_on_error}
use Rattle.program_ends.specs.Meaning.{End, done, found, memory, Answered, Stopped, end_of_stop, is_answer}
use Rattle.program_ends.specs.Reads.{RefusedFor}
use Rattle.program_ends.specs.Telling.{stop_of}
use Rattle.program_ends.specs.declared.stops.Stop.{Stop}
use Rattle.program_ends.specs.declared.stops.Stop.TheVariants as stop
use Rattle.program_ends.proofs.Meanings.{Meant, means_usage, means_told}

module _ {Input Cause : Type 0} (IsAsked IsRead : Type 0) (usage_line : List ℕ) (Gives : SourceCall → Input → Type 0) (RefusedFor : List ℕ → Cause → Type 0) (cause_line : Cause → List ℕ) (Answers : End → Input → List ℕ → Type 0) (Refuses : Input → List ℕ → Type 0) (source : SourceCall) (out errs : SinkCall) where
  abbrev MeantHere : End → Type 0
  MeantHere = Meant IsAsked IsRead usage_line Gives RefusedFor cause_line Answers Refuses source out errs

  -- the words are refused
  pub ends_usage : (end : End) → (IsAsked → ⊥) → Unread source → Untouched out → TellsEnd errs usage_line stop.Usage end → MeantHere end
  ends_usage end not_asked unread untouched (told, is, tells) =
      subst MeantHere (sym is) (means_usage IsAsked IsRead usage_line Gives RefusedFor cause_line Answers Refuses source out errs told not_asked unread untouched tells)

  -- the answer is written
  pub ends_answered : (end : End) → IsAsked → Answered Gives Answers source out end → is_answer end ≡ true → Untouched errs → MeantHere end
  ends_answered done asked whole is untouched = (asked, whole, untouched)
  ends_answered found asked whole is untouched = (asked, whole, untouched)
  ends_answered other asked whole is untouched = absurd cc

-- what stopped it is told
pub ends_told : {Input : Type 0} (IsAsked IsRead : Type 0) (usage_line : List ℕ) (Gives : SourceCall → Input → Type 0) (Answers : End → Input → List ℕ → Type 0) (Refuses : Input → List ℕ → Type 0) (source : SourceCall) (out errs : SinkCall) (cause : ReportError) (end : End) → IsAsked
    → Stopped IsRead Gives Answers source out cause → TellsEnd errs (line_on_error cause) (stop_of cause) end → Meant IsAsked IsRead usage_line Gives RefusedFor tree_line Answers Refuses source out errs end
ends_told IsAsked IsRead usage_line Gives Answers Refuses source out errs cause end asked why (told, is, tells) =
    subst (Meant IsAsked IsRead usage_line Gives RefusedFor tree_line Answers Refuses source out errs) (sym is) (means_told IsAsked IsRead usage_line Gives Answers Refuses source out errs cause told asked why tells)

-- ---- completeness

-- the answer is written
pub answer_ends : (end : End) → is_answer end ≡ true → IsDoneOrMemory end
answer_ends done is = tt
answer_ends found is = tt
answer_ends other is = absurd cc

-- the words are refused
pub usage_ends : (errs : SinkCall) (line : List ℕ) (end : End) → TellsEnd errs line stop.Usage end → IsUsageOrMemory end
usage_ends errs line end (told, is, inl whole) = subst IsUsageOrMemory (sym (is ∙ ap end_of_stop whole.0)) tt
usage_ends errs line end (told, is, inr part) = subst IsUsageOrMemory (sym (is ∙ ap end_of_stop part.0)) tt

-- want of memory is told as such
pub wanting_ends : (errs : SinkCall) (line : List ℕ) (wanted : Stop) (end : End) → wanted ≡ stop.Memory → TellsEnd errs line wanted end → end ≡ memory
wanting_ends errs line wanted end wanting (told, is, inl whole) = is ∙ ap end_of_stop (whole.0 ∙ wanting)
wanting_ends errs line wanted end wanting (told, is, inr part) = is ∙ ap end_of_stop part.0

pub memory_ends : (errs : SinkCall) (cause : ReportError) (end : End) → cause ≡ error.Memory → TellsEnd errs (line_on_error cause) (stop_of cause) end → end ≡ memory
memory_ends errs cause end wanting tells = wanting_ends errs (line_on_error cause) (stop_of cause) end (ap stop_of wanting) tells
