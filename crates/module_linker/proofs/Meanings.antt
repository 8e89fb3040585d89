-- What the program has done at its end.
use Rattle.std.proofs.Common.{◌≡◌, inl, ℕ, ◌<◌, List, [], Bool, true, false, Ok, Err, length, subst, sym, ap, ◌∙◌, refl, arith, String, ◌==◌, ◌∷◌}
use Rattle.std.proofs.lemmas.Bool.{eqb-true}
use Rattle.std.specs.Prelude.{if◌then◌else◌}
use Rattle.std.specs.List.{list_any}
use Rattle.std.specs.declared.alloc.Global.{Global}
use Rattle.report_ends.specs.Streams.{HadMoreThan}
use Rattle.report_ends.specs.declared.error.ReportError.TheVariants as error
use Rattle.program_ends.specs.Calls.{SourceCall, SinkCall, Unread, Untouched}
use Rattle.program_ends.specs.Completeness.{IsDoneOrMemory}
use Rattle.program_ends.specs.Ending.{TellsEnd}
use Rattle.program_ends.specs.Meaning.{End, Finds, end_of_stop, is_answer}
use Rattle.program_ends.specs.Meaning as ends
use Rattle.program_ends.specs.Telling as telling
use Rattle.program_ends.specs.declared.stops.Stop.{Stop}
use Rattle.program_ends.specs.declared.stops.Stop.TheVariants as stop
use Rattle.program_ends.proofs.Endings.{ends_usage, ends_answered, answer_ends, wanting_ends}
use Rattle.program_ends.proofs.Meanings.{means_refused, means_too_long, means_unread, means_unwritten, means_memory}
use Rattle.module_set.specs.declared.error.LinkError.{LinkError}
use Rattle.module_set.specs.declared.error.LinkError.TheVariants as refusal
use Rattle.program_ends.specs.FindingEnds.{end_of}
use Rattle.module_linker.specs.Codes.{is_loose}
use Rattle.module_linker.specs.Failing.{IsNotRefused}
use Rattle.module_linker.specs.Lines.{cause_line, usage_line}
use Rattle.module_linker.specs.Meaning.{StandsLinked, RefusedFor, Answers, RefusesNone, Fails, Ends, Means, IsClear}
use Rattle.module_linker.specs.Telling.{failure_line, failure_stop}
use Rattle.module_linker.specs.declared.failure.LinkFailure.{LinkFailure}
use Rattle.module_linker.specs.declared.failure.LinkFailure.TheVariants.{Refused, Stopped}
use Rattle.program_ends.specs.declared.finding.FindingStatus.{FindingStatus}
use Rattle.program_ends.specs.declared.finding.FindingStatus.TheVariants as status

-- ---- the links are written

by_test : (b : Bool) → is_answer (end_of (if b then status.Found else status.Done)) ≡ true
by_test true = refl
by_test false = refl

is_answered : (source : SourceCall) (out : SinkCall) (result : FindingStatus) → Ends source out (Ok result) → is_answer (end_of result) ≡ true
is_answered source out result whole = ap is_answer whole.answers.ends ∙ by_test (list_any (λ l. is_loose l.outcome) whole.answers.links)

module _ (source : SourceCall) (out errs : SinkCall) (words : List (String Global)) where
  -- what the program has done at an end
  abbrev MeansAt : End → Type 0
  MeansAt = ends.Means (words ≡ []) usage_line StandsLinked RefusedFor cause_line Answers RefusesNone source out errs

  abbrev TellsStop : List ℕ → Stop → Stop → Type 0
  TellsStop line wanted told = telling.TellsAtEnd errs line wanted told

  pub means_words : (result : FindingStatus) → ((words ≡ []) → ⊥) → Unread source → Untouched out → TellsEnd errs usage_line stop.Usage (end_of result) → Means source out errs words result
  means_words result not_asked unread untouched tells = ends_usage (words ≡ []) (words ≡ []) usage_line (Finds StandsLinked) RefusedFor cause_line Answers RefusesNone source out errs (end_of result) not_asked unread untouched tells

  pub means_answered : (result : FindingStatus) → words ≡ [] → Ends source out (Ok result) → Untouched errs → Means source out errs words result
  means_answered result asked whole untouched = ends_answered (words ≡ []) (words ≡ []) usage_line (Finds StandsLinked) RefusedFor cause_line Answers RefusesNone source out errs (end_of result) asked whole (is_answered source out result whole) untouched

  -- ---- why they aren't is told

  -- a refusal for a cause other than want of memory
  refused : (e : LinkError) (told : Stop) → words ≡ [] → Untouched out → ends.Refused RefusedFor source e → TellsStop (cause_line e) stop.Tree told → MeansAt (end_of_stop told)
  refused e told asked untouched why tells = means_refused (words ≡ []) (words ≡ []) usage_line (Finds StandsLinked) RefusedFor cause_line Answers RefusesNone source out errs e told asked why untouched tells

  told_refusal : (e : LinkError) (told : Stop) → words ≡ [] → Fails source out (Refused e) → TellsStop (cause_line e) (failure_stop (Refused e)) told → MeansAt (end_of_stop told)
  told_refusal (refusal.Memory wanting) told asked why tells = means_memory (words ≡ []) (words ≡ []) usage_line (Finds StandsLinked) RefusedFor cause_line Answers RefusesNone source out errs told asked (inl asked) (inl why.0) tells
  told_refusal other told asked why tells = refused other told asked why.0 (why.1 (λ h. h)) tells

  told_failure : (failure : LinkFailure) (told : Stop) → words ≡ [] → Fails source out failure → TellsStop (failure_line failure) (failure_stop failure) told → MeansAt (end_of_stop told)
  told_failure (Refused e) told asked why tells = told_refusal e told asked why tells
  told_failure (Stopped (error.Tree cause)) told asked why tells = absurd why
  told_failure (Stopped error.TooLong) told asked why tells = means_too_long (words ≡ []) (words ≡ []) usage_line (Finds StandsLinked) RefusedFor cause_line Answers RefusesNone source out errs told asked why.1 why.0 tells
  told_failure (Stopped error.Read) told asked why tells = means_unread (words ≡ []) (words ≡ []) usage_line (Finds StandsLinked) RefusedFor cause_line Answers RefusesNone source out errs told asked why.1 why.0 tells
  told_failure (Stopped error.Write) told asked why tells = means_unwritten (words ≡ []) (words ≡ []) usage_line (Finds StandsLinked) RefusedFor cause_line Answers RefusesNone source out errs told asked (inl asked) why.0 why.1 tells
  told_failure (Stopped error.Memory) told asked why tells = means_memory (words ≡ []) (words ≡ []) usage_line (Finds StandsLinked) RefusedFor cause_line Answers RefusesNone source out errs told asked (inl asked) why tells

  pub means_failed : (failure : LinkFailure) (result : FindingStatus) → words ≡ [] → Ends source out (Err failure) → TellsEnd errs (failure_line failure) (failure_stop failure) (end_of result) → Means source out errs words result
  means_failed failure result asked why (told, is, tells) = subst MeansAt (sym is) (told_failure failure told asked why tells)

-- ---- words

pub words_there : (words : List (String Global)) (empty : Bool) → empty ≡ (length words == 0) → empty ≡ false → (words ≡ []) → ⊥
words_there [] empty is there none = absurd cc
words_there (word ∷ words) empty is there none = absurd cc

pub no_words : (words : List (String Global)) (empty : Bool) → empty ≡ (length words == 0) → empty ≡ true → words ≡ []
no_words [] empty is there = refl
no_words (word ∷ words) empty is there =
    let none : length (word ∷ words) ≡ 0 = eqb-true (length (word ∷ words)) 0 (sym is ∙ there) in
    absurd (omega arith)

-- ---- completeness

pub answered_done : (source : SourceCall) (out : SinkCall) (result : FindingStatus) → Ends source out (Ok result) → IsDoneOrMemory (end_of result)
answered_done source out result whole = answer_ends (end_of result) (is_answered source out result whole)

-- nothing is in the way but want of memory
only_memory : (source : SourceCall) (out : SinkCall) (failure : LinkFailure) → IsClear source out → IsNotRefused failure → Fails source out failure → failure_stop failure ≡ stop.Memory
only_memory source out (Refused (refusal.Memory wanting)) clear kept why = refl
only_memory source out (Refused other) clear kept why = absurd kept
only_memory source out (Stopped (error.Tree cause)) clear kept why = absurd why
only_memory source out (Stopped error.TooLong) clear kept why =
    let longer : 67108864 < length clear.input = subst (HadMoreThan 67108864) clear.told why.1 in
    absurd (omega (arith, longer, clear.fits))
only_memory source out (Stopped error.Read) clear kept why = absurd (clear.source_holds why.1)
only_memory source out (Stopped error.Write) clear kept why = absurd (clear.out_holds why.0)
only_memory source out (Stopped error.Memory) clear kept why = refl

pub clear_failed : (source : SourceCall) (out errs : SinkCall) (failure : LinkFailure) (result : FindingStatus) → IsClear source out → IsNotRefused failure → Ends source out (Err failure) → TellsEnd errs (failure_line failure) (failure_stop failure) (end_of result) → IsDoneOrMemory (end_of result)
clear_failed source out errs failure result clear kept why tells =
    subst IsDoneOrMemory (sym (wanting_ends errs (failure_line failure) (failure_stop failure) (end_of result) (only_memory source out failure clear kept why) tells)) tt
