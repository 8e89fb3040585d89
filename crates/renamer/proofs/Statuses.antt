-- What the program has done at each status.
use Rattle.std.proofs.Common.{◌≡◌, inl, inr, Option, Some, None, Ok, Err, subst, sym, ap, ◌∙◌, refl}
use Rattle.semantic_tree.specs.Tree.{Tree}
use Rattle.report_ends.specs.declared.error.ReportError.TheVariants as error
use Rattle.program_ends.specs.Calls.{SourceCall, SinkCall, Unread, Untouched}
use Rattle.program_ends.specs.Completeness.{IsClear}
use Rattle.program_ends.specs.Ending.{TellsEnd}
use Rattle.program_ends.specs.Faults.{FaultsEnd}
use Rattle.program_ends.specs.Lines.{tree_line, line_on_error}
use Rattle.program_ends.specs.Meaning.{End, Finds, of_refusal}
use Rattle.program_ends.specs.Meaning as ends
use Rattle.program_ends.specs.Reads.{Stands, RefusedFor}
use Rattle.program_ends.specs.Telling.{stop_of}
use Rattle.program_ends.specs.declared.stops.Stop.TheVariants as stop
use Rattle.program_ends.proofs.Endings.{ends_usage, ends_told, memory_ends}
use Rattle.program_ends.proofs.Faults.{told_failing}
use Rattle.program_ends.proofs.Meanings.{Meant, clear_reading}
use Rattle.renamer.specs.Answers.{answer_to, refusal_line}
use Rattle.renamer.specs.Codes.{end_of}
use Rattle.renamer.specs.Meaning.{Answers, RefusesRequest, Ends, IsAsked, AnswersTo, RefusesTo, MeansBy, IsGoodInput, IsOrMemory, end_due, end_for}
use Rattle.renamer.specs.Requests.{RenameRequest}
use Rattle.renamer.specs.Telling.{TellsRefusal, TellsError, usage_line}
use Rattle.renamer.specs.declared.refusal.Refusal.{Refusal}
use Rattle.renamer.specs.declared.refusal.RequestError.{RequestError}
use Rattle.renamer.specs.declared.refusal.RequestError.TheVariants as request_error
use Rattle.renamer.specs.declared.status.RenameStatus.{RenameStatus}
use Rattle.renamer.specs.declared.status.RenameStatus.TheVariants as status
use Rattle.renamer.proofs.Answering.{found_is}
use Rattle.renamer.proofs.Asking.{is_refused}

module _ (source : SourceCall) (out errs : SinkCall) where
  -- the words are refused
  pub means_words : (words : Option RenameRequest) (result : RenameStatus) → words ≡ None → Unread source → Untouched out → TellsEnd errs usage_line stop.Usage (end_of result) → MeansBy words source out errs result
  means_words None result none unread untouched tells = ends_usage (IsAsked None) (IsAsked None) usage_line (Finds Stands) RefusedFor tree_line (AnswersTo None) (RefusesTo None) source out errs (end_of result) (λ asked. asked) unread untouched tells
  means_words (Some asked) result none unread untouched tells = absurd (cc)

  -- the answer is written
  pub means_done : (words : Option RenameRequest) (asked : RenameRequest) → words ≡ Some asked → Ends asked source out (Ok tt) → Untouched errs → MeansBy words source out errs status.Done
  means_done words asked is whole untouched = subst (λ a. MeansBy a source out errs status.Done) (sym is) (tt, whole, untouched)

  -- what the program has done at an end, by what the words ask for
  abbrev MeansAt : Option RenameRequest → End → Type 0
  MeansAt asked = Meant (IsAsked asked) (IsAsked asked) usage_line (Finds Stands) RefusedFor tree_line (AnswersTo asked) (RefusesTo asked) source out errs

  -- the request is refused
  means_refusal : (asked : RenameRequest) (refusal : Refusal) (result : RenameStatus) → Ends asked source out (Err (request_error.Refused refusal)) → TellsRefusal errs (refusal_line refusal) (end_of result) → MeansBy (Some asked) source out errs result
  means_refusal asked refusal result (untouched, (p, finds, gives)) (inl told) =
      let refuses : RefusesRequest asked p (refusal_line refusal) = record { refusal = refusal; gives = gives; why = is_refused asked p refusal finds.stands.numbered gives; told = refl } in
      subst (MeansAt (Some asked)) (sym told.0) (tt, untouched, (p, finds, (refusal_line refusal, refuses, told.1)))
  means_refusal asked refusal result (untouched, (p, finds, gives)) (inr part) =
      let refuses : RefusesRequest asked p (refusal_line refusal) = record { refusal = refusal; gives = gives; why = is_refused asked p refusal finds.stands.numbered gives; told = refl } in
      subst (MeansAt (Some asked)) (sym part.0) (inl tt, inl untouched, (refusal_line refusal, of_refusal p (refusal_line refusal) refuses, part.1))

  -- why it isn't done is told
  pub means_error : (words : Option RenameRequest) (asked : RenameRequest) (e : RequestError) (result : RenameStatus) → words ≡ Some asked → Ends asked source out (Err e) → TellsError errs e (end_of result) → MeansBy words source out errs result
  means_error words asked (request_error.Refused refusal) result is why tells = subst (λ a. MeansBy a source out errs result) (sym is) (means_refusal asked refusal result why tells)
  means_error words asked (request_error.Stopped cause) result is why tells =
      subst (λ a. MeansBy a source out errs result) (sym is)
      (ends_told (IsAsked (Some asked)) (IsAsked (Some asked)) usage_line (Finds Stands) (AnswersTo (Some asked)) (RefusesTo (Some asked)) source out errs cause (end_of result) tt why tells)

-- ---- completeness

module _ (source : SourceCall) (out : SinkCall) where
  -- what is answered about the program that is found is answered about the one that the input stands for
  due : (asked : RenameRequest) (clear : IsClear source out) (p : Tree) (end : End) → Finds Stands source p → end_for (answer_to asked p) ≡ end → end_for (answer_to asked clear.program) ≡ end
  due asked clear p end finds is = ap (λ q. end_for (answer_to asked q)) (sym (found_is source out clear p finds)) ∙ is

  done : (asked : RenameRequest) (clear : IsClear source out) → Ends asked source out (Ok tt) → IsOrMemory (end_for (answer_to asked clear.program)) (end_of status.Done)
  done asked clear whole = inl (sym (due asked clear whole.what ends.done whole.gives (ap end_for whole.answers.gives)))

  refused : (errs : SinkCall) (asked : RenameRequest) (clear : IsClear source out) (refusal : Refusal) (result : RenameStatus) → Ends asked source out (Err (request_error.Refused refusal)) → TellsRefusal errs (refusal_line refusal) (end_of result)
      → IsOrMemory (end_for (answer_to asked clear.program)) (end_of result)
  refused errs asked clear refusal result (untouched, (p, finds, gives)) (inl told) = inl (told.0 ∙ sym (due asked clear p ends.refused finds (ap end_for gives)))
  refused errs asked clear refusal result (untouched, (p, finds, gives)) (inr part) = inr part.0

  stopped : (errs : SinkCall) (asked : RenameRequest) (clear : IsClear source out) (e : RequestError) (result : RenameStatus) → IsGoodInput e → Ends asked source out (Err e) → TellsError errs e (end_of result) → IsOrMemory (end_for (answer_to asked clear.program)) (end_of result)
  stopped errs asked clear (request_error.Refused refusal) result good why tells = refused errs asked clear refusal result why tells
  stopped errs asked clear (request_error.Stopped cause) result good why tells =
      let wanting : cause ≡ error.Memory = clear_reading (Unit {0}) (Finds Stands) (Answers asked) source out cause clear good why in
      inr (memory_ends errs cause (end_of result) wanting tells)

  -- the words ask for one thing
  one : (words : Option RenameRequest) (mine asked : RenameRequest) → words ≡ Some mine → words ≡ Some asked → asked ≡ mine
  one words mine asked is there = cc

  about : (words : Option RenameRequest) (mine asked : RenameRequest) (clear : IsClear source out) (end : End) → words ≡ Some mine → words ≡ Some asked → IsOrMemory (end_for (answer_to mine clear.program)) end → IsOrMemory (end_for (answer_to asked clear.program)) end
  about words mine asked clear end is there due_or = subst (λ a. IsOrMemory (end_for (answer_to a clear.program)) end) (sym (one words mine asked is there)) due_or

  -- the answer is due
  pub done_due : (words : Option RenameRequest) (mine asked : RenameRequest) (clear : IsClear source out) → words ≡ Some mine → words ≡ Some asked → Ends mine source out (Ok tt) → IsOrMemory (end_for (answer_to asked clear.program)) (end_of status.Done)
  done_due words mine asked clear is there whole = about words mine asked clear (end_of status.Done) is there (done mine clear whole)

  -- the refusal is due, or memory was wanting
  pub error_due : (errs : SinkCall) (words : Option RenameRequest) (mine asked : RenameRequest) (clear : IsClear source out) (e : RequestError) (result : RenameStatus) → words ≡ Some mine → words ≡ Some asked
      → IsGoodInput e → Ends mine source out (Err e) → TellsError errs e (end_of result) → IsOrMemory (end_for (answer_to asked clear.program)) (end_of result)
  error_due errs words mine asked clear e result is there good why tells = about words mine asked clear (end_of result) is there (stopped errs mine clear e result good why tells)

-- ---- ends that fail

-- the end that is due is told, or memory was wanting
pub error_failing : (source : SourceCall) (out errs : SinkCall) (e : RequestError) (end : End) → FaultsEnd source out (end_due (Err e)) → TellsError errs e end → FaultsEnd source out end
error_failing source out errs (request_error.Refused refusal) end due (inl told) = subst (FaultsEnd source out) (sym told.0) due
error_failing source out errs (request_error.Refused refusal) end due (inr part) = subst (FaultsEnd source out) (sym part.0) (record { reading = inr tt; writing = inr tt })
error_failing source out errs (request_error.Stopped cause) end due tells = told_failing source out errs (line_on_error cause) (stop_of cause) end due tells

-- ---- what is asked

pub asked_not_none : (words : Option RenameRequest) (asked : RenameRequest) → words ≡ Some asked → words ≡ None → ⊥
asked_not_none words asked is none = absurd (cc)
