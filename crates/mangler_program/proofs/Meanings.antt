-- What the program has done at its end.
use Rattle.std.proofs.Common.{◌≡◌, ℕ, List, true, Option, Some, None, Ok, Err, subst, sym, ap}
use Rattle.semantic_tree.specs.Tree.{Tree}
use Rattle.report_ends.specs.declared.error.ReportError.{ReportError}
use Rattle.report_ends.specs.declared.error.ReportError.TheVariants as error
use Rattle.program_ends.specs.Calls.{SourceCall, SinkCall, Unread, Untouched}
use Rattle.program_ends.specs.Completeness.{IsClear, IsNotRefused, IsDoneOrMemory}
use Rattle.program_ends.specs.Ending.{TellsEnd}
use Rattle.program_ends.specs.Lines.{tree_line, line_on_error}
use Rattle.program_ends.specs.Meaning.{Finds, is_answer}
use Rattle.program_ends.specs.Reads.{Stands, RefusedFor}
use Rattle.program_ends.specs.Telling.{stop_of}
use Rattle.program_ends.specs.declared.stops.Stop.TheVariants as stop
use Rattle.program_ends.proofs.Endings.{ends_usage, ends_answered, ends_told, answer_ends, memory_ends}
use Rattle.program_ends.proofs.Meanings.{clear_reading}
use Rattle.mangle_model.specs.MayMangle.{Options}
use Rattle.mangler_program.specs.Codes.{end_of}
use Rattle.mangler_program.specs.Meaning.{usage_line, Answers, Ends, IsAsked, AnswersTo, RefusesNone, MeansBy}
use Rattle.mangler_program.specs.declared.status.MangleStatus.{MangleStatus}

-- ---- the meaning of the status

is_answered : (o : Options) (source : SourceCall) (out : SinkCall) (result : MangleStatus) → Ends o source out (Ok result) → is_answer (end_of result) ≡ true
is_answered o source out result whole = ap is_answer whole.answers.ends

module _ (source : SourceCall) (out errs : SinkCall) where
  -- the words are refused
  pub means_words : (asked : Option Options) (result : MangleStatus) → asked ≡ None → Unread source → Untouched out → TellsEnd errs usage_line stop.Usage (end_of result) → MeansBy asked source out errs result
  means_words None result none unread untouched tells = ends_usage (IsAsked None) (IsAsked None) usage_line (Finds Stands) RefusedFor tree_line (AnswersTo None) RefusesNone source out errs (end_of result) (λ asked. asked) unread untouched tells
  means_words (Some o) result none unread untouched tells = absurd cc

  -- the program is written
  pub means_answered : (asked : Option Options) (o : Options) (result : MangleStatus) → asked ≡ Some o → Ends o source out (Ok result) → Untouched errs → MeansBy asked source out errs result
  means_answered asked o result is whole untouched =
      subst (λ a. MeansBy a source out errs result) (sym is)
      (ends_answered (IsAsked (Some o)) (IsAsked (Some o)) usage_line (Finds Stands) RefusedFor tree_line (AnswersTo (Some o)) RefusesNone source out errs (end_of result) tt whole (is_answered o source out result whole) untouched)

  -- why it isn't is told
  pub means_stopped : (asked : Option Options) (o : Options) (cause : ReportError) (result : MangleStatus) → asked ≡ Some o → Ends o source out (Err cause) → TellsEnd errs (line_on_error cause) (stop_of cause) (end_of result) → MeansBy asked source out errs result
  means_stopped asked o cause result is why tells =
      subst (λ a. MeansBy a source out errs result) (sym is)
      (ends_told (IsAsked (Some o)) (IsAsked (Some o)) usage_line (Finds Stands) (AnswersTo (Some o)) RefusesNone source out errs cause (end_of result) tt why tells)

-- ---- completeness

pub answered_done : (o : Options) (source : SourceCall) (out : SinkCall) (result : MangleStatus) → Ends o source out (Ok result) → IsDoneOrMemory (end_of result)
answered_done o source out result whole = answer_ends (end_of result) (is_answered o source out result whole)

pub clear_stopped : (o : Options) (source : SourceCall) (out errs : SinkCall) (cause : ReportError) (result : MangleStatus) → IsClear source out → ((input : List ℕ) (program : Tree) → source.left ≡ Some input → Stands input program → IsNotRefused cause) → Ends o source out (Err cause)
    → TellsEnd errs (line_on_error cause) (stop_of cause) (end_of result) → IsDoneOrMemory (end_of result)
clear_stopped o source out errs cause result clear kept why tells =
    let wanting : cause ≡ error.Memory = clear_reading (Unit {0}) (Finds Stands) (Answers o) source out cause clear (kept clear.input clear.program clear.told clear.stands) why in
    subst IsDoneOrMemory (sym (memory_ends errs cause (end_of result) wanting tells)) tt

-- ---- what is asked

pub asked_not_none : (words : Option Options) → IsAsked words → words ≡ None → ⊥
asked_not_none None asked none = asked
asked_not_none (Some o) asked none = absurd cc

pub some_not_none : (asked : Option Options) (o : Options) → asked ≡ Some o → asked ≡ None → ⊥
some_not_none asked o is none = absurd cc
