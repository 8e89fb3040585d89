-- What a program has done at its end that looks for findings.
use Rattle.std.proofs.Common.{◌≡◌, ◌↔◌, ℕ, List, Bool, true, false, IsTrue, Some, Ok, Err, subst, sym}
use Rattle.semantic_tree.specs.Tree.{Tree}
use Rattle.report_ends.specs.declared.error.ReportError.{ReportError}
use Rattle.report_ends.specs.declared.error.ReportError.TheVariants as error
use Rattle.program_ends.specs.Answering.{EndsBy}
use Rattle.program_ends.specs.Calls.{SourceCall, SinkCall, Unread, Untouched}
use Rattle.program_ends.specs.Completeness.{IsClear, IsNotRefused, IsDoneOrMemory}
use Rattle.program_ends.specs.Ending.{TellsEnd}
use Rattle.program_ends.specs.FindingEnds.{end_of}
use Rattle.program_ends.specs.Findings.{FindingMeans, RefusesNone}
use Rattle.program_ends.specs.Lines.{tree_line, line_on_error}
use Rattle.program_ends.specs.Meaning.{End, Finds, is_answer}
use Rattle.program_ends.specs.Reads.{Stands, RefusedFor}
use Rattle.program_ends.specs.Telling.{stop_of}
use Rattle.program_ends.specs.declared.finding.FindingStatus.{FindingStatus}
use Rattle.program_ends.specs.declared.stops.Stop.TheVariants as stop
use Rattle.program_ends.proofs.Endings.{ends_usage, ends_answered, ends_told, answer_ends, memory_ends}
use Rattle.program_ends.proofs.Meanings.{clear_reading}

-- the words aren't in order, as a test tells
pub refused_by : {P : Type 0} (test : Bool) → IsTrue test ↔ P → test ≡ false → P → ⊥
refused_by test both off p = let on : test ≡ true = both.1 p in absurd (cc)

module _ (IsAsked : Type 0) (Answers : End → Tree → List ℕ → Type 0) (source : SourceCall) (out : SinkCall) where
  module _ (usage_line : List ℕ) (errs : SinkCall) where
    -- the words are refused
    pub means_refused : (line : List ℕ) (result : FindingStatus) → line ≡ usage_line → (IsAsked → ⊥) → Unread source → Untouched out → TellsEnd errs line stop.Usage (end_of result) → FindingMeans IsAsked usage_line Answers source out errs result
    means_refused line result is not_asked unread untouched tells =
        ends_usage IsAsked IsAsked usage_line (Finds Stands) RefusedFor tree_line Answers RefusesNone source out errs (end_of result) not_asked unread untouched (subst (λ text. TellsEnd errs text stop.Usage (end_of result)) is tells)

    -- the answer is written
    pub means_answered : (result : FindingStatus) → ((end : End) (p : Tree) (text : List ℕ) → Answers end p text → is_answer end ≡ true) → IsAsked → EndsBy end_of IsAsked (Finds Stands) Answers source out (Ok result) → Untouched errs → FindingMeans IsAsked usage_line Answers source out errs result
    means_answered result answer asked whole untouched =
        ends_answered IsAsked IsAsked usage_line (Finds Stands) RefusedFor tree_line Answers RefusesNone source out errs (end_of result) asked whole (answer (end_of result) whole.what whole.text whole.answers) untouched

    -- why it isn't is told
    pub means_stopped : (cause : ReportError) (result : FindingStatus) → IsAsked → EndsBy {S = FindingStatus} end_of IsAsked (Finds Stands) Answers source out (Err cause) → TellsEnd errs (line_on_error cause) (stop_of cause) (end_of result) → FindingMeans IsAsked usage_line Answers source out errs result
    means_stopped cause result asked why tells = ends_told IsAsked IsAsked usage_line (Finds Stands) Answers RefusesNone source out errs cause (end_of result) asked why tells

  -- ---- completeness

  pub answered_done : (result : FindingStatus) → ((end : End) (p : Tree) (text : List ℕ) → Answers end p text → is_answer end ≡ true) → EndsBy end_of IsAsked (Finds Stands) Answers source out (Ok result) → IsDoneOrMemory (end_of result)
  answered_done result answer whole = answer_ends (end_of result) (answer (end_of result) whole.what whole.text whole.answers)

  pub clear_stopped : (errs : SinkCall) (cause : ReportError) (result : FindingStatus) → IsClear source out → ((input : List ℕ) (program : Tree) → source.left ≡ Some input → Stands input program → IsNotRefused cause) → EndsBy {S = FindingStatus} end_of IsAsked (Finds Stands) Answers source out (Err cause)
      → TellsEnd errs (line_on_error cause) (stop_of cause) (end_of result) → IsDoneOrMemory (end_of result)
  clear_stopped errs cause result clear kept why tells =
      let wanting : cause ≡ error.Memory = clear_reading IsAsked (Finds Stands) Answers source out cause clear (kept clear.input clear.program clear.told clear.stands) why in
      subst IsDoneOrMemory (sym (memory_ends errs cause (end_of result) wanting tells)) tt
