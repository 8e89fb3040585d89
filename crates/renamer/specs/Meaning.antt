-- What each status of the program means.
use Rattle.std.specs.Prelude.{◌≡◌, ◌⊎◌, ℕ, List, Option, Some, None, Result, Ok, Err, String}
use Rattle.std.specs.declared.alloc.Global.{Global}
use Rattle.semantic_tree.specs.Tree.{Tree}
use Rattle.report_ends.specs.Streams.{Writes}
use Rattle.report_ends.specs.declared.error.ReportError.{ReportError}
use Rattle.report_ends.specs.declared.error.ReportError.TheVariants as error
use Rattle.program_ends.specs.Calls.{SourceCall, SinkCall, Untouched}
use Rattle.program_ends.specs.Completeness.{IsNotRefused}
use Rattle.program_ends.specs.Lines.{tree_line}
use Rattle.program_ends.specs.Meaning.{End, Finds, Answered, Stopped}
use Rattle.program_ends.specs.Meaning as ends
use Rattle.program_ends.specs.Reads.{Stands, RefusedFor}
use Rattle.program_ends.specs.Telling.{stop_of}
use Rattle.renamer.specs.Answers.{answer_to, IsRenamed, IsRefusedAs, program_text, refusal_line}
use Rattle.renamer.specs.Codes.{end_of}
use Rattle.renamer.specs.Requests.{RenameRequest, request_of}
use Rattle.renamer.specs.Telling.{usage_line}
use Rattle.renamer.specs.declared.refusal.Refusal.{Refusal}
use Rattle.renamer.specs.declared.refusal.RequestError.{RequestError}
use Rattle.renamer.specs.declared.refusal.RequestError.TheVariants as request_error
use Rattle.renamer.specs.declared.status.RenameStatus.{RenameStatus}

-- ---- what is answered

-- the text is the renamed program's, and this is the end for it
pub record Answers (asked : RenameRequest) (end : End) (p : Tree) (text : List ℕ) : Type 0 where
  pub renamed : Tree
  pub gives : answer_to asked p ≡ Ok renamed
  pub is_renamed : IsRenamed asked p renamed
  pub told : text ≡ program_text renamed
  pub ends : end ≡ ends.done

-- the line is that on the refusal
pub record RefusesRequest (asked : RenameRequest) (p : Tree) (line : List ℕ) : Type 0 where
  pub refusal : Refusal
  pub gives : answer_to asked p ≡ Err refusal
  pub why : IsRefusedAs asked p refusal
  pub told : line ≡ refusal_line refusal

-- the sink has taken the text, or a prefix of it; or memory was wanting before there was one
abbrev pub WritesText : {K : Type 0} → (K → Option (List ℕ)) → (K → ℕ) → K → K → List ℕ → Result Unit ReportError → Type 0
WritesText held faults old new text (Ok done) = Writes held faults old new text (Ok done)
WritesText held faults old new text (Err cause) = ((cause ≡ error.Memory) × (held new ≡ held old)) ⊎ Writes held faults old new text (Err cause)

-- the sink has taken the answer about the program, or a prefix of it; or there is none, since it is refused or memory was wanting
abbrev pub GivesAnswer : {K : Type 0} → (K → Option (List ℕ)) → (K → ℕ) → K → K → RenameRequest → Tree → Result Unit RequestError → Type 0
GivesAnswer held faults old new asked p (Ok done) = (text : List ℕ) × Answers asked ends.done p text × Writes held faults old new text (Ok done)
GivesAnswer held faults old new asked p (Err (request_error.Refused refusal)) = (answer_to asked p ≡ Err refusal) × (held new ≡ held old) × (faults new ≡ faults old)
GivesAnswer held faults old new asked p (Err (request_error.Stopped cause)) =
    ((cause ≡ error.Memory) × (held new ≡ held old)) ⊎ ((text : List ℕ) × Answers asked ends.done p text × Writes held faults old new text (Err cause))

-- what becomes of a request, before it is told
abbrev pub Ends : RenameRequest → SourceCall → SinkCall → Result Unit RequestError → Type 0
Ends asked source out (Ok done) = Answered (Finds Stands) (Answers asked) source out ends.done
Ends asked source out (Err (request_error.Refused refusal)) = Untouched out × ((p : Tree) × Finds Stands source p × (answer_to asked p ≡ Err refusal))
Ends asked source out (Err (request_error.Stopped cause)) = Stopped (Unit {0}) (Finds Stands) (Answers asked) source out cause

-- the end of a result that isn't told yet
abbrev pub end_due : Result Unit RequestError → End
end_due (Ok done) = ends.done
end_due (Err (request_error.Refused refusal)) = ends.refused
end_due (Err (request_error.Stopped cause)) = ends.end_of_stop (stop_of cause)

-- ---- the whole program

-- the words ask for something
abbrev pub IsAsked : Option RenameRequest → Type 0
IsAsked None = ⊥
IsAsked (Some asked) = Unit {0}

-- what is answered
abbrev pub AnswersTo : Option RenameRequest → End → Tree → List ℕ → Type 0
AnswersTo None end p text = ⊥
AnswersTo (Some asked) end p text = Answers asked end p text

-- what is refused
abbrev pub RefusesTo : Option RenameRequest → Tree → List ℕ → Type 0
RefusesTo None p line = ⊥
RefusesTo (Some asked) p line = RefusesRequest asked p line

-- what the program has done at a status, by what the words ask for
abbrev pub MeansBy : Option RenameRequest → SourceCall → SinkCall → SinkCall → RenameStatus → Type 0
MeansBy asked source out errs status =
    ends.Means (IsAsked asked) usage_line Stands RefusedFor tree_line (AnswersTo asked) (RefusesTo asked) source out errs (end_of status)

-- What the program has done at each status.
abbrev pub Means : SourceCall → SinkCall → SinkCall → List (String Global) → RenameStatus → Type 0
Means source out errs words status = MeansBy (request_of words) source out errs status

-- ---- completeness

-- the end that is due: the program is renamed, or that is refused
abbrev pub end_for : Result Tree Refusal → End
end_for (Ok q) = ends.done
end_for (Err refusal) = ends.refused

-- this end, or memory was wanting
abbrev pub IsOrMemory : (due end : End) → Type 0
IsOrMemory due end = (end ≡ due) ⊎ (end ≡ ends.memory)

-- what stopped a request is not that its input is no program
abbrev pub IsGoodInput : RequestError → Type 0
IsGoodInput (request_error.Refused refusal) = Unit {0}
IsGoodInput (request_error.Stopped cause) = IsNotRefused cause
