-- What is answered for a tree's bytes and words.
use Rattle.std.specs.Prelude.{◌≡◌, ◌⊎◌, ℕ, List, [], map, Some, None, String, string_bytes, length}
use Rattle.std.specs.declared.alloc.Global.{Global}
use Rattle.std.specs.Str.{IsUtf8}
use Rattle.std.specs.Str.Lines.{lines}
use Rattle.report_ends.specs.declared.error.ReportError.TheVariants as error
use Rattle.program_ends.specs.Calls.{SourceCall, SinkCall}
use Rattle.program_ends.specs.Codes.{code_of}
use Rattle.program_ends.specs.Completeness.{IsDoneOrMemory, IsUsageOrMemory}
use Rattle.program_ends.specs.Ending.{TellsEnd}
use Rattle.program_ends.specs.Lines.{line_on_error}
use Rattle.program_ends.specs.declared.stops.Stop.TheVariants as stop
use Rattle.program_ends.specs.FindingEnds.{end_of}
use Rattle.report.specs.Meaning.{Means, IsClearFor}
use Rattle.report.specs.Requests.{request_of}
use Rattle.report.specs.Telling.{usage_line}
use Rattle.program_ends.specs.declared.finding.FindingStatus.{FindingStatus}
use Rattle.analysis_c.specs.Buffers.{buffer_filled}
use Rattle.analysis_c.specs.declared.Answer.{Answer}

-- a source that had a tree's bytes, has these left, and never failed
abbrev pub source_with : List ℕ → List ℕ → SourceCall
source_with tree left = record { left = Some tree; left_then = Some left; faults = 0; faults_then = 0 }

-- a sink that has taken a text, and never failed
abbrev pub sink_of : List ℕ → SinkCall
sink_of text = record { held = Some []; held_then = Some text; faults = 0; faults_then = 0 }

-- the program was run with these words: what its status means, when it writes the report, and when it refuses the words
pub record Ran (tree report message : List ℕ) (words : List (String Global)) (result : FindingStatus) : Type 0 where
  pub left : List ℕ
  pub means : Means (source_with tree left) (sink_of report) (sink_of message) words result
  pub complete : IsClearFor (request_of words) (source_with tree left) (sink_of report) → IsDoneOrMemory (end_of result)
  pub usage : request_of words ≡ None → IsUsageOrMemory (end_of result)

-- the program was run with the words that stand one a line
abbrev pub RanWith : List ℕ → List ℕ → List ℕ → List ℕ → FindingStatus → Type 0
RanWith tree text report message result =
    (words : List (String Global)) × IsUtf8 text × (map string_bytes words ≡ lines text) × Ran tree report message words result

-- words that aren't UTF-8 are refused
abbrev pub RefusedWords : List ℕ → List ℕ → List ℕ → FindingStatus → Type 0
RefusedWords text report message result = (¬ IsUtf8 text) × (report ≡ []) × TellsEnd (sink_of message) usage_line stop.Usage (end_of result)

-- memory was wanting for the words
abbrev pub LackedMemory : List ℕ → List ℕ → FindingStatus → Type 0
LackedMemory report message result = (report ≡ []) × TellsEnd (sink_of message) (line_on_error error.Memory) stop.Memory (end_of result)

-- the report, the line on errors and the status that are answered for a tree's bytes and words
abbrev pub Answers : List ℕ → List ℕ → List ℕ → List ℕ → FindingStatus → Type 0
Answers tree text report message result = RanWith tree text report message result ⊎ (RefusedWords text report message result ⊎ LackedMemory report message result)

-- The answer tells the status and how long both texts are, and each buffer has as much of its text as fits.
pub record CallAnswered (tree words report report_then message message_then : List ℕ) (answer : Answer) : Type 0 where
  pub written : List ℕ
  pub told : List ℕ
  pub result : FindingStatus
  pub answers : Answers tree words written told result
  pub status : answer.status ≡ code_of (end_of result)
  pub report_len : answer.report_len ≡ length written
  pub message_len : answer.message_len ≡ length told
  pub report_filled : report_then ≡ buffer_filled report written
  pub message_filled : message_then ≡ buffer_filled message told
