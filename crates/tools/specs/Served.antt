-- What the tools answer to a request: its first word names the tool, and the others are the tool's.
use Rattle.std.specs.Prelude.{◌≡◌, ℕ, List, [], ◌∷◌, Option, Some, None, String, string_bytes, codes}
use Rattle.std.specs.declared.alloc.Global.{Global}
use Rattle.program_ends.specs.Calls.{SourceCall, SinkCall}
use Rattle.program_ends.specs.Codes.{code_of}
use Rattle.program_ends.specs.Ending.{TellsEnd}
use Rattle.program_ends.specs.FindingEnds as finding
use Rattle.program_ends.specs.declared.finding.FindingStatus.{FindingStatus}
use Rattle.program_ends.specs.declared.stops.Stop.TheVariants as stop
use Rattle.serving.specs.Requests.{Answer}
use Rattle.tools.specs.Ends.{end_of}
use Rattle.tools.specs.Named.{tool_named}
use Rattle.tools.specs.Runs.{IsRunOf}
use Rattle.tools.specs.declared.status.ToolStatus.{ToolStatus}
use Rattle.tools.specs.declared.tool.Tool.{Tool}

-- the line on a first word that names no tool
abbrev pub usage_line : List ℕ
usage_line = codes "usage: report|renamer|mangler|name_lint|tangled_names|file_check|module_linker [WORD ..]\n"

-- a source that had an input, has this left, and never failed
abbrev pub source_with : List ℕ → List ℕ → SourceCall
source_with input left = record { left = Some input; left_then = Some left; faults = 0; faults_then = 0 }

-- a sink that was empty, has taken a text, and never failed
abbrev pub sink_of : List ℕ → SinkCall
sink_of text = record { held = Some []; held_then = Some text; faults = 0; faults_then = 0 }

-- words that name no tool are refused, or memory is wanting for the line on that
abbrev pub IsRefused : Answer → Type 0
IsRefused answer = (status : FindingStatus) × TellsEnd (sink_of answer.errs) usage_line stop.Usage (finding.end_of status) × (answer.status ≡ code_of (finding.end_of status)) × (answer.out ≡ [])

-- the tool of the name answers, or there is none
abbrev pub AnswersAs : Option Tool → List (String Global) → List ℕ → Answer → Type 0
AnswersAs None words input answer = IsRefused answer
AnswersAs (Some tool) words input answer = (left : List ℕ) × (status : ToolStatus) × IsRunOf tool (source_with input left) (sink_of answer.out) (sink_of answer.errs) words status × (answer.status ≡ code_of (end_of status))

-- the answer to words and an input
abbrev pub ToolAnswers : List (String Global) → List ℕ → Answer → Type 0
ToolAnswers [] input answer = IsRefused answer
ToolAnswers (name ∷ words) input answer = AnswersAs (tool_named (string_bytes name)) words input answer
