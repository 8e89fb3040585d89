-- When a program answers.
use Rattle.std.specs.Prelude.{◌≡◌, ℕ, ◌≤◌, List, Some, length}
use Rattle.semantic_tree.specs.Tree.{Tree}
use Rattle.report_ends.specs.Causes.{Rose}
use Rattle.report_ends.specs.declared.error.ReportError.{ReportError}
use Rattle.report_ends.specs.declared.error.ReportError.TheVariants as error
use Rattle.program_ends.specs.Calls.{SourceCall, SinkCall}
use Rattle.program_ends.specs.Meaning.{End, done, found, usage, memory, refused}
use Rattle.program_ends.specs.Reads.{Stands}

-- nothing is in the way of an answer about the input: it stands for a program, and no end fails
pub record IsClear (source : SourceCall) (out : SinkCall) : Type 0 where
  pub input : List ℕ
  pub program : Tree
  pub told : source.left ≡ Some input
  pub fits : length input ≤ 67108864
  pub stands : Stands input program
  pub source_holds : ¬ (Rose source.faults source.faults_then)
  pub out_holds : ¬ (Rose out.faults out.faults_then)

-- the input isn't refused
abbrev pub IsNotRefused : ReportError → Type 0
IsNotRefused (error.Tree cause) = ⊥
IsNotRefused other = Unit {0}

-- the program has answered, or memory was wanting
abbrev pub IsDoneOrMemory : End → Type 0
IsDoneOrMemory done = Unit {0}
IsDoneOrMemory found = Unit {0}
IsDoneOrMemory refused = Unit {0}
IsDoneOrMemory memory = Unit {0}
IsDoneOrMemory other = ⊥

-- the words were refused, or memory was wanting
abbrev pub IsUsageOrMemory : End → Type 0
IsUsageOrMemory usage = Unit {0}
IsUsageOrMemory memory = Unit {0}
IsUsageOrMemory other = ⊥
