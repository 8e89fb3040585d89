-- What a program does that looks for findings in the program that its input stands for. It reads whenever its words are in order, and
-- it refuses nothing about a good input.
use Rattle.std.specs.Prelude.{ℕ, List}
use Rattle.semantic_tree.specs.Tree.{Tree}
use Rattle.program_ends.specs.Calls.{SourceCall, SinkCall}
use Rattle.program_ends.specs.FindingEnds.{end_of}
use Rattle.program_ends.specs.Lines.{tree_line}
use Rattle.program_ends.specs.Meaning.{End, Means}
use Rattle.program_ends.specs.Reads.{Stands, RefusedFor}
use Rattle.program_ends.specs.declared.finding.FindingStatus.{FindingStatus}

-- nothing is refused about a good input
abbrev pub RefusesNone : Tree → List ℕ → Type 0
RefusesNone p line = ⊥

-- what the program has done at each status, where this says that its words are in order, what its line on others is, and what it answers
abbrev pub FindingMeans : Type 0 → List ℕ → (End → Tree → List ℕ → Type 0) → SourceCall → SinkCall → SinkCall → FindingStatus → Type 0
FindingMeans IsAsked usage_line Answers source out errs status =
    Means IsAsked usage_line Stands RefusedFor tree_line Answers RefusesNone source out errs (end_of status)
