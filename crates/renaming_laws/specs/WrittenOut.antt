-- Programs in which properties are written out.
use Rattle.std.specs.Prelude.{ℕ}
use Rattle.semantic_kinds.specs.declared.mark.Mark.TheVariants as mark
use Rattle.semantic_tree.specs.Tree.{Tree}
use Rattle.semantic_model.specs.Analysis.{analysis_of}
use Rattle.program_laws.specs.ReadMarks.{unmarked_tree}
use Rattle.rename_model.specs.Renamed.{bears_name}
use Rattle.rename_model.specs.WithName.{sheds}

-- the program in which no property whose value bears the name of symbol s has the mark `shorthand`
abbrev pub written_out : Tree → ℕ → Tree
written_out p s = unmarked_tree (sheds (bears_name (analysis_of p) s)) mark.Shorthand p
