-- What is answered.
use Rattle.std.specs.Prelude.{◌≡◌, ℕ, List}
use Rattle.semantic_tree.specs.Tree.{Tree}
use Rattle.semantic_model.specs.TablesOf.{tables_of}
use Rattle.program_ends.specs.FindingEnds.{end_of}
use Rattle.program_ends.specs.Meaning.{End}
use Rattle.tangle_model.specs.Tangled.{tangles}
use Rattle.tangle_lint.specs.Codes.{status_for}
use Rattle.tangle_lint.specs.Lines.{tangle_lines}

-- the text is the lines of the program's tangled names, and this is the end for it
pub record Answers (end : End) (p : Tree) (text : List ℕ) : Type 0 where
  pub told : text ≡ tangle_lines (tables_of p) (tangles p)
  pub ends : end ≡ end_of (status_for (tangles p))
