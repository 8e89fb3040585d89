-- What is answered.
use Rattle.std.specs.Prelude.{◌≡◌, ℕ, List, String}
use Rattle.std.specs.declared.alloc.Global.{Global}
use Rattle.semantic_tree.specs.Tree.{Tree}
use Rattle.program_ends.specs.FindingEnds.{end_of}
use Rattle.program_ends.specs.Meaning.{End}
use Rattle.name_lint.specs.Codes.{status_for}
use Rattle.name_lint.specs.Known.{known_names}
use Rattle.name_lint.specs.Lines.{finding_lines}
use Rattle.name_lint.specs.Live.{AreUnused}
use Rattle.name_lint.specs.Undeclared.{undeclared}

-- the text is the lines of the program's unused symbols and of its references to names that nobody declares and that aren't among the
-- words, and this is the end for it
pub record Answers (words : List (String Global)) (end : End) (p : Tree) (text : List ℕ) : Type 0 where
  pub unused : List ℕ
  pub are_unused : AreUnused p unused
  pub told : text ≡ finding_lines p unused (undeclared (known_names words) p)
  pub ends : end ≡ end_of (status_for unused (undeclared (known_names words) p))
