-- What is answered.
use Rattle.std.specs.Prelude.{◌≡◌, ◌++◌, ℕ, List, String}
use Rattle.std.specs.declared.alloc.Global.{Global}
use Rattle.semantic_tree.specs.Tree.{Tree}
use Rattle.program_ends.specs.Meaning.{End}
use Rattle.report.specs.Meaning as report
use Rattle.name_lint.specs.Meaning as lint
use Rattle.file_check.specs.Asked.{check_request}
use Rattle.file_check.specs.Codes.{end_of_both}

-- the text is what the report answers about the program by `--check`, and then what the lint of names answers where the words are
-- known; and this is the end for both: `found` exactly where there are diagnostics or lines of the lint
pub record Answers (words : List (String Global)) (end : End) (p : Tree) (text : List ℕ) : Type 0 where
  pub report_end : End
  pub report_text : List ℕ
  pub reported : report.Answers check_request report_end p report_text
  pub names_end : End
  pub names_text : List ℕ
  pub named : lint.Answers words names_end p names_text
  pub told : text ≡ report_text ++ names_text
  pub ends : end ≡ end_of_both report_end names_end
