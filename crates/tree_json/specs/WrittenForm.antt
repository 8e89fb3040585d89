-- Which JSON values are written forms of a program.
use Rattle.std.specs.Prelude.{◌≡◌, ℕ, List, Some, Result}
use Rattle.std.specs.Str.{IsUtf8}
use Rattle.serde_json.specs.Data.{Data}
use Rattle.serde_json.specs.Read.{read}
use Rattle.semantic_tree.specs.Tree.{Tree}
use Rattle.semantic_tree.specs.declared.error.TreeError.{TreeError}
use Rattle.tree_json.specs.Lines.{listing}
use Rattle.tree_json.specs.Form.{Texts, line_of_data}
use Rattle.tree_json.specs.Comments.{all_items, comment_of_data}
use Rattle.tree_json.specs.Top.{TopForm, top_of_data, texts_in}
use Rattle.tree_json.specs.Outcome.{IsThisUnless, IsWantOfMemory}

-- the value is a written form of the program, in either format: a top object of the form that holds its source, its type and its comments, and whose rows are the listing of its tree
pub record IsWrittenForm (d : Data) (p : Tree) : Type 0 where
  pub top : TopForm
  pub formed : top_of_data d ≡ Some top
  pub source : top.source ≡ p.source
  pub source_type : top.source_type ≡ p.source_type
  pub comments : all_items comment_of_data top.comments ≡ Some p.comments
  pub texts : Texts
  pub told : texts_in top.texts ≡ Some texts
  pub rows : all_items (line_of_data texts) top.rows ≡ Some (listing p.root)

-- the bytes are the JSON text of a written form of the program
abbrev pub AreWrittenForm : List ℕ → Tree → Type 0
AreWrittenForm bytes p = IsUtf8 bytes × ((d : Data) × (read bytes ≡ Some d) × IsWrittenForm d p)

-- the program, or want of memory
abbrev pub IsReadAs : Tree → Result Tree TreeError → Type 0
IsReadAs p result = IsThisUnless IsWantOfMemory p result
