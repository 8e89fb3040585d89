-- The lines on what stops a program.
use Rattle.std.specs.Prelude.{ℕ, List, [], ◌∷◌, Some, None, codes, decimal}
use Rattle.std.specs.List.{concat}
use Rattle.semantic_tree.specs.declared.error.TreeError.{TreeError}
use Rattle.semantic_tree.specs.declared.error.TreeError.TheVariants as tree
use Rattle.semantic_tree.specs.declared.error.SpanFault.{SpanFault}
use Rattle.semantic_tree.specs.declared.error.SpanFault.TheVariants as span
use Rattle.report_ends.specs.declared.error.ReportError.{ReportError}
use Rattle.report_ends.specs.declared.error.ReportError.TheVariants as error

-- a text with a number behind it, as a line
unfoldable pub numbered_line : List ℕ → ℕ → List ℕ
numbered_line text number = concat (text ∷ decimal number ∷ codes "\n" ∷ [])

abbrev pub span_line : SpanFault → List ℕ
span_line (span.Node node) = numbered_line (codes "tree: span at node ") node
span_line (span.Comment comment) = numbered_line (codes "tree: span at comment ") comment

abbrev pub memory_line : List ℕ
memory_line = codes "out of memory\n"

-- the line on a refused tree
abbrev pub tree_line : TreeError → List ℕ
tree_line tree.NotJson = codes "tree: not JSON\n"
tree_line (tree.Shape None) = codes "tree: shape\n"
tree_line (tree.Shape (Some node)) = numbered_line (codes "tree: shape at node ") node
tree_line tree.TooMany = codes "tree: too many\n"
tree_line (tree.TooDeep node) = numbered_line (codes "tree: too deep at node ") node
tree_line (tree.Span fault) = span_line fault
tree_line (tree.Memory wanting) = memory_line

abbrev pub too_long_line : List ℕ
too_long_line = codes "input too long\n"

abbrev pub read_line : List ℕ
read_line = codes "read failed\n"

abbrev pub write_line : List ℕ
write_line = codes "write failed\n"

-- the line on an error
abbrev pub line_on_error : ReportError → List ℕ
line_on_error (error.Tree cause) = tree_line cause
line_on_error error.TooLong = too_long_line
line_on_error error.Read = read_line
line_on_error error.Write = write_line
line_on_error error.Memory = memory_line
