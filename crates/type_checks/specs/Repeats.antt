-- Names that repeat others.
use Rattle.std.specs.Prelude.{◌≡◌, ℕ, List, [], ◌∷◌, Option, option_map}
use Rattle.std.specs.Borrow.{Bor}
use Rattle.std.specs.HashMap.{HashMap, get_by}
use Rattle.std.specs.Str.{chars, bytes_eq, IsUtf8}
use Rattle.semantic_syntax.specs.declared.spans.Span.{Span}
use Rattle.semantic_tree.specs.declared.node.Node.{Node}
use Rattle.semantic_diagnostics.specs.declared.diagnostic.Diagnostic.{Diagnostic}
use Rattle.semantic_diagnostics.specs.Names.{redeclaration}
use Rattle.check_model.specs.Methods.{repeated_rows}
use Rattle.check_model.specs.Search.{each_after, find_last, rows_of_some}
use Rattle.check_context.specs.Tells.{IsTelling}

-- where the last node with the text stands
abbrev pub last_span_of : List Node → List ℕ → Option Span
last_span_of earlier text = option_map (λ node. node.span) (find_last (λ other. bytes_eq other.text text) earlier)

-- where the last node of the same name stands
abbrev pub last_span : List Node → Node → Option Span
last_span earlier name = last_span_of earlier name.text

-- what is told of a name by where it stood before
abbrev pub rows_after : Option Span → Node → List Diagnostic
rows_after before name = rows_of_some (λ span. redeclaration name.text span name.span ∷ []) before

-- the map has where the last node of each name stands
pub record HasLast {S : Type 0} (earlier : List Node) (seen : HashMap (Bor (List ℕ)) Span S) : Type 0 where
  pub spans : (name : List ℕ) → IsUtf8 name → get_by (λ key. bytes_eq name key.now) seen ≡ last_span_of earlier (chars name)

-- all but the rows of the names that are left are told, and the map has the names before them
pub record IsRepeating {S : Type 0} (rows : List Diagnostic) (left : List Node) (seen : HashMap (Bor (List ℕ)) Span S) (before now : List Diagnostic) : Type 0 where
  pub earlier : List Node
  pub last : HasLast earlier seen
  pub telling : IsTelling rows (each_after repeated_rows earlier left) before now
