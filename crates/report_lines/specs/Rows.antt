-- The rows of a report: what each of its lines tells.
use Rattle.std.specs.Prelude.{◌≡◌, ℕ, List, Option}
use Rattle.semantic_kinds.specs.declared.kind.AstType.{AstType}
use Rattle.semantic_syntax.specs.declared.references.Redeclaration.{Redeclaration}
use Rattle.semantic_syntax.specs.declared.references.Reference.{Reference}
use Rattle.semantic_syntax.specs.Tables.{Name, Scope, Symbol, Tables}
use Rattle.semantic_model.specs.Element.{Element}
use Rattle.semantic_model.specs.Class.{PrivateUse}
use Rattle.semantic_diagnostics.specs.declared.diagnostic.Diagnostic.{Diagnostic}
use Rattle.report_lines.specs.ClassLines.{class_line, element_line, private_use_line}
use Rattle.report_lines.specs.CountLines.{node_line, label_line, stats_line, made_line}
use Rattle.report_lines.specs.DiagnosticLine.{diagnostic_line}
use Rattle.report_lines.specs.TableLines.{scope_line, bind_line, symbol_line, redeclaration_line, uses_line, pure_line, reference_line, free_line}

-- what one line tells
pub data ReportRow : Type 0 where
  node : ℕ → AstType → (parent scope : ℕ) → ReportRow
  scope : ℕ → Scope → ReportRow
  binding : (scope : ℕ) → Name × ℕ → ReportRow
  symbol : ℕ → Symbol → ReportRow
  declaration : (symbol : ℕ) → Redeclaration → ReportRow
  uses : (symbol : ℕ) → List ℕ → ReportRow
  pure : (symbol : ℕ) → ReportRow
  reference : Tables → ℕ → Reference → ReportRow
  free : Name × List ℕ → ReportRow
  class : ℕ → (node : ℕ) → (parent : Option ℕ) → ReportRow
  element : (class number : ℕ) → Element → ReportRow
  private_use : (class : ℕ) → PrivateUse → ReportRow
  label : (node : ℕ) → ReportRow
  stats : (nodes : ℕ) → Tables → ReportRow
  made : (nodes : ℕ) → Tables → ReportRow
  diagnostic : Diagnostic → ReportRow

-- the line of a row
abbrev pub row_line : ReportRow → List ℕ
row_line (node number kind parent at) = node_line number kind parent at
row_line (scope number s) = scope_line number s
row_line (binding at bound) = bind_line at bound
row_line (symbol number s) = symbol_line number s
row_line (declaration of entry) = redeclaration_line of entry
row_line (uses of references) = uses_line of references
row_line (pure number) = pure_line number
row_line (reference t number r) = reference_line t number r
row_line (free entry) = free_line entry
row_line (class number at parent) = class_line number at parent
row_line (element at number e) = element_line at number e
row_line (private_use at used) = private_use_line at used
row_line (label at) = label_line at
row_line (stats nodes t) = stats_line nodes t
row_line (made nodes t) = made_line nodes t
row_line (diagnostic d) = diagnostic_line d

-- the text is the line of one row
abbrev pub IsRow : List ℕ → Type 0
IsRow text = (row : ReportRow) × (row_line row ≡ text)
