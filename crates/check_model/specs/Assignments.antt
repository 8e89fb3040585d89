-- Export assignments in lists of statements.
use Rattle.std.specs.Prelude.{List, Bool, true, false, flat_map}
use Rattle.std.specs.List.{list_any}
use Rattle.semantic_kinds.specs.declared.kind.AstType.{AstType}
use Rattle.semantic_kinds.specs.declared.kind.AstType.TheVariants as kinds
use Rattle.semantic_kinds.specs.declared.role.Role.TheVariants as roles
use Rattle.semantic_tree.specs.declared.node.Node.{Node}
use Rattle.semantic_tree.specs.Views.{is, has_child, all_in}
use Rattle.semantic_diagnostics.specs.declared.diagnostic.Diagnostic.{Diagnostic}
use Rattle.semantic_diagnostics.specs.Types.{ts_export_assignment_cannot_be_used_with_other_exports}
use Rattle.check_model.specs.Search.{row_if, rows_if}

-- the statement exports something otherwise than by assignment
abbrev pub exports_otherwise_by : AstType → Node → Bool
exports_otherwise_by kinds.ExportNamedDeclaration statement = has_child roles.Specifiers statement
exports_otherwise_by kinds.ExportFromDeclaration statement = has_child roles.Specifiers statement
exports_otherwise_by kinds.ExportDefaultDeclaration statement = true
exports_otherwise_by kinds.ExportAllDeclaration statement = true
exports_otherwise_by kinds.ExportDeclaration statement = true
exports_otherwise_by _ statement = false

-- the same, by the kind of the statement
abbrev pub exports_otherwise : Node → Bool
exports_otherwise statement = exports_otherwise_by statement.kind statement

-- what is said of an export assignment beside other exports
abbrev pub assignment_row : Node → List Diagnostic
assignment_row statement = row_if (is kinds.TSExportAssignment statement) (ts_export_assignment_cannot_be_used_with_other_exports statement.span)

-- an export assignment is the only export of its list of statements (TypeScript 2309)
abbrev pub export_assignment_rows : List Node → List Diagnostic
export_assignment_rows statements = rows_if (list_any exports_otherwise statements) (flat_map assignment_row statements)

-- the same of the statements of a block
abbrev pub block_rows : Node → List Diagnostic
block_rows block = export_assignment_rows (all_in roles.Body block)
