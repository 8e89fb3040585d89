-- Rows on exports and imports of a whole program.
use Rattle.std.specs.Prelude.{ℕ, ◌+◌, List, [], ◌∷◌, ◌++◌, Bool, Some, ◌&&◌, not, ◌==◌, filter, flat_map, length, nat_lt}
use Rattle.std.specs.List.{list_any}
use Rattle.semantic_syntax.specs.Sets.{meets, union}
use Rattle.semantic_syntax.specs.declared.symbol_flags.TheConstants.SymbolFlags as symbol
use Rattle.semantic_syntax.specs.declared.references.Redeclaration.{Redeclaration}
use Rattle.semantic_syntax.specs.Tables.{Name, Symbol}
use Rattle.semantic_kinds.specs.declared.kind.AstType.TheVariants as kinds
use Rattle.semantic_kinds.specs.declared.role.Role.TheVariants as roles
use Rattle.semantic_tree.specs.declared.node.Node.{Node}
use Rattle.semantic_tree.specs.Views.{is, all_in, child_of}
use Rattle.semantic_diagnostics.specs.declared.diagnostic.Diagnostic.{Diagnostic}
use Rattle.semantic_diagnostics.specs.Names.{redeclaration, undefined_export}
use Rattle.check_model.specs.Sight.{Sight, entries_in}
use Rattle.check_model.specs.Search.{row_if, rows_if, rows_of_some, first, last}
use Rattle.check_model.specs.Surroundings.{is_module, is_typescript}
use Rattle.check_model.specs.Assignments.{export_assignment_rows}

-- an exported name is not free
abbrev pub local_rows : Sight → Node → List Diagnostic
local_rows s local = row_if (is kinds.IdentifierReference local && list_any (λ node. node == local.node_id) s.unresolved) (undefined_export local.text local.span)

-- the same of each name of an export
abbrev pub export_rows : Sight → Node → List Diagnostic
export_rows s statement = rows_if (is kinds.ExportNamedDeclaration statement) (flat_map (λ specifier. rows_of_some (local_rows s) (child_of roles.Local specifier)) (all_in roles.Specifiers statement))

-- a module in JavaScript exports what it declares (ECMAScript 16.2.1.1, ExportedBindings)
abbrev pub check_unresolved_exports : Sight → List Diagnostic
check_unresolved_exports s = rows_if (not (is_typescript s) && is_module s) (flat_map (export_rows s) (all_in roles.Body s.node))

-- an import that is a value too
abbrev pub is_import_value : ℕ → Bool
is_import_value flags =
    meets flags symbol.Import.bits && meets flags (union symbol.Variable.bits (union symbol.Class.bits symbol.Function.bits))

-- the first declaration and the last, where there are two or more
abbrev pub first_and_last_rows : Name → List Redeclaration → List Diagnostic
first_and_last_rows name entries =
    rows_if (nat_lt 1 (length entries)) (rows_of_some (λ one. rows_of_some (λ two. redeclaration name one.span two.span ∷ []) (last entries)) (first entries))

-- an import that is a value too is declared once
abbrev pub import_rows : Symbol → List Diagnostic
import_rows y = rows_if (is_import_value y.flags.bits) (first_and_last_rows y.name (entries_in (Some y)))

-- the rows of each symbol, numbered from one on, for each time that it is bound
abbrev pub bound_rows : List ℕ → ℕ → List Symbol → List Diagnostic
bound_rows bound number [] = []
bound_rows bound number (y ∷ rest) = flat_map (λ same. import_rows y) (filter (λ other. other == number) bound) ++ bound_rows bound (number + 1) rest

-- a module in JavaScript doesn't declare an import again (ECMAScript 16.2.2.1, 16.2.1.1)
abbrev pub check_import_value_redeclarations : Sight → List Diagnostic
check_import_value_redeclarations s = rows_if (not (is_typescript s) && is_module s) (bound_rows s.bound 0 s.symbols)

-- an export assignment is the only export of a program in TypeScript (2309)
abbrev pub check_ts_export_assignment_in_program : Sight → List Diagnostic
check_ts_export_assignment_in_program s = rows_if (is_typescript s) (export_assignment_rows (all_in roles.Body s.node))
