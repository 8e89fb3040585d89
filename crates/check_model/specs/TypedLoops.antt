-- Rows on types in loops' heads.
use Rattle.std.specs.Prelude.{List, [], ◌∷◌, Bool, flat_map}
use Rattle.semantic_kinds.specs.declared.kind.AstType.TheVariants as kinds
use Rattle.semantic_kinds.specs.declared.role.Role.TheVariants as roles
use Rattle.semantic_tree.specs.declared.node.Node.{Node}
use Rattle.semantic_tree.specs.Views.{is, has_child, all_in, child_of}
use Rattle.semantic_diagnostics.specs.declared.diagnostic.Diagnostic.{Diagnostic}
use Rattle.semantic_diagnostics.specs.Types.{type_annotation_in_for_left}
use Rattle.check_model.specs.Sight.{Sight}
use Rattle.check_model.specs.Search.{rows_if, rows_of_some}

-- a declarator has no type
abbrev pub typed_rows : Bool → Node → List Diagnostic
typed_rows for_in declarator =
    rows_if (has_child roles.Annotation declarator) (rows_of_some (λ ident. type_annotation_in_for_left ident.span for_in ∷ []) (child_of roles.Id declarator))

-- the variable of a loop over something has no type (TypeScript 2404, 2483)
abbrev pub check_typed_for_statement_left : Node → Bool → Sight → List Diagnostic
check_typed_for_statement_left left for_in s = rows_if (is kinds.VariableDeclaration left) (flat_map (typed_rows for_in) (all_in roles.Declarators left))
