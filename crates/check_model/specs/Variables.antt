-- Rows on loops' heads and on variable declarations.
use Rattle.std.specs.Prelude.{ℕ, List, ◌++◌, Bool, true, false, ◌&&◌, ◌||◌, not, codes}
use Rattle.std.specs.Prelude.{flat_map}
use Rattle.semantic_syntax.specs.Sets.{meets}
use Rattle.semantic_tree.specs.declared.node.Node.{Node}
use Rattle.semantic_tree.specs.Views.{is, has, has_text, has_child, all_in, whose}
use Rattle.semantic_tree.specs.BoundNames.{bound_names}
use Rattle.semantic_diagnostics.specs.declared.diagnostic.Diagnostic.{Diagnostic}
use Rattle.semantic_diagnostics.specs.Names.{redeclaration, class_static_block_for_await, class_static_block_await_using}
use Rattle.semantic_diagnostics.specs.Statements.{unexpected_initializer_in_for_loop_head, using_declaration_not_allowed_in_script}
use Rattle.check_model.specs.Sight.{Sight, symbol_entries}
use Rattle.check_model.specs.Search.{row_if, rows_if, rows_of_some, only}
use Rattle.check_model.specs.Surroundings.{is_strict, is_module, is_script, is_typescript, is_in_function, is_at_top, parent_passes, is_in_static_block}
use Rattle.check_model.specs.Entries.{one_before_last}
use Rattle.semantic_syntax.specs.declared.symbol_flags.TheConstants.SymbolFlags as symbol
use Rattle.semantic_kinds.specs.declared.kind.AstType.TheVariants as kinds
use Rattle.semantic_kinds.specs.declared.role.Role.TheVariants as roles
use Rattle.semantic_kinds.specs.declared.mark.Mark.TheVariants as mark

-- a static block doesn't await in a loop (ECMAScript 15.7.1, ContainsAwait)
abbrev pub check_for_of_statement : Sight → List Diagnostic
check_for_of_statement s = row_if (has mark.Await s.node && is_in_static_block s) (class_static_block_for_await s.node.span)

-- the name of the loop
abbrev pub loop_name : Bool → List ℕ
loop_name true = codes "for-in"
loop_name false = codes "for-of"

-- sloppy code alone has an initializer there, of a plain name under `for-in`
abbrev pub is_bad_initializer : Sight → Node → Bool → Node → Bool
is_bad_initializer s left for_in declarator =
    has_child roles.Init declarator
    && ((is_strict s && has_text (codes "var") left) || (not for_in || not (whose roles.Id (is kinds.BindingIdentifier) declarator)))

-- what is said of the declarators of a loop's head
abbrev pub head_rows : Sight → Node → Bool → List Node → List Diagnostic
head_rows s left for_in declarators =
    rows_of_some (λ declarator. row_if (is_bad_initializer s left for_in declarator) (unexpected_initializer_in_for_loop_head (loop_name for_in) left.span)) (only declarators)

-- the variable of a loop over something has no initializer (ECMAScript 14.7.5, Annex B.3.5)
abbrev pub check_for_statement_left : Node → Bool → Sight → List Diagnostic
check_for_statement_left left for_in s = rows_if (is kinds.VariableDeclaration left) (head_rows s left for_in (all_in roles.Declarators left))

-- `using` or `await using`
abbrev pub is_using : Node → Bool
is_using node = has_text (codes "using") node || has_text (codes "await using") node

-- `using` doesn't stand at the top of a script, nor `await using` in a static block (ECMAScript 14.3.1.1, 15.7.1)
abbrev pub check_variable_declaration : Sight → List Diagnostic
check_variable_declaration s =
    row_if (is_using s.node && (is_script s && is_at_top s)) (using_declaration_not_allowed_in_script s.node.span)
    ++ row_if (has_text (codes "await using") s.node && is_in_static_block s) (class_static_block_await_using s.node.span)

-- functions, and the top of what is no module, let a `var` declare a function again
abbrev pub lets_var_redeclare : Sight → Bool
lets_var_redeclare s = is_in_function s || (is_at_top s && not (is_module s))

-- the declaration before is no function
abbrev pub name_rows : Sight → Node → List Diagnostic
name_rows s name =
    rows_of_some (λ before. row_if (meets before.flags.bits symbol.Function.bits) (redeclaration name.text before.span s.node.span)) (one_before_last (symbol_entries s name))

-- a `var` elsewhere doesn't declare a function's name again (ECMAScript 14.2.1, 16.2.1.1)
abbrev pub check_variable_declarator_redeclaration : Sight → List Diagnostic
check_variable_declarator_redeclaration s =
    rows_if (not (is_typescript s) && (parent_passes s (has_text (codes "var")) && not (lets_var_redeclare s))) (flat_map (name_rows s) (bound_names s.node))
