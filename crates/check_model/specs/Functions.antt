-- Rows on functions that are declared again.
use Rattle.std.specs.Prelude.{List, [], ◌∷◌, Bool, ◌&&◌, ◌||◌, not, if◌then◌else◌}
use Rattle.std.specs.List.{find}
use Rattle.semantic_syntax.specs.Sets.{meets, union}
use Rattle.semantic_tree.specs.declared.node.Node.{Node}
use Rattle.semantic_tree.specs.Views.{has, child_of}
use Rattle.semantic_diagnostics.specs.declared.diagnostic.Diagnostic.{Diagnostic}
use Rattle.semantic_diagnostics.specs.Names.{redeclaration}
use Rattle.semantic_syntax.specs.declared.references.Redeclaration.{Redeclaration}
use Rattle.check_model.specs.Sight.{Sight, symbol_entries}
use Rattle.check_model.specs.Entries.{before_last, one_before_last}
use Rattle.check_model.specs.Search.{rows_if, rows_of_some}
use Rattle.check_model.specs.Surroundings.{is_strict, is_module, is_typescript, is_in_function, is_at_top, scope_passes}
use Rattle.check_model.specs.Bodies.{is_declared_function, is_function_decl_part_of_if_statement}
use Rattle.semantic_syntax.specs.declared.symbol_flags.TheConstants.SymbolFlags as symbol
use Rattle.semantic_kinds.specs.declared.role.Role.TheVariants as roles
use Rattle.semantic_kinds.specs.declared.mark.Mark.TheVariants as mark

-- a scope that lets functions be declared again, as `var` does
abbrev pub lets_functions_redeclare : Sight → Bool
lets_functions_redeclare s = is_in_function s || (scope_passes (λ seen. seen.is_static_block) s || (is_at_top s && not (is_module s)))

-- a declaration that a function may follow here
abbrev pub may_precede : Sight → Redeclaration → Bool
may_precede s before =
    meets before.flags.bits symbol.BlockScopedVariable.bits
    || (meets before.flags.bits (union symbol.FunctionScopedVariable.bits symbol.Function.bits) && lets_functions_redeclare s)

-- a plain function in sloppy code, as the last declaration was
abbrev pub is_sloppy_repeat : Sight → Redeclaration → Bool
is_sloppy_repeat s before =
    not (is_strict s) && (not (has mark.Async s.node || has mark.Generator s.node) && meets before.flags.bits symbol.Function.bits)

-- the declaration of an async function or of a generator
abbrev pub is_async_or_generator : Redeclaration → Bool
is_async_or_generator entry = meets entry.flags.bits symbol.AsyncOrGeneratorFunction.bits

-- sloppy blocks may repeat plain functions, and no others (ECMAScript, Annex B.3.2.4)
abbrev pub repeat_rows : Sight → Node → Redeclaration → List Redeclaration → List Diagnostic
repeat_rows s ident before earlier =
    if is_sloppy_repeat s before then rows_of_some (λ entry. redeclaration ident.text entry.span ident.span ∷ []) (find is_async_or_generator earlier)
    else redeclaration ident.text before.span ident.span ∷ []

-- the last of the earlier declarations lets the function follow
abbrev pub redeclared_rows : Sight → Node → List Redeclaration → List Diagnostic
redeclared_rows s ident entries =
    rows_of_some (λ before. rows_if (not (may_precede s before)) (repeat_rows s ident before (before_last entries))) (one_before_last entries)

-- a function doesn't declare a name again, except where JavaScript allows it (ECMAScript 14.2.1, 16.2.1.1)
abbrev pub check_function_redeclaration : Sight → List Diagnostic
check_function_redeclaration s =
    rows_if (not (is_typescript s) && (is_declared_function s.node && not (is_function_decl_part_of_if_statement s)))
    (rows_of_some (λ ident. redeclared_rows s ident (symbol_entries s ident)) (child_of roles.Id s.node))
