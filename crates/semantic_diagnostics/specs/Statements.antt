-- Diagnostics on statements.
use Rattle.std.specs.Prelude.{ℕ, List, [], ◌∷◌, codes}
use Rattle.std.specs.List.{concat}
use Rattle.semantic_syntax.specs.declared.spans.Span.{Span}
use Rattle.semantic_diagnostics.specs.declared.diagnostic.Diagnostic.{Diagnostic}
use Rattle.semantic_diagnostics.specs.Parts.{said_at, labelled, plain, helped, redeclaration_message}

abbrev pub using_declaration_not_allowed_in_script : Span → Diagnostic
using_declaration_not_allowed_in_script span = helped (codes "Wrap this code in a block or use a module") (plain (codes "'using' declarations are not allowed at the top level of a script") span)

abbrev pub function_declaration_strict : Span → Diagnostic
function_declaration_strict span = helped (codes "In strict mode code, functions can only be declared at top level or inside a block") (plain (codes "Invalid function declaration") span)

abbrev pub function_declaration_non_strict : Span → Diagnostic
function_declaration_non_strict span = helped (codes "In non-strict mode code, functions can only be declared at top level, inside a block, or as the body of an if statement") (plain (codes "Invalid function declaration") span)

abbrev pub with_statement : Span → Diagnostic
with_statement span = plain (codes "'with' statements are not allowed") span

abbrev pub invalid_label_jump_target : Span → Diagnostic
invalid_label_jump_target span = plain (codes "Jump target cannot cross function boundary.") span

abbrev pub invalid_label_target : Span → Diagnostic
invalid_label_target span = plain (codes "Use of undefined label") span

abbrev pub invalid_label_non_iteration : List ℕ → Span → Span → Diagnostic
invalid_label_non_iteration keyword target jump = labelled (concat (codes "A `" ∷ keyword ∷ codes "` statement can only jump to a label of an enclosing `for`, `while` or `do while` statement." ∷ [])) (said_at target (codes "This is an non-iteration statement") ∷ said_at jump (codes "for this label") ∷ [])

abbrev pub invalid_break : Span → Diagnostic
invalid_break span = helped (codes "A `break` statement can only be used within an enclosing iteration or switch statement.") (plain (codes "Illegal break statement") span)

abbrev pub invalid_continue : Span → Diagnostic
invalid_continue span = helped (codes "A `continue` statement can only be used within an enclosing `for`, `while` or `do while` ") (plain (codes "Illegal continue statement: no surrounding iteration statement") span)

abbrev pub label_redeclaration : List ℕ → Span → Span → Diagnostic
label_redeclaration name first second = redeclaration_message (concat (codes "Label `" ∷ name ∷ codes "` has already been declared" ∷ [])) (codes "`") name first second

abbrev pub unexpected_initializer_in_for_loop_head : List ℕ → Span → Diagnostic
unexpected_initializer_in_for_loop_head keyword span = plain (concat (keyword ∷ codes " loop variable declaration may not have an initializer" ∷ [])) span
