-- Diagnostics on names and literals.
use Rattle.std.specs.Prelude.{ℕ, List, [], ◌∷◌, codes}
use Rattle.std.specs.List.{concat}
use Rattle.semantic_syntax.specs.declared.spans.Span.{Span}
use Rattle.semantic_diagnostics.specs.declared.contexts.ReservedKeywordContext.{ReservedKeywordContext}
use Rattle.semantic_diagnostics.specs.declared.contexts.ReservedKeywordContext.TheVariants as reserved
use Rattle.semantic_diagnostics.specs.declared.contexts.UnexpectedIdentifierAssignContext.{UnexpectedIdentifierAssignContext}
use Rattle.semantic_diagnostics.specs.declared.contexts.UnexpectedIdentifierAssignContext.TheVariants as assigned
use Rattle.semantic_diagnostics.specs.declared.diagnostic.Diagnostic.{Diagnostic}
use Rattle.semantic_diagnostics.specs.Parts.{plain, helped, noted_with, coded, redeclaration_message}

abbrev pub redeclaration : List ℕ → Span → Span → Diagnostic
redeclaration name first second = redeclaration_message (concat (codes "Identifier `" ∷ name ∷ codes "` has already been declared" ∷ [])) (codes "`") name first second

abbrev pub static_and_instance_private_identifier : List ℕ → Span → Span → Diagnostic
static_and_instance_private_identifier name first second = coded (codes "TS(2804)") (redeclaration_message (concat (codes "Duplicate identifier `#" ∷ name ∷ codes "`. Static and instance elements cannot share the same private name." ∷ [])) (codes "`#") name first second)

abbrev pub undefined_export : List ℕ → Span → Diagnostic
undefined_export name span = plain (concat (codes "Export '" ∷ name ∷ codes "' is not defined" ∷ [])) span

abbrev pub class_static_block_await : Span → Diagnostic
class_static_block_await span = plain (codes "Cannot use await in class static initialization block") span

abbrev pub class_static_block_for_await : Span → Diagnostic
class_static_block_for_await span = plain (codes "Cannot use 'for await' in class static initialization block") span

abbrev pub class_static_block_await_using : Span → Diagnostic
class_static_block_await_using span = plain (codes "Cannot use 'await using' in class static initialization block") span

-- why it is so
abbrev pub reserved_keyword_note : ReservedKeywordContext → List ℕ
reserved_keyword_note reserved.StrictMode = codes "This identifier is reserved in strict mode code"
reserved_keyword_note reserved.Class = codes "Classes are always strict mode code"
reserved_keyword_note reserved.Module = codes "Modules are always strict mode code"
reserved_keyword_note reserved.ModuleAwait = codes "The identifier `await` is reserved in module code"

abbrev pub reserved_keyword : List ℕ → Span → ReservedKeywordContext → Diagnostic
reserved_keyword name span context = noted_with (reserved_keyword_note context) (plain (concat (codes "The keyword '" ∷ name ∷ codes "' is reserved" ∷ [])) span)

-- why it is so
abbrev pub unexpected_identifier_assign_note : UnexpectedIdentifierAssignContext → List ℕ
unexpected_identifier_assign_note assigned.StrictMode = codes "This is strict mode code"
unexpected_identifier_assign_note assigned.Class = codes "Classes are always strict mode code"
unexpected_identifier_assign_note assigned.Module = codes "Modules are always strict mode code"

abbrev pub unexpected_identifier_assign : List ℕ → Span → UnexpectedIdentifierAssignContext → Diagnostic
unexpected_identifier_assign name span context = noted_with (unexpected_identifier_assign_note context) (plain (concat (codes "Cannot assign to '" ∷ name ∷ codes "' in strict mode" ∷ [])) span)

abbrev pub invalid_let_declaration : List ℕ → Span → Diagnostic
invalid_let_declaration keyword span = plain (concat (codes "`let` cannot be declared as a variable name inside of a `" ∷ keyword ∷ codes "` declaration" ∷ [])) span

abbrev pub unexpected_arguments : List ℕ → Span → Diagnostic
unexpected_arguments place span = helped (codes "Assign the 'arguments' variable to a temporary variable outside") (plain (concat (codes "'arguments' is not allowed in " ∷ place ∷ [])) span)

abbrev pub private_not_in_class : List ℕ → Span → Diagnostic
private_not_in_class name span = plain (concat (codes "Private identifier '#" ∷ name ∷ codes "' is not allowed outside class bodies" ∷ [])) span

abbrev pub private_field_undeclared : List ℕ → Span → Diagnostic
private_field_undeclared name span = plain (concat (codes "Private field '#" ∷ name ∷ codes "' must be declared in an enclosing class" ∷ [])) span

abbrev pub legacy_octal : Span → Diagnostic
legacy_octal span = helped (codes "for octal literals use the '0o' prefix instead") (plain (codes "'0'-prefixed octal literals and octal escape sequences are deprecated") span)

abbrev pub leading_zero_decimal : Span → Diagnostic
leading_zero_decimal span = helped (codes "remove the leading zero") (plain (codes "Decimals with leading zeros are not allowed in strict mode") span)

abbrev pub non_octal_decimal_escape_sequence : Span → Diagnostic
non_octal_decimal_escape_sequence span = helped (codes "\\8 and \\9 are not allowed in strict mode") (plain (codes "Invalid escape sequence") span)

abbrev pub illegal_use_strict : Span → Diagnostic
illegal_use_strict span = helped (codes "Wrap this function with an IIFE with a 'use strict' directive that returns this function") (plain (codes "Illegal 'use strict' directive in function with non-simple parameter list") span)
