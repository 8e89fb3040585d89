-- Diagnostics on functions, classes and expressions.
use Rattle.std.specs.Prelude.{ℕ, List, [], ◌∷◌, codes}
use Rattle.std.specs.List.{concat}
use Rattle.semantic_syntax.specs.declared.spans.Span.{Span}
use Rattle.semantic_diagnostics.specs.declared.diagnostic.Diagnostic.{Diagnostic}
use Rattle.semantic_diagnostics.specs.Parts.{bare_label, said_at, labelled, plain, helped, coded}

abbrev pub duplicate_constructor : Span → Span → Diagnostic
duplicate_constructor first second = labelled (codes "Multiple constructor implementations are not allowed.") (said_at first (codes "constructor has already been declared here") ∷ said_at second (codes "it cannot be redeclared here") ∷ [])

abbrev pub require_class_name : Span → Diagnostic
require_class_name span = plain (codes "A class name is required.") span

abbrev pub type_predicate_only_in_return_type : Span → Diagnostic
type_predicate_only_in_return_type span = coded (codes "TS(1228)") (plain (codes "A type predicate is only allowed in return type position for functions and methods.") span)

abbrev pub super_without_derived_class : Span → Span → Diagnostic
super_without_derived_class span class_span = helped (codes "either remove this super, or extend the class") (labelled (codes "'super' can only be referenced in a derived class.") (bare_label span ∷ said_at class_span (codes "class does not have `extends`") ∷ []))

abbrev pub unexpected_super_call : Span → Diagnostic
unexpected_super_call span = coded (codes "TS(2337)") (plain (codes "Super calls are not permitted outside constructors or in nested functions inside constructors.") span)

abbrev pub unexpected_super_reference : Span → Diagnostic
unexpected_super_reference span = plain (codes "'super' can only be referenced in members of derived classes or object literal expressions.") span

abbrev pub delete_of_unqualified : Span → Diagnostic
delete_of_unqualified span = plain (codes "Delete of an unqualified identifier in strict mode.") span

abbrev pub delete_private_field : Span → Diagnostic
delete_private_field span = plain (codes "The operand of a 'delete' operator cannot be a private identifier.") span

abbrev pub await_or_yield_in_parameter : List ℕ → Span → Diagnostic
await_or_yield_in_parameter keyword span = labelled (concat (keyword ∷ codes " expression not allowed in formal parameter" ∷ [])) (said_at span (concat (keyword ∷ codes " expression not allowed in formal parameter" ∷ [])) ∷ [])
