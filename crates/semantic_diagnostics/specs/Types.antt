-- Diagnostics on TypeScript.
use Rattle.std.specs.Prelude.{ℕ, List, [], ◌∷◌, Bool, true, false, codes}
use Rattle.std.specs.List.{concat}
use Rattle.semantic_syntax.specs.declared.spans.Span.{Span}
use Rattle.semantic_diagnostics.specs.declared.diagnostic.Diagnostic.{Diagnostic}
use Rattle.semantic_diagnostics.specs.Parts.{plain, helped, coded}

-- with the code and the word for the case
abbrev pub jsdoc_type : List ℕ → List ℕ → ℕ → Span → List ℕ → Diagnostic
jsdoc_type code place mark span suggestion = coded code (helped (concat (codes "Did you mean to write '" ∷ suggestion ∷ codes "'?" ∷ [])) (plain (concat (codes "'" ∷ (mark ∷ []) ∷ codes "' at the " ∷ place ∷ codes " of a type is not valid TypeScript syntax." ∷ [])) span))

abbrev pub jsdoc_type_in_annotation : ℕ → Bool → Span → List ℕ → Diagnostic
jsdoc_type_in_annotation mark true span suggestion = jsdoc_type (codes "TS(17020)") (codes "start") mark span suggestion
jsdoc_type_in_annotation mark false span suggestion = jsdoc_type (codes "TS(17019)") (codes "end") mark span suggestion

abbrev pub not_allowed_namespace_declaration : Span → Diagnostic
not_allowed_namespace_declaration span = coded (codes "TS(1235)") (plain (codes "A namespace declaration is only allowed at the top level of a namespace or module.") span)

abbrev pub not_allowed_ambient_module_declaration : Span → Diagnostic
not_allowed_ambient_module_declaration span = coded (codes "TS(1234)") (plain (codes "An ambient module declaration is only allowed at the top level in a file.") span)

abbrev pub nested_ambient_module_declaration : Span → Diagnostic
nested_ambient_module_declaration span = coded (codes "TS(2435)") (plain (codes "Ambient modules cannot be nested in other modules or namespaces.") span)

abbrev pub global_scope_augmentation_should_have_declare_modifier : Span → Diagnostic
global_scope_augmentation_should_have_declare_modifier span = coded (codes "TS(2670)") (plain (codes "Augmentations for the global scope should have 'declare' modifier unless they appear in already ambient context.") span)

abbrev pub enum_member_must_have_initializer : Span → Diagnostic
enum_member_must_have_initializer span = plain (codes "Enum member must have initializer.") span

abbrev pub infer_declaration_only_permitted_in_extends_clause : Span → Diagnostic
infer_declaration_only_permitted_in_extends_clause span = coded (codes "TS(1338)") (plain (codes "'infer' declarations are only permitted in the 'extends' clause of a conditional type.") span)

-- with the code and the word for the case
abbrev pub abstract_elem : List ℕ → List ℕ → Span → Diagnostic
abstract_elem code place span = coded code (plain (concat (codes "Abstract " ∷ place ∷ codes " can only appear within an abstract class." ∷ [])) span)

abbrev pub abstract_elem_in_concrete_class : Bool → Span → Diagnostic
abstract_elem_in_concrete_class true span = abstract_elem (codes "TS(1253)") (codes "properties") span
abstract_elem_in_concrete_class false span = abstract_elem (codes "TS(1244)") (codes "methods") span

abbrev pub constructor_implementation_missing : Span → Diagnostic
constructor_implementation_missing span = coded (codes "TS(2390)") (plain (codes "Constructor implementation is missing.") span)

abbrev pub function_implementation_missing : Span → Diagnostic
function_implementation_missing span = coded (codes "TS(2391)") (plain (codes "Function implementation is missing or not immediately following the declaration.") span)

abbrev pub parameter_property_only_in_constructor_impl : Span → Diagnostic
parameter_property_only_in_constructor_impl span = coded (codes "TS(2369)") (plain (codes "A parameter property is only allowed in a constructor implementation.") span)

abbrev pub accessor_without_body : Span → Diagnostic
accessor_without_body span = plain (codes "Getters and setters must have an implementation.") span

-- with the code and the word for the case
abbrev pub type_annotation : List ℕ → List ℕ → Span → Diagnostic
type_annotation code place span = coded code (helped (codes "This iterator's type will be inferred from the iterable. You can safely remove the type annotation.") (plain (concat (codes "The left-hand side of a '" ∷ place ∷ codes "' statement cannot use a type annotation." ∷ [])) span))

abbrev pub type_annotation_in_for_left : Span → Bool → Diagnostic
type_annotation_in_for_left span true = type_annotation (codes "TS(2404)") (codes "for...in") span
type_annotation_in_for_left span false = type_annotation (codes "TS(2483)") (codes "for...of") span

abbrev pub ts_export_assignment_cannot_be_used_with_other_exports : Span → Diagnostic
ts_export_assignment_cannot_be_used_with_other_exports span = coded (codes "TS(2309)") (helped (codes "If you want to use `export =`, remove other `export`s and put all of them to the right hand value of `export =`. If you want to use `export`s, remove `export =` statement.") (plain (codes "An export assignment cannot be used in a module with other exported elements") span))
