-- Rows on classes in JavaScript and TypeScript alike.
use Rattle.std.specs.Prelude.{List, [], ◌∷◌, ◌++◌, Bool, true, ◌&&◌, ◌||◌, not, if◌then◌else◌, is_some, codes}
use Rattle.std.specs.List.{flat_map, filter, list_any}
use Rattle.std.specs.Option.{option_map, unwrap_or}
use Rattle.semantic_syntax.specs.declared.spans.Span.{Span}
use Rattle.semantic_syntax.specs.Sets.{meets}
use Rattle.semantic_tree.specs.declared.node.Node.{Node}
use Rattle.semantic_tree.specs.Views.{is, has_text, has_child, all_in, child_of, whose}
use Rattle.semantic_tree.specs.KeyNames.{static_name}
use Rattle.semantic_diagnostics.specs.declared.diagnostic.Diagnostic.{Diagnostic}
use Rattle.semantic_diagnostics.specs.Names.{redeclaration, private_field_undeclared}
use Rattle.semantic_diagnostics.specs.Functions.{require_class_name, duplicate_constructor}
use Rattle.semantic_syntax.specs.Tables.{Name}
use Rattle.semantic_model.specs.Element.{is_named}
use Rattle.semantic_model.specs.Class.{PrivateUse}
use Rattle.check_model.specs.Sight.{SeenClass, Sight, symbol_entries}
use Rattle.check_model.specs.Entries.{one_before_last}
use Rattle.check_model.specs.Search.{row_if, rows_if, rows_of_some}
use Rattle.check_model.specs.Surroundings.{is_typescript, is_under, first_bytes}
use Rattle.semantic_syntax.specs.declared.symbol_flags.TheConstants.SymbolFlags as symbol
use Rattle.semantic_kinds.specs.declared.kind.AstType.TheVariants as kinds
use Rattle.semantic_kinds.specs.declared.role.Role.TheVariants as roles

-- the members of a class
abbrev pub members : Node → List Node
members class = flat_map (all_in roles.Body) (all_in roles.Body class)

-- the class itself defines the private name
abbrev pub defines_private : Name → SeenClass → Bool
defines_private name class = list_any (is_named name true) class.elements

-- a class around the use defines the private name
abbrev pub use_rows : List SeenClass → PrivateUse → List Diagnostic
use_rows around used = row_if (not (list_any (defines_private used.name) around)) (private_field_undeclared used.name used.span)

-- each private name that a class uses is defined by it or by a class around it (ECMAScript 15.7.1, AllPrivateIdentifiersValid)
abbrev pub private_use_rows : Sight → List Diagnostic
private_use_rows s = flat_map (use_rows s.classes) s.uses

-- a class that is declared has a name, except as the default export (ECMAScript 15.7)
abbrev pub class_name_rows : Sight → List Diagnostic
class_name_rows s =
    row_if (has_text (codes "declaration") s.node && not (has_child roles.Id s.node || is_under kinds.ExportDefaultDeclaration s)) (require_class_name (first_bytes 5 s.node.span))

-- a constructor that has a body
abbrev pub is_constructor_with_body : Node → Bool
is_constructor_with_body member = is kinds.MethodDefinition member && (has_text (codes "constructor") member && whose roles.Value (has_child roles.Body) member)

-- where the key of a member stands
abbrev pub key_span : Node → Span
key_span member = unwrap_or (option_map (λ key. key.span) (child_of roles.Key member)) member.span

-- the key of a member, or all of it where the key has no static name
abbrev pub member_span : Node → Span
member_span member = if whose roles.Key (λ key. is_some (static_name key)) member then key_span member else member.span

-- there is no second constructor
abbrev pub second_rows : List Node → List Diagnostic
second_rows (one ∷ two ∷ rest) = duplicate_constructor (member_span one) (member_span two) ∷ []
second_rows _ = []

-- a class has one constructor with body (ECMAScript 15.7.1, PrototypePropertyNameList)
abbrev pub constructor_rows : Sight → List Diagnostic
constructor_rows s = second_rows (filter is_constructor_with_body (members s.node))

-- private names are defined, a declared class has a name, and there is one constructor
abbrev pub check_class : Sight → List Diagnostic
check_class s = private_use_rows s ++ (class_name_rows s ++ constructor_rows s)

-- a class doesn't declare a function's name again (ECMAScript 14.2.1, 16.1.1)
abbrev pub check_class_redeclaration : Sight → List Diagnostic
check_class_redeclaration s =
    rows_if (not (is_typescript s))
    (rows_of_some (λ ident. rows_of_some (λ before. row_if (meets before.flags.bits symbol.Function.bits) (redeclaration ident.text before.span ident.span)) (one_before_last (symbol_entries s ident))) (child_of roles.Id s.node))
