-- Rows on the members of classes in TypeScript.
use Rattle.std.specs.Prelude.{ℕ, List, [], ◌∷◌, ◌++◌, Bool, true, false, Option, Some, None, ◌&&◌, ◌||◌, not, if◌then◌else◌, is_some, codes}
use Rattle.std.specs.Prelude.{flat_map}
use Rattle.std.specs.Option.{option_and_then}
use Rattle.std.specs.Str.{bytes_eq}
use Rattle.semantic_tree.specs.declared.node.Node.{Node}
use Rattle.semantic_tree.specs.Views.{is, has, has_text, child_of, whose}
use Rattle.semantic_tree.specs.KeyNames.{static_name}
use Rattle.semantic_diagnostics.specs.declared.diagnostic.Diagnostic.{Diagnostic}
use Rattle.semantic_diagnostics.specs.Types.{abstract_elem_in_concrete_class, constructor_implementation_missing, function_implementation_missing}
use Rattle.check_model.specs.Sight.{Sight}
use Rattle.check_model.specs.Search.{rows_if, rows_of_some, passes, each_between}
use Rattle.check_model.specs.Classes.{members}
use Rattle.semantic_kinds.specs.declared.kind.AstType.TheVariants as kinds
use Rattle.semantic_kinds.specs.declared.role.Role.TheVariants as roles
use Rattle.semantic_kinds.specs.declared.mark.Mark.TheVariants as mark

-- ---- abstract members

-- a property or an accessor, and no method
abbrev pub is_property : Node → Bool
is_property member = is kinds.PropertyDefinition member || is kinds.AccessorProperty member

-- an abstract member stands in an abstract class (TypeScript 1244, 1253)
abbrev pub abstract_rows : Node → List Diagnostic
abstract_rows member =
    rows_if (has mark.Abstract member) (rows_of_some (λ key. abstract_elem_in_concrete_class (is_property member) key.span ∷ []) (child_of roles.Key member))

-- ---- methods without body

-- the static name of a member
abbrev pub member_name : Node → Option (List ℕ)
member_name member = option_and_then static_name (child_of roles.Key member)

-- two static names are equal, or absent both
abbrev pub same_name : Option (List ℕ) → Option (List ℕ) → Bool
same_name None None = true
same_name (Some a) (Some b) = bytes_eq a b
same_name _ _ = false

-- a method that only declares
abbrev pub is_bodiless : Node → Bool
is_bodiless member =
    is kinds.MethodDefinition member
    && (not (has mark.Abstract member || has mark.Optional member) && whose roles.Value (has_text (codes "ts-empty-body")) member)

-- an overload: a method without body, and a method of the same name after it
abbrev pub is_overload : Node → Node → Bool
is_overload member after = is_bodiless member && (is kinds.MethodDefinition after && same_name (member_name member) (member_name after))

-- what is said of a method without body, or of a constructor
abbrev pub missing_implementation : Node → Node → Diagnostic
missing_implementation member key = if has_text (codes "constructor") member then constructor_implementation_missing key.span else function_implementation_missing key.span

-- the last method of an overloaded name, or a method alone, has a body (TypeScript 2390, 2391)
abbrev pub implementation_rows : Option Node → Node → Option Node → List Diagnostic
implementation_rows before member after =
    rows_if (is_bodiless member && (not (passes (is_overload member) after) && (is_some (member_name member) || passes (λ overload. is_overload overload member) before)))
    (rows_of_some (λ key. missing_implementation member key ∷ []) (child_of roles.Key member))

-- a class that is not abstract has no abstract members, and code that is not ambient has a body for each method
abbrev pub check_class_members : Sight → List Diagnostic
check_class_members s =
    rows_if (not (has mark.Abstract s.node)) (flat_map abstract_rows (members s.node))
    ++ rows_if (not s.is_ambient) (each_between implementation_rows None (members s.node))
