-- Rows on the elements of classes that clash.
use Rattle.std.specs.Prelude.{List, [], Bool, true, false, Option, Some, None, ◌&&◌, ◌||◌, not, if◌then◌else◌, ◌==◌, flat_map}
use Rattle.std.specs.Str.{bytes_eq}
use Rattle.semantic_syntax.specs.Sets.{meets}
use Rattle.semantic_syntax.specs.declared.element_kind.TheConstants.ElementKind as element
use Rattle.semantic_diagnostics.specs.declared.diagnostic.Diagnostic.{Diagnostic}
use Rattle.semantic_diagnostics.specs.Names.{redeclaration, static_and_instance_private_identifier}
use Rattle.semantic_model.specs.Element.{Element}
use Rattle.check_model.specs.Sight.{Sight}
use Rattle.check_model.specs.Search.{row_if, rows_of_some, find_last, each_after}
use Rattle.check_model.specs.Surroundings.{is_typescript, text_under}

-- both, or neither
abbrev pub same_truth : Bool → Bool → Bool
same_truth true b = b
same_truth false b = not b

-- the two elements have one name, as private or as public names
abbrev pub share_name : Element → Element → Bool
share_name a b = bytes_eq a.name b.name && same_truth a.is_private b.is_private

-- both set, or neither does
abbrev pub share_setter : Element → Element → Bool
share_setter a b = same_truth (meets a.kind.bits element.Setter.bits) (meets b.kind.bits element.Setter.bits)

-- the first that there is
abbrev pub some_or : {A : Type 0} → Option A → Option A → Option A
some_or None other = other
some_or (Some found) other = Some found

-- the earlier element that an element is compared with: the last of its name, among private ones rather one that sets as it does
abbrev pub predecessor : List Element → Element → Option Element
predecessor earlier own =
    if own.is_private then some_or (find_last (λ other. share_name own other && share_setter own other) earlier) (find_last (share_name own) earlier)
    else find_last (share_name own) earlier

-- a getter or a setter
abbrev pub is_half : Element → Bool
is_half own = meets own.kind.bits element.SetterOrGetter.bits

-- a getter and a setter that belong together
abbrev pub are_halves : Element → Element → Bool
are_halves before own = is_half before && (is_half own && (not (before.kind.bits == own.kind.bits) && same_truth before.is_static own.is_static))

-- public elements clash in TypeScript alone (2300), and only static with static or instance with instance
abbrev pub clash : Bool → Element → Element → Bool
clash in_typescript before own = not (are_halves before own) && (own.is_private || (in_typescript && same_truth before.is_static own.is_static))

-- what is said of two elements that clash (TypeScript 2804 for a static and an instance one)
abbrev pub clash_row : Sight → Element → Element → Diagnostic
clash_row s before own =
    if own.is_private && (is_typescript s && not (same_truth before.is_static own.is_static))
    then static_and_instance_private_identifier own.name before.span own.span
    else redeclaration (text_under s before.span) before.span own.span

-- an element does not clash with its predecessor
abbrev pub element_rows : Sight → List Element → Element → List Diagnostic
element_rows s earlier own = rows_of_some (λ before. row_if (clash (is_typescript s) before own) (clash_row s before own)) (predecessor earlier own)

-- the same of each element of a class
abbrev pub class_rows : Sight → List Element → List Diagnostic
class_rows s elements = each_after (element_rows s) [] elements

-- the elements of a class don't clash (ECMAScript 15.7.1, PrivateBoundIdentifiers)
abbrev pub check_duplicate_class_elements : Sight → List Diagnostic
check_duplicate_class_elements s = flat_map (class_rows s) s.elements
