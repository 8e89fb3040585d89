-- Rows on namespaces, external modules and `global`.
use Rattle.std.specs.Prelude.{ℕ, ◌+◌, List, [], ◌∷◌, ◌++◌, Bool, true, false, Option, Some, None, ◌&&◌, ◌||◌, not, if◌then◌else◌, nat_le, drop, take, codes}
use Rattle.std.specs.List.{filter}
use Rattle.std.specs.Str.{bytes_eq}
use Rattle.semantic_syntax.specs.declared.spans.Span.{Span}
use Rattle.semantic_tree.specs.declared.node.Node.{Node}
use Rattle.check_model.specs.Groups.{is_module_kind, under_namespaces}
use Rattle.semantic_tree.specs.KindGroups.{is_module_declaration}
use Rattle.semantic_tree.specs.Views.{is, has, child_of}
use Rattle.semantic_diagnostics.specs.declared.diagnostic.Diagnostic.{Diagnostic}
use Rattle.semantic_diagnostics.specs.Types.{not_allowed_namespace_declaration, not_allowed_ambient_module_declaration, nested_ambient_module_declaration, global_scope_augmentation_should_have_declare_modifier}
use Rattle.check_model.specs.Sight.{Sight}
use Rattle.check_model.specs.Search.{row_if, rows_of_some, first}
use Rattle.check_model.specs.Surroundings.{is_script}
use Rattle.check_model.specs.Assignments.{block_rows}
use Rattle.semantic_kinds.specs.declared.kind.AstType.TheVariants as kinds
use Rattle.semantic_kinds.specs.declared.role.Role.TheVariants as roles
use Rattle.semantic_kinds.specs.declared.mark.Mark.TheVariants as mark

-- ---- places of modules

-- the path without imports and exports
abbrev pub places : Sight → List Node
places s = filter (λ node. not (is_module_declaration node.kind)) s.path

-- the top of a program, or of a namespace or module
abbrev pub is_top : Node → Bool
is_top node = is kinds.Program node || (is kinds.TSModuleBlock node || is_module_kind node.kind)

-- the nearest place is the top of a program, a namespace or a module
abbrev pub place_rows : Sight → List Diagnostic
place_rows s = rows_of_some (λ place. row_if (not (is_top place)) (not_allowed_namespace_declaration s.node.span)) (first (places s))

-- a namespace stands at the top of a program, a namespace or a module (TypeScript 1235)
abbrev pub check_ts_namespace_declaration : Sight → List Diagnostic
check_ts_namespace_declaration s = place_rows s ++ block_rows (under_namespaces s.node)

-- ---- `global`

-- the places, from one on, at which a word begins in the bytes
abbrev pub starts_from : ℕ → List ℕ → ℕ → List ℕ → List ℕ
starts_from count word place [] = []
starts_from count word place (byte ∷ rest) = (if bytes_eq (take count (byte ∷ rest)) word then place ∷ [] else []) ++ starts_from count word (place + 1) rest

-- the place of the word `global` in a declaration, or the whole declaration
abbrev pub global_span_at : Span → Option ℕ → Span
global_span_at span None = span
global_span_at span (Some place) = if nat_le (place + 6) span.end then record { start = place; end = place + 6 } else span

-- where the word `global` of the declaration stands
abbrev pub global_span : Sight → Span
global_span s = global_span_at s.node.span (first (starts_from 6 (codes "global") s.node.span.start (drop s.node.span.start s.source)))

-- `global` stands at the top of a program, a namespace or a module, and is declared (TypeScript 1235, 2670)
abbrev pub check_ts_global_declaration : Sight → List Diagnostic
check_ts_global_declaration s =
    place_rows s
    ++ row_if (not (has mark.Declare s.node || s.is_ambient)) (global_scope_augmentation_should_have_declare_modifier (global_span s))

-- ---- external modules

-- the top of a program, or of an external module at the top of a script
abbrev pub is_module_place : Bool → List Node → Bool
is_module_place in_script [] = true
is_module_place in_script (program ∷ []) = is kinds.Program program
is_module_place in_script (block ∷ module_node ∷ []) = is kinds.Program block
is_module_place in_script (block ∷ module_node ∷ program ∷ above) =
    is kinds.Program block || (in_script && (is kinds.TSModuleBlock block && (is kinds.TSExternalModuleDeclaration module_node && is kinds.Program program)))

-- the nearest place is a namespace or module, or its block
abbrev pub is_in_module_kind : List Node → Bool
is_in_module_kind [] = false
is_in_module_kind (place ∷ []) = is_module_kind place.kind
is_in_module_kind (place ∷ above ∷ rest) = is_module_kind place.kind || (is kinds.TSModuleBlock place && is_module_kind above.kind)

-- what is said of an external module elsewhere
abbrev pub misplaced_module : Sight → Diagnostic
misplaced_module s = if is_in_module_kind (places s) then nested_ambient_module_declaration s.node.span else not_allowed_ambient_module_declaration s.node.span

-- an external module stands at the top of a program (TypeScript 1234, 2435)
abbrev pub check_ts_external_module_declaration : Sight → List Diagnostic
check_ts_external_module_declaration s = row_if (not (is_module_place (is_script s) (places s))) (misplaced_module s) ++ rows_of_some block_rows (child_of roles.Body s.node)
