-- Rows on `super`.
use Rattle.std.specs.Prelude.{ℕ, List, [], ◌∷◌, Bool, true, false, Option, Some, None, ◌&&◌, ◌||◌, not, if◌then◌else◌, ◌==◌, drop, is_some, codes}
use Rattle.std.specs.List.{find, take_while}
use Rattle.std.specs.Option.{option_and_then, option_map, unwrap_or}
use Rattle.semantic_kinds.specs.declared.kind.AstType.{AstType}
use Rattle.semantic_tree.specs.declared.node.Node.{Node}
use Rattle.semantic_tree.specs.Views.{is, has, has_text, has_child, is_child_in}
use Rattle.semantic_diagnostics.specs.declared.diagnostic.Diagnostic.{Diagnostic}
use Rattle.semantic_diagnostics.specs.Functions.{unexpected_super_call, unexpected_super_reference, super_without_derived_class}
use Rattle.check_model.specs.Sight.{Sight, SeenScope, SeenClass}
use Rattle.check_model.specs.Search.{row_if, rows_of_some, passes, first, onward, neighbours}
use Rattle.check_model.specs.Surroundings.{parent, nodes_outward, links, node_by_id}
use Rattle.semantic_kinds.specs.declared.kind.AstType.TheVariants as kinds
use Rattle.semantic_kinds.specs.declared.role.Role.TheVariants as roles
use Rattle.semantic_kinds.specs.declared.mark.Mark.TheVariants as mark

-- what a scope decides about `super`
pub data Verdict : Type 0 where
  allowed : Verdict
  allowed_unless_call : Verdict
  allowed_in_derived : Verdict
  refused : Verdict

-- a call or a `new`
abbrev pub is_call_node : Node → Bool
is_call_node node = is kinds.CallExpression node || is kinds.NewExpression node

-- the node, if it is a call or a `new`
abbrev pub if_call : Node → Option Node
if_call node = if is_call_node node then Some node else None

-- the call or the `new` whose `super` this is
abbrev pub call_around : Sight → Option Node
call_around s = option_and_then if_call (parent s)

-- this `super` is called
abbrev pub is_call : Sight → Bool
is_call s = is_some (call_around s)

-- ---- classes

-- the scope is that of the kept class, the first of those that are left
abbrev pub is_scope_of : List SeenClass → SeenScope → Bool
is_scope_of kept seen = passes (λ class. class.node == seen.opener) (first kept)

-- a property, an accessor, a method or an index signature
abbrev pub is_element : AstType → Bool
is_element kinds.PropertyDefinition = true
is_element kinds.AccessorProperty = true
is_element kinds.MethodDefinition = true
is_element kinds.TSIndexSignature = true
is_element _ = false

-- each node from one id outward, as far as the node of another, with its parent
abbrev pub links_between : Sight → ℕ → ℕ → List (Node × Node)
links_between s from below = take_while (λ link. not (link.1.node_id == below)) (neighbours (onward (λ node. node.node_id == from) (nodes_outward s)))

-- going out from a node, the first element of the class is left through its value or its type
abbrev pub leaves_value : Sight → ℕ → ℕ → Bool
leaves_value s from class =
    passes (λ link. is_child_in roles.Value link.1 link.0 || is_child_in roles.Annotation link.1 link.0) (find (λ link. is_element link.1.kind) (links_between s from class))

-- ---- functions

-- the value of a method, a getter or a setter of an object
abbrev pub is_object_method : Node → Bool
is_object_method property =
    is kinds.ObjectProperty property && (has mark.Method property || (has_text (codes "get") property || has_text (codes "set") property))

-- a method of a class
abbrev pub is_method : Node → Bool
is_method member = is kinds.MethodDefinition member

-- what a function decides that is reached from its parent
abbrev pub function_verdict : Sight → Node × Node → Verdict
function_verdict s link =
    if is_child_in roles.Value link.1 link.0
    then (if is_object_method link.1 then allowed_unless_call
    else (if is_method link.1
    then (if not (is_call s) then allowed else (if has_text (codes "constructor") link.1 then allowed_in_derived else refused))
    else refused))
    else refused

-- what the function of a scope decides
abbrev pub scope_function_verdict : Sight → SeenScope → Verdict
scope_function_verdict s seen = unwrap_or (option_map (function_verdict s) (find (λ link. link.0.node_id == seen.opener) (links s))) refused

-- ---- the search

-- what a scope decides, if anything: with the kept classes, and the node that the search comes from
abbrev pub decides : Sight → List SeenClass → ℕ → SeenScope → Option Verdict
decides s kept from seen =
    if is_scope_of kept seen then (if leaves_value s from seen.opener then Some allowed_unless_call else None)
    else (if seen.is_static_block then Some allowed_unless_call
    else (if not seen.is_function || seen.is_arrow then None
    else Some (scope_function_verdict s seen)))

-- past the scope of the kept class, the class around it is kept
abbrev pub kept_after : List SeenClass → SeenScope → List SeenClass
kept_after kept seen = if is_scope_of kept seen then drop 1 kept else kept

-- the verdict of the first scope outward that decides, with the classes kept there
abbrev pub search_from : Sight → List SeenClass → ℕ → List SeenScope → Verdict × List SeenClass
search_from s kept from [] = (refused, kept)
search_from s kept from (seen ∷ rest) = unwrap_or (option_map (λ verdict. (verdict, kept)) (decides s kept from seen)) (search_from s (kept_after kept seen) seen.opener rest)

-- ---- rows

-- what is said of a `super` that stands wrong
abbrev pub refused_row : Sight → Option Node → Diagnostic
refused_row s None = unexpected_super_reference s.node.span
refused_row s (Some call) = unexpected_super_call call.span

-- a class without heritage has no constructor to call
abbrev pub derived_rows : Sight → List SeenClass → List Diagnostic
derived_rows s kept =
    rows_of_some (λ class. row_if (not (has_child roles.Heritage class)) (super_without_derived_class s.node.span class.span)) (option_and_then (λ class. node_by_id s class.node) (first kept))

-- what is said after the verdict
abbrev pub verdict_rows : Sight → Verdict × List SeenClass → List Diagnostic
verdict_rows s (allowed, kept) = []
verdict_rows s (allowed_unless_call, kept) = row_if (is_call s) (refused_row s (call_around s))
verdict_rows s (allowed_in_derived, kept) = derived_rows s kept
verdict_rows s (refused, kept) = refused_row s (call_around s) ∷ []

-- `super` stands in a method or a field, and its call in the constructor of a derived class (ECMAScript 15.7.1, 13.2.5.1, 15.2.1; TypeScript 2337)
abbrev pub check_super : Sight → List Diagnostic
check_super s = verdict_rows s (search_from s s.classes s.node.node_id s.scopes)
