-- Rows on names.
use Rattle.std.specs.Prelude.{ℕ, List, [], ◌∷◌, ◌++◌, Bool, true, false, Option, ◌&&◌, ◌||◌, not, if◌then◌else◌, codes, is_none}
use Rattle.std.specs.List.{find, list_any}
use Rattle.std.specs.Str.{bytes_eq}
use Rattle.semantic_syntax.specs.declared.spans.Span.{Span}
use Rattle.semantic_kinds.specs.declared.kind.AstType.{AstType}
use Rattle.semantic_tree.specs.declared.node.Node.{Node}
use Rattle.semantic_kinds.specs.Classes.{is_member}
use Rattle.semantic_tree.specs.Views.{is, is_child_in, has_text, whose}
use Rattle.semantic_diagnostics.specs.declared.diagnostic.Diagnostic.{Diagnostic}
use Rattle.semantic_diagnostics.specs.declared.contexts.ReservedKeywordContext.{ReservedKeywordContext}
use Rattle.semantic_diagnostics.specs.declared.contexts.UnexpectedIdentifierAssignContext.{UnexpectedIdentifierAssignContext}
use Rattle.semantic_diagnostics.specs.Names.{reserved_keyword, class_static_block_await, unexpected_identifier_assign, invalid_let_declaration, unexpected_arguments, private_not_in_class}
use Rattle.check_model.specs.Sight.{Sight}
use Rattle.check_model.specs.Search.{row_if, rows_if, rows_of_some, passes, first, find_before}
use Rattle.check_model.specs.Surroundings.{is_in_class, is_strict, is_module, is_definition, scope_passes, is_under, parent_passes, links}
use Rattle.semantic_kinds.specs.declared.kind.AstType.TheVariants as kinds
use Rattle.semantic_kinds.specs.declared.role.Role.TheVariants as roles
use Rattle.semantic_diagnostics.specs.declared.contexts.ReservedKeywordContext.TheVariants as reserved
use Rattle.semantic_diagnostics.specs.declared.contexts.UnexpectedIdentifierAssignContext.TheVariants as assigned

-- ---- identifiers

-- the words that strict code reserves
abbrev pub strict_reserved_words : List (List ℕ)
strict_reserved_words = codes "implements" ∷ codes "interface" ∷ codes "let" ∷ codes "package" ∷ codes "private" ∷ codes "protected" ∷ codes "public" ∷ codes "static" ∷ codes "yield" ∷ []

-- strict code reserves the name
abbrev pub is_strict_reserved : List ℕ → Bool
is_strict_reserved name = list_any (bytes_eq name) strict_reserved_words

-- why a word is reserved here
abbrev pub reserved_because : Sight → ReservedKeywordContext
reserved_because s = if is_in_class s then reserved.Class else (if is_module s then reserved.Module else reserved.StrictMode)

-- why nothing may be assigned to a name here
abbrev pub not_assigned_because : Sight → UnexpectedIdentifierAssignContext
not_assigned_because s = if is_in_class s then assigned.Class else (if is_module s then assigned.Module else assigned.StrictMode)

-- `await` is no name in a module or directly in a static block (ECMAScript 13.1.1, 15.7.1)
abbrev pub await_rows : List ℕ → Span → Sight → List Diagnostic
await_rows name span s =
    if is_module s then reserved_keyword name span reserved.ModuleAwait ∷ []
    else row_if (scope_passes (λ seen. seen.is_static_block) s) (class_static_block_await span)

-- reserved words are no names, except in ambient code (ECMAScript 13.1.1, 12.7.2)
abbrev pub check_identifier : List ℕ → Span → Sight → List Diagnostic
check_identifier name span s =
    rows_if (not s.is_ambient)
    (if bytes_eq name (codes "await") then await_rows name span s
    else row_if (is_strict_reserved name && is_strict s) (reserved_keyword name span (reserved_because s)))

-- one of the two names that strict code protects
abbrev pub is_eval_or_arguments : List ℕ → Bool
is_eval_or_arguments name = bytes_eq name (codes "eval") || bytes_eq name (codes "arguments")

-- ---- binding identifiers

-- a part of a pattern or a declarator
abbrev pub is_pattern_part : AstType → Bool
is_pattern_part kinds.VariableDeclarator = true
is_pattern_part kinds.BindingProperty = true
is_pattern_part kinds.ArrayPattern = true
is_pattern_part kinds.AssignmentPattern = true
is_pattern_part kinds.BindingRestElement = true
is_pattern_part _ = false

-- the node above the parent is of the kind
abbrev pub is_second_under : AstType → List Node → Bool
is_second_under kind [] = false
is_second_under kind (parent ∷ []) = false
is_second_under kind (parent ∷ above ∷ rest) = is kind above

-- the name is that of a parameter, the rest one included, or of a declaration without pattern
abbrev pub is_plain_binding : Sight → Bool
is_plain_binding s =
    (is_under kinds.BindingRestElement s && is_second_under kinds.FormalParameterRest s.path)
    || not (parent_passes s (λ node. is_pattern_part node.kind))

-- strict code doesn't bind `eval` and `arguments` (ECMAScript 13.1.1)
abbrev pub eval_binding_rows : Sight → List Diagnostic
eval_binding_rows s =
    row_if (is_eval_or_arguments s.node.text && is_strict s && not (s.is_ambient && is_plain_binding s))
    (unexpected_identifier_assign s.node.text s.node.span (not_assigned_because s))

-- the innermost variable declaration around the node in its function
abbrev pub declaration_around : Sight → Option Node
declaration_around s = find_before (is kinds.Function) (is kinds.VariableDeclaration) s.path

-- a lexical declaration doesn't bind `let` (ECMAScript 14.3.1.1)
abbrev pub let_rows : Sight → List Diagnostic
let_rows s =
    rows_if (bytes_eq s.node.text (codes "let") && not (is_strict s))
    (rows_of_some (λ declaration. row_if (not (has_text (codes "var") declaration)) (invalid_let_declaration declaration.text s.node.span)) (declaration_around s))

-- what a binding identifier may not be called, except in a definition file
abbrev pub check_binding_identifier : Sight → List Diagnostic
check_binding_identifier s = rows_if (not (is_definition s)) (eval_binding_rows s ++ let_rows s)

-- ---- identifier references

-- a part of an assignment target, or an update
abbrev pub is_updated_target : AstType → Bool
is_updated_target kinds.ObjectAssignmentTarget = true
is_updated_target kinds.ArrayAssignmentTarget = true
is_updated_target kinds.AssignmentTargetPropertyIdentifier = true
is_updated_target kinds.UpdateExpression = true
is_updated_target _ = false

-- an assignment to the name itself
abbrev pub assigns_to : List ℕ → Node → Bool
assigns_to name node =
    is kinds.AssignmentExpression node && whose roles.Left (λ left. is kinds.IdentifierReference left && has_text name left) node

-- what stands around a name writes to it: a target, an update, or an assignment to the name
abbrev pub writes_to : List ℕ → Node → Bool
writes_to name node = is_updated_target node.kind || assigns_to name node

-- going outward, a write comes before any member expression
abbrev pub is_write_outward : Sight → Bool
is_write_outward s = passes (λ node. not (is_member node.kind)) (find (λ node. is_member node.kind || writes_to s.node.text node) s.path)

-- strict code doesn't write to `eval` and `arguments` (ECMAScript 13.1.3, 13.15.1)
abbrev pub is_bad_write : Sight → Bool
is_bad_write s = is_eval_or_arguments s.node.text && is_strict s && is_write_outward s

-- the child is the value of a property of a class
abbrev pub is_field_value : Node × Node → Bool
is_field_value link = is kinds.PropertyDefinition link.1 && is_child_in roles.Value link.1 link.0

-- the parent is a static block
abbrev pub is_static_block : Node × Node → Bool
is_static_block link = is kinds.StaticBlock link.1

-- `arguments` belongs to what is found first going outward: a function, the value of a field, or a static block
abbrev pub owner_of_arguments : Sight → Option (Node × Node)
owner_of_arguments s = find (λ link. is kinds.Function link.1 || (is_field_value link || is_static_block link)) (links s)

-- fields and static blocks have no `arguments` (ECMAScript 15.7.1, ContainsArguments)
abbrev pub arguments_rows : Sight → List Diagnostic
arguments_rows s =
    rows_of_some (λ link.
    row_if (is_field_value link) (unexpected_arguments (codes "class field initializer") s.node.span)
    ++ row_if (is_static_block link) (unexpected_arguments (codes "static initialization block") s.node.span)) (owner_of_arguments s)

-- what an identifier reference may not mean, except in a definition file
abbrev pub check_identifier_reference : Sight → List Diagnostic
check_identifier_reference s =
    rows_if (not (is_definition s))
    (if is_bad_write s then unexpected_identifier_assign s.node.text s.node.span (not_assigned_because s) ∷ []
    else rows_if (bytes_eq s.node.text (codes "arguments")) (arguments_rows s))

-- ---- private names

-- private names stand in class bodies alone (ECMAScript 16.1.1, AllPrivateIdentifiersValid)
abbrev pub check_private_identifier_outside_class : Sight → List Diagnostic
check_private_identifier_outside_class s = row_if (is_none (first s.classes)) (private_not_in_class s.node.text s.node.span)
