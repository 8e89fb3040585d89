-- Rows on expressions.
use Rattle.std.specs.Prelude.{List, [], ◌∷◌, ◌++◌, Bool, Option, Some, None, ◌&&◌, ◌||◌, not, if◌then◌else◌, codes}
use Rattle.std.specs.List.{flat_map, filter_map, find}
use Rattle.std.specs.Option.{option_and_then}
use Rattle.std.specs.Str.{bytes_eq}
use Rattle.semantic_kinds.specs.declared.kind.AstType.{AstType}
use Rattle.semantic_tree.specs.declared.node.Node.{Node}
use Rattle.check_model.specs.Groups.{is_function}
use Rattle.semantic_tree.specs.Views.{is, has, has_text, all_in, child_of}
use Rattle.semantic_tree.specs.Unwrapped.{inner_expression}
use Rattle.semantic_tree.specs.KeyNames.{static_name}
use Rattle.semantic_diagnostics.specs.declared.diagnostic.Diagnostic.{Diagnostic}
use Rattle.semantic_diagnostics.specs.Names.{redeclaration, class_static_block_await}
use Rattle.semantic_diagnostics.specs.Functions.{delete_of_unqualified, delete_private_field, await_or_yield_in_parameter}
use Rattle.check_model.specs.Sight.{Sight}
use Rattle.check_model.specs.Search.{row_if, rows_if, rows_of_some, passes, neighbours}
use Rattle.check_model.specs.Surroundings.{is_strict, links, is_in_static_block, first_bytes}
use Rattle.semantic_kinds.specs.declared.kind.AstType.TheVariants as kinds
use Rattle.semantic_kinds.specs.declared.role.Role.TheVariants as roles
use Rattle.semantic_kinds.specs.declared.mark.Mark.TheVariants as mark

-- ---- objects

-- a property that is written out: a key, a colon and a value
abbrev pub is_written_out : Node → Bool
is_written_out property =
    is kinds.ObjectProperty property
    && (has_text (codes "init") property && not (has mark.Method property || (has mark.Shorthand property || has mark.Computed property)))

-- the key is named `__proto__`
abbrev pub is_proto : Node → Bool
is_proto key = passes (λ name. bytes_eq name (codes "__proto__")) (static_name key)

-- the key, if it is named so
abbrev pub named_proto : Node → Option Node
named_proto key = if is_proto key then Some key else None

-- the key of a property that sets the prototype
abbrev pub proto_key : Node → Option Node
proto_key property = if is_written_out property then option_and_then named_proto (child_of roles.Key property) else None

-- what is said of two keys that set the prototype
abbrev pub proto_rows : Node × Node → List Diagnostic
proto_rows pair = redeclaration (codes "__proto__") pair.0.span pair.1.span ∷ []

-- an object sets its prototype once (ECMAScript 13.2.5.1)
abbrev pub check_object_expression : Sight → List Diagnostic
check_object_expression s = flat_map proto_rows (neighbours (filter_map proto_key (all_in roles.Properties s.node)))

-- ---- delete

-- what a chain holds
abbrev pub chained_rows : Node → List Diagnostic
chained_rows member =
    rows_if (is kinds.PrivateFieldExpression member) (rows_of_some (λ field. delete_private_field field.span ∷ []) (child_of roles.Field member))

-- what is deleted, without parentheses and wrappers
abbrev pub deleted_rows : Sight → AstType → Node → List Diagnostic
deleted_rows s kinds.IdentifierReference operand = row_if (is_strict s) (delete_of_unqualified operand.span)
deleted_rows s kinds.PrivateFieldExpression operand = delete_private_field operand.span ∷ []
deleted_rows s kinds.ChainExpression operand = rows_of_some chained_rows (child_of roles.Expression operand)
deleted_rows s _ operand = []

-- the same, by the kind of what is deleted
abbrev pub operand_rows : Sight → Node → List Diagnostic
operand_rows s operand = deleted_rows s operand.kind operand

-- strict code deletes no name, and no code deletes a private member (ECMAScript 13.5.1.1)
abbrev pub check_unary_expression : Sight → List Diagnostic
check_unary_expression s =
    rows_if (has_text (codes "delete") s.node) (rows_of_some (λ argument. operand_rows s (inner_expression argument)) (child_of roles.Argument s.node))

-- ---- await and yield

-- the parent is a parameter, or the child is a rest and its parent a rest parameter
abbrev pub enters_parameter : Node × Node → Bool
enters_parameter link = is kinds.FormalParameter link.1 || (is kinds.BindingRestElement link.0 && is kinds.FormalParameterRest link.1)

-- going outward, a parameter comes before any function
abbrev pub is_in_parameter : Sight → Bool
is_in_parameter s = passes enters_parameter (find (λ link. enters_parameter link || is_function link.1.kind) (links s))

-- parameters and static blocks don't await (ECMAScript 15.8.1, 15.9.1, 15.7.1)
abbrev pub check_await_expression : Sight → List Diagnostic
check_await_expression s =
    row_if (is_in_parameter s) (await_or_yield_in_parameter (codes "await") s.node.span)
    ++ row_if (is_in_static_block s) (class_static_block_await (first_bytes 5 s.node.span))

-- parameters don't yield (ECMAScript 15.5.1)
abbrev pub check_yield_expression : Sight → List Diagnostic
check_yield_expression s = row_if (is_in_parameter s) (await_or_yield_in_parameter (codes "yield") s.node.span)
