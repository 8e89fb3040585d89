-- Rows on types.
use Rattle.std.specs.Prelude.{ℕ, ◌+◌, ◌-◌, List, [], ◌∷◌, ◌++◌, Bool, true, false, Option, Some, None, ◌&&◌, not, if◌then◌else◌, nat_le, codes}
use Rattle.std.specs.List.{list_any}
use Rattle.std.specs.Option.{option_and_then}
use Rattle.semantic_syntax.specs.declared.spans.Span.{Span}
use Rattle.semantic_kinds.specs.declared.kind.AstType.{AstType}
use Rattle.semantic_tree.specs.declared.node.Node.{Node}
use Rattle.semantic_tree.specs.Views.{is, has, has_text, child_of, whose, all_in, has_child}
use Rattle.semantic_tree.specs.Unwrapped.{without_parentheses}
use Rattle.semantic_kinds.specs.Classes.{is_member}
use Rattle.semantic_diagnostics.specs.declared.diagnostic.Diagnostic.{Diagnostic}
use Rattle.semantic_diagnostics.specs.Functions.{type_predicate_only_in_return_type}
use Rattle.semantic_diagnostics.specs.Types.{jsdoc_type_in_annotation, infer_declaration_only_permitted_in_extends_clause, enum_member_must_have_initializer}
use Rattle.check_model.specs.Sight.{Sight}
use Rattle.check_model.specs.Search.{row_if, rows_if, rows_of_some, first, each_after, find_last}
use Rattle.check_model.specs.Surroundings.{text_under}
use Rattle.semantic_kinds.specs.declared.kind.AstType.TheVariants as kinds
use Rattle.semantic_kinds.specs.declared.role.Role.TheVariants as roles
use Rattle.semantic_kinds.specs.declared.mark.Mark.TheVariants as mark

-- ---- JSDoc types

-- the span without the mark, which is its first byte or its last
abbrev pub unmarked : Bool → Span → Span
unmarked true span = record { start = span.start + 1; end = span.end }
unmarked false span = record { start = span.start; end = span.end - 1 }

-- the mark stands in front
abbrev pub is_at_start : Node → Bool
is_at_start node = not (has mark.Postfix node)

-- the source text without the mark
abbrev pub unmarked_text : Sight → Node → List ℕ
unmarked_text s node = text_under s (unmarked (is_at_start node) node.span)

-- the JSDoc type and what TypeScript has for it
abbrev pub jsdoc_rows : Sight → AstType → Node → List Diagnostic
jsdoc_rows s kinds.JSDocNullableType node = jsdoc_type_in_annotation 63 (is_at_start node) node.span (unmarked_text s node ++ codes " | null | undefined") ∷ []
jsdoc_rows s kinds.JSDocNonNullableType node = jsdoc_type_in_annotation 33 (is_at_start node) node.span (unmarked_text s node) ∷ []
jsdoc_rows s _ node = []

-- an annotation is no `?` or `!` type of JSDoc (TypeScript 17019, 17020)
abbrev pub check_ts_type_annotation : Sight → List Diagnostic
check_ts_type_annotation s = rows_of_some (λ node. jsdoc_rows s node.kind node) (child_of roles.Element s.node)

-- ---- type predicates

-- a function is neither a getter, a setter nor a constructor
abbrev pub is_plain_value : Option Node → Bool
is_plain_value None = true
is_plain_value (Some parent) =
    if is kinds.MethodDefinition parent then has_text (codes "method") parent
    else (if is kinds.ObjectProperty parent then has_text (codes "init") parent else true)

-- what is annotated may return a type predicate
abbrev pub may_return_predicate : AstType → Node → List Node → Bool
may_return_predicate kinds.ArrowFunctionExpression node above = true
may_return_predicate kinds.TSFunctionType node above = true
may_return_predicate kinds.TSCallSignatureDeclaration node above = true
may_return_predicate kinds.TSMethodSignature node above = has_text (codes "method") node
may_return_predicate kinds.Function node above = is_plain_value (first above)
may_return_predicate _ node above = false

-- the path is that of a returned type
abbrev pub is_predicate_path : List Node → Bool
is_predicate_path (annotation ∷ node ∷ above) = is kinds.TSTypeAnnotation annotation && may_return_predicate node.kind node above
is_predicate_path _ = false

-- a type predicate stands where a function's or a method's type is returned (TypeScript 1228)
abbrev pub check_ts_type_predicate : Sight → List Diagnostic
check_ts_type_predicate s = row_if (not (is_predicate_path s.path)) (type_predicate_only_in_return_type s.node.span)

-- ---- infer

-- the outer span holds the inner one
abbrev pub span_holds : Span → Span → Bool
span_holds outer inner = nat_le outer.start inner.start && nat_le inner.end outer.end

-- a conditional type that extends something around the span
abbrev pub extends_over : Span → Node → Bool
extends_over span node = is kinds.TSConditionalType node && whose roles.Extends (λ extended. span_holds extended.span span) node

-- `infer` stands in what a conditional type extends (TypeScript 1338)
abbrev pub check_ts_infer_type : Sight → List Diagnostic
check_ts_infer_type s = row_if (not (list_any (extends_over s.node.span) s.path)) (infer_declaration_only_permitted_in_extends_clause s.node.span)

-- ---- enums

-- a number or a computed value, after which TypeScript can count on
abbrev pub is_countable : AstType → Bool
is_countable kinds.NumericLiteral = true
is_countable kinds.IdentifierReference = true
is_countable kinds.BinaryExpression = true
is_countable kinds.UnaryExpression = true
is_countable kind = is_member kind

-- the same, of what stands in parentheses too
abbrev pub counts_on : Node → Bool
counts_on initializer = is_countable (without_parentheses initializer).kind

-- the last initializer before a member
abbrev pub last_initializer : List Node → Option Node
last_initializer earlier = option_and_then (child_of roles.Initializer) (find_last (has_child roles.Initializer) earlier)

-- a member has an initializer, or follows one after which TypeScript can count on
abbrev pub member_rows : List Node → Node → List Diagnostic
member_rows earlier member =
    rows_if (not (has_child roles.Initializer member)) (rows_of_some (λ before. row_if (not (counts_on before)) (enum_member_must_have_initializer member.span)) (last_initializer earlier))

-- the same of each member
abbrev pub enum_rows : Node → List Diagnostic
enum_rows body = each_after member_rows [] (all_in roles.Members body)

-- a member without initializer follows one after which TypeScript can count on (TypeScript 1061)
abbrev pub check_ts_enum_declaration : Sight → List Diagnostic
check_ts_enum_declaration s = rows_of_some enum_rows (child_of roles.Body s.node)
