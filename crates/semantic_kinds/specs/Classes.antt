-- What a child may be.
use Rattle.std.specs.Prelude.{ℕ, List, [], ◌∷◌, Bool, ◌||◌, ◌&&◌, codes}
use Rattle.std.specs.Str.{bytes_eq}
use Rattle.std.specs.List.{list_any}
use Rattle.semantic_kinds.specs.Kinds.{same_kind}
use Rattle.semantic_kinds.specs.declared.kind.AstType.{AstType}
use Rattle.semantic_kinds.specs.declared.kind.AstType.TheVariants as kind
use Rattle.semantic_kinds.specs.declared.class.Class.{Class}
use Rattle.semantic_kinds.specs.declared.class.Class.TheVariants as class

abbrev pub expression_kinds : List AstType
expression_kinds = kind.BooleanLiteral ∷ kind.NullLiteral ∷ kind.NumericLiteral ∷ kind.BigIntLiteral ∷ kind.RegExpLiteral ∷ kind.StringLiteral ∷ kind.TemplateLiteral ∷ kind.TaggedTemplateExpression ∷ kind.ThisExpression ∷ kind.MetaProperty ∷ kind.ArrayExpression ∷ kind.ObjectExpression ∷ kind.CallExpression ∷ kind.NewExpression ∷ kind.ImportExpression ∷ kind.ComputedMemberExpression ∷ kind.StaticMemberExpression ∷ kind.PrivateFieldExpression ∷ kind.ChainExpression ∷ kind.UnaryExpression ∷ kind.UpdateExpression ∷ kind.BinaryExpression ∷ kind.PrivateInExpression ∷ kind.LogicalExpression ∷ kind.ConditionalExpression ∷ kind.AssignmentExpression ∷ kind.SequenceExpression ∷ kind.ParenthesizedExpression ∷ kind.AwaitExpression ∷ kind.YieldExpression ∷ kind.ArrowFunctionExpression ∷ kind.TSAsExpression ∷ kind.TSSatisfiesExpression ∷ kind.TSTypeAssertion ∷ kind.TSNonNullExpression ∷ kind.TSInstantiationExpression ∷ kind.JSXElement ∷ kind.JSXFragment ∷ kind.IdentifierReference ∷ []

abbrev pub type_kinds : List AstType
type_kinds = kind.TSAnyKeyword ∷ kind.TSBigIntKeyword ∷ kind.TSBooleanKeyword ∷ kind.TSIntrinsicKeyword ∷ kind.TSNeverKeyword ∷ kind.TSNullKeyword ∷ kind.TSNumberKeyword ∷ kind.TSObjectKeyword ∷ kind.TSStringKeyword ∷ kind.TSSymbolKeyword ∷ kind.TSUndefinedKeyword ∷ kind.TSUnknownKeyword ∷ kind.TSVoidKeyword ∷ kind.TSThisType ∷ kind.JSDocUnknownType ∷ kind.TSArrayType ∷ kind.TSParenthesizedType ∷ kind.TSConditionalType ∷ kind.TSConstructorType ∷ kind.TSFunctionType ∷ kind.TSImportType ∷ kind.TSIndexedAccessType ∷ kind.TSInferType ∷ kind.TSIntersectionType ∷ kind.TSUnionType ∷ kind.TSLiteralType ∷ kind.TSMappedType ∷ kind.TSTemplateLiteralType ∷ kind.TSTupleType ∷ kind.TSTypeLiteral ∷ kind.TSTypeOperator ∷ kind.TSTypePredicate ∷ kind.TSTypeQuery ∷ kind.TSTypeReference ∷ kind.JSDocNullableType ∷ kind.JSDocNonNullableType ∷ []

abbrev pub declaration_kinds : List AstType
declaration_kinds = kind.VariableDeclaration ∷ kind.TSTypeAliasDeclaration ∷ kind.TSInterfaceDeclaration ∷ kind.TSEnumDeclaration ∷ kind.TSExternalModuleDeclaration ∷ kind.TSNamespaceDeclaration ∷ kind.TSGlobalDeclaration ∷ kind.TSImportEqualsDeclaration ∷ []

abbrev pub statement_kinds : List AstType
statement_kinds = kind.BlockStatement ∷ kind.EmptyStatement ∷ kind.DebuggerStatement ∷ kind.ExpressionStatement ∷ kind.IfStatement ∷ kind.DoWhileStatement ∷ kind.WhileStatement ∷ kind.ForStatement ∷ kind.ForInStatement ∷ kind.ForOfStatement ∷ kind.ContinueStatement ∷ kind.BreakStatement ∷ kind.ReturnStatement ∷ kind.WithStatement ∷ kind.SwitchStatement ∷ kind.LabeledStatement ∷ kind.ThrowStatement ∷ kind.TryStatement ∷ kind.ImportDeclaration ∷ kind.ExportDeclaration ∷ kind.ExportNamedDeclaration ∷ kind.ExportFromDeclaration ∷ kind.ExportDefaultDeclaration ∷ kind.ExportAllDeclaration ∷ kind.TSExportAssignment ∷ kind.TSNamespaceExportDeclaration ∷ kind.VariableDeclaration ∷ kind.TSTypeAliasDeclaration ∷ kind.TSInterfaceDeclaration ∷ kind.TSEnumDeclaration ∷ kind.TSExternalModuleDeclaration ∷ kind.TSNamespaceDeclaration ∷ kind.TSGlobalDeclaration ∷ kind.TSImportEqualsDeclaration ∷ []

abbrev pub holds_kind : List AstType → AstType → Bool
holds_kind kinds kind = list_any (λ k. same_kind k kind) kinds

-- a declaration; a function or class is one by its text
abbrev pub is_declaration : AstType → List ℕ → Bool
is_declaration k t = holds_kind declaration_kinds k || same_kind k kind.Function && (bytes_eq t (codes "declaration") || bytes_eq t (codes "ts-declare")) || same_kind k kind.Class && bytes_eq t (codes "declaration")

abbrev pub is_kind_of_statement : AstType → List ℕ → Bool
is_kind_of_statement k t = holds_kind statement_kinds k || is_declaration k t

-- an expression; a function or class is one by its text
abbrev pub is_expression : AstType → List ℕ → Bool
is_expression k t = holds_kind expression_kinds k || same_kind k kind.Function && bytes_eq t (codes "expression") || same_kind k kind.Class && bytes_eq t (codes "expression")

abbrev pub is_type : AstType → Bool
is_type k = holds_kind type_kinds k

-- a member expression
abbrev pub is_member : AstType → Bool
is_member k = same_kind k kind.ComputedMemberExpression || same_kind k kind.StaticMemberExpression || same_kind k kind.PrivateFieldExpression

-- a literal
abbrev pub is_literal : AstType → Bool
is_literal k = same_kind k kind.BooleanLiteral || same_kind k kind.NullLiteral || same_kind k kind.NumericLiteral || same_kind k kind.BigIntLiteral || same_kind k kind.RegExpLiteral || same_kind k kind.StringLiteral || same_kind k kind.TemplateLiteral

-- a name of an import or export
abbrev pub is_module_name : AstType → Bool
is_module_name k = same_kind k kind.IdentifierName || same_kind k kind.StringLiteral

-- a key of a member
abbrev pub is_key : AstType → List ℕ → Bool
is_key k t = same_kind k kind.IdentifierName || same_kind k kind.PrivateIdentifier || is_expression k t

-- a name of a type
abbrev pub is_type_name : AstType → Bool
is_type_name k = same_kind k kind.IdentifierReference || same_kind k kind.TSQualifiedName || same_kind k kind.ThisExpression

-- a binding pattern
abbrev pub is_pattern : AstType → Bool
is_pattern k = same_kind k kind.BindingIdentifier || same_kind k kind.ObjectPattern || same_kind k kind.ArrayPattern || same_kind k kind.AssignmentPattern

-- a target that takes one value
abbrev pub is_simple_target : AstType → Bool
is_simple_target k = same_kind k kind.IdentifierReference || is_member k || same_kind k kind.TSAsExpression || same_kind k kind.TSSatisfiesExpression || same_kind k kind.TSTypeAssertion || same_kind k kind.TSNonNullExpression

-- a target of an assignment
abbrev pub is_target : AstType → Bool
is_target k = is_simple_target k || same_kind k kind.ObjectAssignmentTarget || same_kind k kind.ArrayAssignmentTarget

-- a target, maybe with a default
abbrev pub is_target_or_default : AstType → Bool
is_target_or_default k = is_target k || same_kind k kind.AssignmentTargetWithDefault

-- a member of a type literal or interface
abbrev pub is_signature : AstType → Bool
is_signature k = same_kind k kind.TSCallSignatureDeclaration || same_kind k kind.TSConstructSignatureDeclaration || same_kind k kind.TSPropertySignature || same_kind k kind.TSMethodSignature || same_kind k kind.TSIndexSignature

-- a child of a JSX element
abbrev pub is_jsx_child : AstType → Bool
is_jsx_child k = same_kind k kind.JSXText || same_kind k kind.JSXElement || same_kind k kind.JSXFragment || same_kind k kind.JSXExpressionContainer || same_kind k kind.JSXSpreadChild

-- a name of a JSX element
abbrev pub is_jsx_name : AstType → Bool
is_jsx_name k = same_kind k kind.JSXIdentifier || same_kind k kind.IdentifierReference || same_kind k kind.JSXNamespacedName || same_kind k kind.JSXMemberExpression || same_kind k kind.ThisExpression

-- how a `for` begins
abbrev pub is_for_init : AstType → List ℕ → Bool
is_for_init k t = same_kind k kind.VariableDeclaration || is_expression k t

-- the left of a `for in` or `for of`
abbrev pub is_loop_left : AstType → Bool
is_loop_left k = same_kind k kind.VariableDeclaration || is_target k

-- an element of a class
abbrev pub is_class_element : AstType → Bool
is_class_element k = same_kind k kind.MethodDefinition || same_kind k kind.PropertyDefinition || same_kind k kind.AccessorProperty || same_kind k kind.StaticBlock || same_kind k kind.TSIndexSignature

-- a specifier of an import
abbrev pub is_import_clause : AstType → Bool
is_import_clause k = same_kind k kind.ImportSpecifier || same_kind k kind.ImportDefaultSpecifier || same_kind k kind.ImportNamespaceSpecifier

-- what `export default` takes
abbrev pub is_default_export : AstType → List ℕ → Bool
is_default_export k t = is_expression k t || same_kind k kind.Function || same_kind k kind.Class || same_kind k kind.TSInterfaceDeclaration

-- the local name of an export
abbrev pub is_export_local : AstType → Bool
is_export_local k = same_kind k kind.IdentifierReference || is_module_name k

-- an item of an array
abbrev pub is_array_item : AstType → List ℕ → Bool
is_array_item k t = is_expression k t || same_kind k kind.SpreadElement || same_kind k kind.Elision

-- an item of an object
abbrev pub is_object_item : AstType → Bool
is_object_item k = same_kind k kind.ObjectProperty || same_kind k kind.SpreadElement

-- an argument of a call
abbrev pub is_argument : AstType → List ℕ → Bool
is_argument k t = is_expression k t || same_kind k kind.SpreadElement

-- an expression or `super`
abbrev pub is_callee : AstType → List ℕ → Bool
is_callee k t = is_expression k t || same_kind k kind.Super

-- what an optional chain holds
abbrev pub is_chain_element : AstType → Bool
is_chain_element k = same_kind k kind.CallExpression || same_kind k kind.TSNonNullExpression || is_member k

-- the body of an arrow
abbrev pub is_arrow_body : AstType → List ℕ → Bool
is_arrow_body k t = same_kind k kind.FunctionBody || is_expression k t

-- a property of an object target
abbrev pub is_target_property : AstType → Bool
is_target_property k = same_kind k kind.AssignmentTargetPropertyIdentifier || same_kind k kind.AssignmentTargetPropertyProperty

-- an attribute or a spread
abbrev pub is_jsx_attribute_item : AstType → Bool
is_jsx_attribute_item k = same_kind k kind.JSXAttribute || same_kind k kind.JSXSpreadAttribute

-- the name of an attribute
abbrev pub is_jsx_attribute_name : AstType → Bool
is_jsx_attribute_name k = same_kind k kind.JSXIdentifier || same_kind k kind.JSXNamespacedName

-- the value of an attribute
abbrev pub is_jsx_attribute_value : AstType → Bool
is_jsx_attribute_value k = same_kind k kind.StringLiteral || same_kind k kind.JSXExpressionContainer || same_kind k kind.JSXElement || same_kind k kind.JSXFragment

-- what JSX braces hold
abbrev pub is_jsx_content : AstType → List ℕ → Bool
is_jsx_content k t = is_expression k t || same_kind k kind.JSXEmptyExpression

-- the object of a JSX member
abbrev pub is_jsx_object : AstType → Bool
is_jsx_object k = same_kind k kind.IdentifierReference || same_kind k kind.JSXMemberExpression || same_kind k kind.ThisExpression

-- a qualifier of an import type
abbrev pub is_import_qualifier : AstType → Bool
is_import_qualifier k = same_kind k kind.IdentifierName || same_kind k kind.TSImportTypeQualifiedName

-- what a literal type holds
abbrev pub is_type_literal_value : AstType → Bool
is_type_literal_value k = is_literal k || same_kind k kind.UnaryExpression

-- an element of a tuple type
abbrev pub is_tuple_item : AstType → Bool
is_tuple_item k = is_type k || same_kind k kind.TSNamedTupleMember || same_kind k kind.TSOptionalType || same_kind k kind.TSRestType

-- what a rest type holds
abbrev pub is_rest_item : AstType → Bool
is_rest_item k = is_type k || same_kind k kind.TSNamedTupleMember

-- what a type predicate speaks of
abbrev pub is_predicate_name : AstType → Bool
is_predicate_name k = same_kind k kind.IdentifierName || same_kind k kind.TSThisType

-- what a type query asks of
abbrev pub is_query_name : AstType → Bool
is_query_name k = is_type_name k || same_kind k kind.TSImportType

-- the name of an enum member
abbrev pub is_enum_member_name : AstType → Bool
is_enum_member_name k = is_module_name k || same_kind k kind.TemplateLiteral

-- the body of a namespace
abbrev pub is_namespace_body : AstType → Bool
is_namespace_body k = same_kind k kind.TSModuleBlock || same_kind k kind.TSNamespaceDeclaration

-- what `import =` takes
abbrev pub is_import_equals_target : AstType → Bool
is_import_equals_target k = same_kind k kind.IdentifierReference || same_kind k kind.TSQualifiedName || same_kind k kind.TSExternalModuleReference

-- a node of this kind and text is of the class
abbrev pub is_of : Class → AstType → List ℕ → Bool
is_of class.Statement k t = is_kind_of_statement k t
is_of class.Declaration k t = is_declaration k t
is_of class.Expression k t = is_expression k t
is_of class.Type k t = is_type k
is_of class.Member k t = is_member k
is_of class.Literal k t = is_literal k
is_of class.ModuleName k t = is_module_name k
is_of class.Key k t = is_key k t
is_of class.TypeName k t = is_type_name k
is_of class.Pattern k t = is_pattern k
is_of class.SimpleTarget k t = is_simple_target k
is_of class.Target k t = is_target k
is_of class.TargetOrDefault k t = is_target_or_default k
is_of class.Signature k t = is_signature k
is_of class.JsxChild k t = is_jsx_child k
is_of class.JsxName k t = is_jsx_name k
is_of class.ForInit k t = is_for_init k t
is_of class.LoopLeft k t = is_loop_left k
is_of class.ClassElement k t = is_class_element k
is_of class.ImportClause k t = is_import_clause k
is_of class.DefaultExport k t = is_default_export k t
is_of class.ExportLocal k t = is_export_local k
is_of class.ArrayItem k t = is_array_item k t
is_of class.ObjectItem k t = is_object_item k
is_of class.Argument k t = is_argument k t
is_of class.Callee k t = is_callee k t
is_of class.ChainElement k t = is_chain_element k
is_of class.ArrowBody k t = is_arrow_body k t
is_of class.TargetProperty k t = is_target_property k
is_of class.JsxAttributeItem k t = is_jsx_attribute_item k
is_of class.JsxAttributeName k t = is_jsx_attribute_name k
is_of class.JsxAttributeValue k t = is_jsx_attribute_value k
is_of class.JsxContent k t = is_jsx_content k t
is_of class.JsxObject k t = is_jsx_object k
is_of class.ImportQualifier k t = is_import_qualifier k
is_of class.TypeLiteralValue k t = is_type_literal_value k
is_of class.TupleItem k t = is_tuple_item k
is_of class.RestItem k t = is_rest_item k
is_of class.PredicateName k t = is_predicate_name k
is_of class.QueryName k t = is_query_name k
is_of class.EnumMemberName k t = is_enum_member_name k
is_of class.NamespaceBody k t = is_namespace_body k
is_of class.ImportEqualsTarget k t = is_import_equals_target k
is_of (class.Only kind) k t = same_kind k kind
