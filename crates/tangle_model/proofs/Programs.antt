-- Trees of small programs.
use Rattle.std.specs.Prelude.{ℕ, List, [], ◌∷◌, codes}
use Rattle.semantic_syntax.specs.declared.source_type.Goal.TheVariants as goal
use Rattle.semantic_syntax.specs.declared.source_type.Lang.{Lang}
use Rattle.semantic_syntax.specs.declared.source_type.Lang.TheVariants as lang
use Rattle.semantic_kinds.specs.declared.kind.AstType.TheVariants as kind
use Rattle.semantic_kinds.specs.declared.role.Role.TheVariants as role
use Rattle.semantic_kinds.specs.declared.mark.Mark.TheVariants as mark
use Rattle.semantic_tree.specs.Forest.{Forest}
use Rattle.semantic_tree.specs.Tree.{Tree}
use Rattle.tangle_model.proofs.ProgramTrees.{marked, node, program, binding, block, catch_clause, declarator, declared, expression, function, function_body, function_parts, in_parentheses, mention, named_expression, namespace, number, parameter, parameters, reference, statement, variable, alias, conditional, infer, pair, type_named, type_parameter, type_query}

-- `{ function f() {} } { function f() {} } f`
abbrev pub two_blocks : Tree
two_blocks =
    program goal.Script lang.Js
    (block role.Body (function role.Body (codes "f") [] [] ∷ [])
    ∷ block role.Body (function role.Body (codes "f") [] [] ∷ [])
    ∷ mention (codes "f")
    ∷ [])

-- `{ function f() {} } f`
abbrev pub one_block : Tree
one_block = program goal.Script lang.Js (block role.Body (function role.Body (codes "f") [] [] ∷ []) ∷ mention (codes "f") ∷ [])

-- `function g() { { function f() {} } } { function f() {} }`
abbrev pub two_homes : Tree
two_homes =
    program goal.Script lang.Js
    (function role.Body (codes "g") [] (block role.Body (function role.Body (codes "f") [] [] ∷ []) ∷ [])
    ∷ block role.Body (function role.Body (codes "f") [] [] ∷ [])
    ∷ [])

-- `"use strict"; { function f() {} } { function f() {} }`
abbrev pub strict_blocks : Tree
strict_blocks =
    program goal.Script lang.Js
    (node role.Directives kind.Directive (codes "use strict") (node role.Expression kind.StringLiteral (codes "use strict") [] ∷ [])
    ∷ block role.Body (function role.Body (codes "f") [] [] ∷ [])
    ∷ block role.Body (function role.Body (codes "f") [] [] ∷ [])
    ∷ [])

-- `{ async function f() {} } { function* f() {} }`
abbrev pub special_blocks : Tree
special_blocks =
    program goal.Script lang.Js
    (block role.Body (marked (mark.Async ∷ []) role.Body kind.Function (codes "declaration") (function_parts (codes "f") [] []) ∷ [])
    ∷ block role.Body (marked (mark.Generator ∷ []) role.Body kind.Function (codes "declaration") (function_parts (codes "f") [] []) ∷ [])
    ∷ [])

-- `var a; { function a() {} }`
abbrev pub block_and_var : Tree
block_and_var = program goal.Script lang.Js (variable (codes "var") (codes "a") ∷ block role.Body (function role.Body (codes "a") [] [] ∷ []) ∷ [])

-- `function f(a) { if (1) function a() {} }`
abbrev pub if_and_parameter : Tree
if_and_parameter =
    program goal.Script lang.Js
    (function role.Body (codes "f") (parameter (codes "a") ∷ [])
    (node role.Body kind.IfStatement [] (number role.Test (codes "1") ∷ function role.Consequent (codes "a") [] [] ∷ []) ∷ [])
    ∷ [])

-- `(function f() { { function f() {} } })`
abbrev pub block_and_own_name : Tree
block_and_own_name =
    program goal.Script lang.Js
    (statement
    (in_parentheses role.Expression
    (named_expression role.Expression (codes "f") [] (block role.Body (function role.Body (codes "f") [] [] ∷ []) ∷ [])))
    ∷ [])

-- `switch (0) { case 0: l: function a() {} } for (let a;;);`
abbrev pub case_and_let : Tree
case_and_let =
    program goal.Script lang.Js
    (node role.Body kind.SwitchStatement []
    (number role.Discriminant (codes "0")
    ∷ node role.Cases kind.SwitchCase []
    (number role.Test (codes "0")
    ∷ node role.Consequent kind.LabeledStatement [] (node role.Label kind.LabelIdentifier (codes "l") [] ∷ function role.Body (codes "a") [] [] ∷ [])
    ∷ [])
    ∷ [])
    ∷ node role.Body kind.ForStatement []
    (declared role.Init (codes "let") (binding role.Id (codes "a") ∷ []) ∷ node role.Body kind.EmptyStatement [] [] ∷ [])
    ∷ [])

-- `try {} catch ({ a }) { { function a() {} } }`
abbrev pub block_and_catch : Tree
block_and_catch =
    program goal.Script lang.Js
    (node role.Body kind.TryStatement []
    (block role.Block []
    ∷ catch_clause role.Handler
    (node role.Pattern kind.ObjectPattern []
    (marked (mark.Shorthand ∷ []) role.Properties kind.BindingProperty []
    (node role.Key kind.IdentifierName (codes "a") [] ∷ binding role.Value (codes "a") ∷ [])
    ∷ []))
    (block role.Body (function role.Body (codes "a") [] [] ∷ []) ∷ [])
    ∷ [])
    ∷ [])

-- `function f() {} function f() {}`
abbrev pub top_functions : Tree
top_functions = program goal.Script lang.Js (function role.Body (codes "f") [] [] ∷ function role.Body (codes "f") [] [] ∷ [])

-- `try {} catch (e) { for (var [e] of []); }`
abbrev pub var_in_catch : Tree
var_in_catch =
    program goal.Script lang.Js
    (node role.Body kind.TryStatement []
    (block role.Block []
    ∷ catch_clause role.Handler (binding role.Pattern (codes "e"))
    (node role.Body kind.ForOfStatement []
    (declared role.Left (codes "var") (node role.Id kind.ArrayPattern [] (binding role.Elements (codes "e") ∷ []) ∷ [])
    ∷ node role.Right kind.ArrayExpression [] []
    ∷ node role.Body kind.EmptyStatement [] []
    ∷ [])
    ∷ [])
    ∷ [])
    ∷ [])

-- `var e; try {} catch (e) { (function () { var e; }); }`
abbrev pub var_beside_catch : Tree
var_beside_catch =
    program goal.Script lang.Js
    (variable (codes "var") (codes "e")
    ∷ node role.Body kind.TryStatement []
    (block role.Block []
    ∷ catch_clause role.Handler (binding role.Pattern (codes "e"))
    (statement (in_parentheses role.Expression (expression role.Expression [] (variable (codes "var") (codes "e") ∷ []))) ∷ [])
    ∷ [])
    ∷ [])

-- `function f() { var arguments; }`
abbrev pub var_arguments : Tree
var_arguments = program goal.Script lang.Js (function role.Body (codes "f") [] (variable (codes "var") (codes "arguments") ∷ []) ∷ [])

-- `function f() { return arguments; }`
abbrev pub reads_arguments : Tree
reads_arguments =
    program goal.Script lang.Js
    (function role.Body (codes "f") [] (node role.Body kind.ReturnStatement [] (reference role.Argument (codes "arguments") ∷ []) ∷ []) ∷ [])

-- `var a, b; with ({}) a;`
abbrev pub reference_in_with : Tree
reference_in_with =
    program goal.Script lang.Js
    (node role.Body kind.VariableDeclaration (codes "var") (declarator (codes "a") ∷ declarator (codes "b") ∷ [])
    ∷ node role.Body kind.WithStatement [] (node role.Object kind.ObjectExpression [] [] ∷ mention (codes "a") ∷ [])
    ∷ [])

-- `with ({}) { var a = 1; }`
abbrev pub var_in_with : Tree
var_in_with =
    program goal.Script lang.Js
    (node role.Body kind.WithStatement []
    (node role.Object kind.ObjectExpression [] []
    ∷ block role.Body (declared role.Body (codes "var") (binding role.Id (codes "a") ∷ number role.Init (codes "1") ∷ []) ∷ [])
    ∷ [])
    ∷ [])

-- `function f(a) { eval(""); } function g(b) {}`
abbrev pub with_eval : Tree
with_eval =
    program goal.Script lang.Js
    (function role.Body (codes "f") (parameter (codes "a") ∷ [])
    (statement (node role.Expression kind.CallExpression [] (reference role.Callee (codes "eval") ∷ node role.Arguments kind.StringLiteral [] [] ∷ []))
    ∷ [])
    ∷ function role.Body (codes "g") (parameter (codes "b") ∷ []) []
    ∷ [])

-- `namespace N { export type T = 1; } let x: N.T; type U = T;`
abbrev pub free_type : Tree
free_type =
    program goal.Script lang.Ts
    (namespace role.Body (codes "N")
    (node role.Body kind.ExportDeclaration []
    (node role.Declaration kind.TSTypeAliasDeclaration []
    (binding role.Id (codes "T") ∷ node role.ValueType kind.TSLiteralType [] (number role.Literal (codes "1") ∷ []) ∷ [])
    ∷ [])
    ∷ [])
    ∷ declared role.Body (codes "let")
    (binding role.Id (codes "x")
    ∷ node role.Annotation kind.TSTypeAnnotation []
    (node role.Element kind.TSTypeReference []
    (node role.Name kind.TSQualifiedName [] (reference role.Left (codes "N") ∷ node role.Right kind.IdentifierName (codes "T") [] ∷ []) ∷ [])
    ∷ [])
    ∷ [])
    ∷ node role.Body kind.TSTypeAliasDeclaration []
    (binding role.Id (codes "U") ∷ node role.ValueType kind.TSTypeReference [] (reference role.Name (codes "T") ∷ []) ∷ [])
    ∷ [])

-- `{ let a; } a;`
abbrev pub free_in_javascript : Tree
free_in_javascript = program goal.Script lang.Js (block role.Body (variable (codes "let") (codes "a") ∷ []) ∷ mention (codes "a") ∷ [])

-- `namespace N { export let a = 1; } namespace N { a; } namespace M { let b; }`
abbrev pub merged_namespaces : Tree
merged_namespaces =
    program goal.Script lang.Ts
    (namespace role.Body (codes "N")
    (node role.Body kind.ExportDeclaration []
    (declared role.Declaration (codes "let") (binding role.Id (codes "a") ∷ number role.Init (codes "1") ∷ []) ∷ [])
    ∷ [])
    ∷ namespace role.Body (codes "N") (mention (codes "a") ∷ [])
    ∷ namespace role.Body (codes "M") (variable (codes "let") (codes "b") ∷ [])
    ∷ [])

-- `enum E { A } enum E { B }`
abbrev pub merged_enums : Tree
merged_enums =
    program goal.Script lang.Ts
    (node role.Body kind.TSEnumDeclaration []
    (binding role.Id (codes "E")
    ∷ node role.Body kind.TSEnumBody [] (node role.Members kind.TSEnumMember [] (node role.Id kind.IdentifierName (codes "A") [] ∷ []) ∷ [])
    ∷ [])
    ∷ node role.Body kind.TSEnumDeclaration []
    (binding role.Id (codes "E")
    ∷ node role.Body kind.TSEnumBody [] (node role.Members kind.TSEnumMember [] (node role.Id kind.IdentifierName (codes "B") [] ∷ []) ∷ [])
    ∷ [])
    ∷ [])

-- `export {}; b.b; export namespace b.N { namespace a { export namespace b { type v1 = b.N[]; const a = 1; } a; } ({ N }); } export interface b {}`
abbrev pub inner_namespace : Tree
inner_namespace =
    program goal.Module lang.Ts
    (node role.Body kind.ExportNamedDeclaration [] []
    ∷ statement
    (node role.Expression kind.StaticMemberExpression []
    (reference role.Object (codes "b") ∷ node role.Property kind.IdentifierName (codes "b") [] ∷ []))
    ∷ node role.Body kind.ExportDeclaration []
    (node role.Declaration kind.TSNamespaceDeclaration []
    (binding role.Id (codes "b")
    ∷ namespace role.Body (codes "N")
    (namespace role.Body (codes "a")
    (node role.Body kind.ExportDeclaration []
    (namespace role.Declaration (codes "b")
    (node role.Body kind.TSTypeAliasDeclaration []
    (binding role.Id (codes "v1")
    ∷ node role.ValueType kind.TSArrayType []
    (node role.Element kind.TSTypeReference []
    (node role.Name kind.TSQualifiedName [] (reference role.Left (codes "b") ∷ node role.Right kind.IdentifierName (codes "N") [] ∷ []) ∷ [])
    ∷ [])
    ∷ [])
    ∷ declared role.Body (codes "const") (binding role.Id (codes "a") ∷ number role.Init (codes "1") ∷ [])
    ∷ [])
    ∷ [])
    ∷ mention (codes "a")
    ∷ [])
    ∷ statement
    (in_parentheses role.Expression
    (node role.Expression kind.ObjectExpression []
    (marked (mark.Shorthand ∷ []) role.Properties kind.ObjectProperty (codes "init")
    (node role.Key kind.IdentifierName (codes "N") [] ∷ reference role.Value (codes "N") ∷ [])
    ∷ [])))
    ∷ [])
    ∷ [])
    ∷ [])
    ∷ node role.Body kind.ExportDeclaration []
    (node role.Declaration kind.TSInterfaceDeclaration [] (binding role.Id (codes "b") ∷ node role.Body kind.TSInterfaceBody [] [] ∷ []) ∷ [])
    ∷ [])

-- `namespace M { namespace N {} } interface N {}`; in the language that is given
abbrev pub namespace_in_another : Lang → Tree
namespace_in_another l =
    program goal.Script l
    (node role.Body kind.TSNamespaceDeclaration []
    (node role.Id kind.BindingIdentifier (codes "M") []
    ∷ node role.Body kind.TSModuleBlock []
    (node role.Body kind.TSNamespaceDeclaration []
    (node role.Id kind.BindingIdentifier (codes "N") []
    ∷ node role.Body kind.TSModuleBlock [] []
    ∷ [])
    ∷ [])
    ∷ [])
    ∷ node role.Body kind.TSInterfaceDeclaration []
    (node role.Id kind.BindingIdentifier (codes "N") []
    ∷ node role.Body kind.TSInterfaceBody [] []
    ∷ [])
    ∷ [])

-- `namespace N { export let a = 1; } N.a;`
abbrev pub lone_namespace : Tree
lone_namespace =
    program goal.Script lang.Ts
    (namespace role.Body (codes "N")
    (node role.Body kind.ExportDeclaration []
    (declared role.Declaration (codes "let") (binding role.Id (codes "a") ∷ number role.Init (codes "1") ∷ []) ∷ [])
    ∷ [])
    ∷ statement
    (node role.Expression kind.StaticMemberExpression []
    (reference role.Object (codes "N") ∷ node role.Property kind.IdentifierName (codes "a") [] ∷ []))
    ∷ [])

-- `namespace M { import N = A.x; } interface N {}`
abbrev pub inner_alias : Tree
inner_alias =
    program goal.Script lang.Ts
    (namespace role.Body (codes "M")
    (node role.Body kind.TSImportEqualsDeclaration []
    (binding role.Id (codes "N")
    ∷ node role.Reference kind.TSQualifiedName [] (reference role.Left (codes "A") ∷ node role.Right kind.IdentifierName (codes "x") [] ∷ [])
    ∷ [])
    ∷ [])
    ∷ node role.Body kind.TSInterfaceDeclaration [] (binding role.Id (codes "N") ∷ node role.Body kind.TSInterfaceBody [] [] ∷ [])
    ∷ [])

-- `import N = A.x; namespace M { interface N {} }`
abbrev pub outer_alias : Tree
outer_alias =
    program goal.Script lang.Ts
    (node role.Body kind.TSImportEqualsDeclaration []
    (binding role.Id (codes "N")
    ∷ node role.Reference kind.TSQualifiedName [] (reference role.Left (codes "A") ∷ node role.Right kind.IdentifierName (codes "x") [] ∷ [])
    ∷ [])
    ∷ namespace role.Body (codes "M")
    (node role.Body kind.TSInterfaceDeclaration [] (binding role.Id (codes "N") ∷ node role.Body kind.TSInterfaceBody [] [] ∷ []) ∷ [])
    ∷ [])

-- `type X = T extends [infer U, U] ? U : V; type U = 1;`
abbrev pub infer_beside : Tree
infer_beside =
    program goal.Script lang.Ts
    (alias (codes "X")
    (conditional role.ValueType
    (type_named role.Check (codes "T")
    ∷ pair role.Extends (infer role.Elements (codes "U")) (type_named role.Elements (codes "U"))
    ∷ type_named role.True (codes "U")
    ∷ type_named role.False (codes "V")
    ∷ []))
    ∷ alias (codes "U") (node role.ValueType kind.TSStringKeyword [] [])
    ∷ [])

-- `type X = A extends infer U ? B extends [U, infer V] ? [U, V] : A : A; type U = string; type V = string;`
abbrev pub infers_in_order : Tree
infers_in_order =
    program goal.Script lang.Ts
    (alias (codes "X")
    (conditional role.ValueType
    (type_named role.Check (codes "A")
    ∷ infer role.Extends (codes "U")
    ∷ conditional role.True
    (type_named role.Check (codes "B")
    ∷ pair role.Extends (type_named role.Elements (codes "U")) (infer role.Elements (codes "V"))
    ∷ pair role.True (type_named role.Elements (codes "U")) (type_named role.Elements (codes "V"))
    ∷ type_named role.False (codes "A")
    ∷ [])
    ∷ type_named role.False (codes "A")
    ∷ []))
    ∷ alias (codes "U") (node role.ValueType kind.TSStringKeyword [] [])
    ∷ alias (codes "V") (node role.ValueType kind.TSStringKeyword [] [])
    ∷ [])

-- `type X = A extends [A extends A ? infer U : A] ? U : A;`
abbrev pub stray_infer : Tree
stray_infer =
    program goal.Script lang.Ts
    (alias (codes "X")
    (conditional role.ValueType
    (type_named role.Check (codes "A")
    ∷ node role.Extends kind.TSTupleType []
    (conditional role.Elements
    (type_named role.Check (codes "A") ∷ type_named role.Extends (codes "A") ∷ infer role.True (codes "U") ∷ type_named role.False (codes "A") ∷ [])
    ∷ [])
    ∷ type_named role.True (codes "A")
    ∷ type_named role.False (codes "A")
    ∷ []))
    ∷ [])

-- `function f<T extends typeof a>(a) {} let a;`, and with another parameter
abbrev pub constrained : (parameter_name : List ℕ) → Tree
constrained parameter_name =
    program goal.Script lang.Ts
    (node role.Body kind.Function (codes "declaration")
    (binding role.Id (codes "f")
    ∷ type_parameter (codes "T") (type_query role.Constraint (codes "a"))
    ∷ parameters (parameter parameter_name ∷ [])
    ∷ node role.Body kind.FunctionBody [] []
    ∷ [])
    ∷ variable (codes "let") (codes "a")
    ∷ [])

-- `let k; let x: { [NAME: string]: typeof k };`
abbrev pub index_signature : (parameter_name : List ℕ) → Tree
index_signature parameter_name =
    program goal.Script lang.Ts
    (variable (codes "let") (codes "k")
    ∷ declared role.Body (codes "let")
    (binding role.Id (codes "x")
    ∷ node role.Annotation kind.TSTypeAnnotation []
    (node role.Element kind.TSTypeLiteral []
    (node role.Members kind.TSIndexSignature []
    (node role.Parameters kind.TSIndexSignatureName parameter_name
    (node role.Annotation kind.TSTypeAnnotation [] (node role.Element kind.TSStringKeyword [] [] ∷ []) ∷ [])
    ∷ node role.Annotation kind.TSTypeAnnotation [] (type_query role.Element (codes "k") ∷ [])
    ∷ [])
    ∷ [])
    ∷ [])
    ∷ [])
    ∷ [])

-- `function g() { for (;;) { async function f() {} } } let f;` in the language that is given
abbrev pub inner_function : Lang → Tree
inner_function l =
    program goal.Script l
    (function role.Body (codes "g") []
    (node role.Body kind.ForStatement []
    (block role.Body (marked (mark.Async ∷ []) role.Body kind.Function (codes "declaration") (function_parts (codes "f") [] []) ∷ []) ∷ [])
    ∷ [])
    ∷ variable (codes "let") (codes "f")
    ∷ [])

-- `export type { A }; export { B }; { let A; let B; } type A = string; type B = string;`
abbrev pub exported_types : Tree
exported_types =
    program goal.Module lang.Ts
    (marked (mark.TypeOnly ∷ []) role.Body kind.ExportNamedDeclaration [] (exported (codes "A") ∷ [])
    ∷ node role.Body kind.ExportNamedDeclaration [] (exported (codes "B") ∷ [])
    ∷ block role.Body (variable (codes "let") (codes "A") ∷ variable (codes "let") (codes "B") ∷ [])
    ∷ alias (codes "A") (node role.ValueType kind.TSStringKeyword [] [])
    ∷ alias (codes "B") (node role.ValueType kind.TSStringKeyword [] [])
    ∷ [])
  where
    exported : List ℕ → Forest
    exported name = node role.Specifiers kind.ExportSpecifier [] (reference role.Local name ∷ node role.Exported kind.IdentifierName name [] ∷ [])

-- `{ { var a; } type a = string; }`, with the given word for `var` and in the given language
abbrev pub passed_type : (word : List ℕ) → Lang → Tree
passed_type word l =
    program goal.Script l
    (block role.Body
    (block role.Body (variable word (codes "a") ∷ []) ∷ alias (codes "a") (node role.ValueType kind.TSStringKeyword [] []) ∷ [])
    ∷ [])

-- `var a; type a = string;`
abbrev pub type_beside_variable : Tree
type_beside_variable =
    program goal.Script lang.Ts (variable (codes "var") (codes "a") ∷ alias (codes "a") (node role.ValueType kind.TSStringKeyword [] []) ∷ [])

-- `let f; (function f<NAME>() { f; });` in the language that is given
abbrev pub own_name_beside : (type_name : List ℕ) → Lang → Tree
own_name_beside type_name l =
    program goal.Script l
    (variable (codes "let") (codes "f")
    ∷ statement
    (in_parentheses role.Expression
    (node role.Expression kind.Function (codes "expression")
    (binding role.Id (codes "f")
    ∷ node role.TypeParameters kind.TSTypeParameterDeclaration [] (node role.Params kind.TSTypeParameter [] (binding role.Name type_name ∷ []) ∷ [])
    ∷ parameters []
    ∷ function_body (mention (codes "f") ∷ [])
    ∷ [])))
    ∷ [])

-- `let f; (function f() { type f = string; f; });`
abbrev pub own_name_and_alias : Tree
own_name_and_alias =
    program goal.Script lang.Ts
    (variable (codes "let") (codes "f")
    ∷ statement
    (in_parentheses role.Expression
    (named_expression role.Expression (codes "f") []
    (alias (codes "f") (node role.ValueType kind.TSStringKeyword [] []) ∷ mention (codes "f") ∷ [])))
    ∷ [])

-- `const g = function f() { f; };`
abbrev pub own_name_alone : Tree
own_name_alone =
    program goal.Script lang.Ts
    (declared role.Body (codes "const")
    (binding role.Id (codes "g") ∷ named_expression role.Init (codes "f") [] (mention (codes "f") ∷ []) ∷ [])
    ∷ [])
