-- Trees of small programs of TypeScript.
use Rattle.std.specs.Prelude.{[], ◌∷◌, codes}
use Rattle.semantic_syntax.specs.declared.source_type.Goal.TheVariants as goal
use Rattle.semantic_syntax.specs.declared.source_type.Lang.TheVariants as lang
use Rattle.semantic_kinds.specs.declared.kind.AstType.TheVariants as kind
use Rattle.semantic_kinds.specs.declared.role.Role.TheVariants as role
use Rattle.semantic_kinds.specs.declared.mark.Mark.TheVariants as mark
use Rattle.semantic_tree.specs.Tree.{Tree}
use Rattle.tangle_model.proofs.ProgramTrees.{marked, node, program, binding, block, catch_clause, declared, variable, statement, in_parentheses, function, function_body, named_expression, mention, namespace, number, parameters, reference}

-- `export {}; namespace N { export type T = number } let x: N.T;`
abbrev pub qualified : Tree
qualified =
    program goal.Module lang.Ts
    (node role.Body kind.ExportNamedDeclaration [] []
    ∷ namespace role.Body (codes "N")
    (node role.Body kind.ExportDeclaration []
    (node role.Declaration kind.TSTypeAliasDeclaration [] (binding role.Id (codes "T") ∷ node role.ValueType kind.TSNumberKeyword [] [] ∷ []) ∷ [])
    ∷ [])
    ∷ declared role.Body (codes "let")
    (binding role.Id (codes "x")
    ∷ node role.Annotation kind.TSTypeAnnotation []
    (node role.Element kind.TSTypeReference []
    (node role.Name kind.TSQualifiedName [] (reference role.Left (codes "N") ∷ node role.Right kind.IdentifierName (codes "T") [] ∷ []) ∷ [])
    ∷ [])
    ∷ [])
    ∷ [])

-- `export {}; namespace M { export const x = 1; const y = 2; } namespace M { x; y; }`
abbrev pub merged_namespaces : Tree
merged_namespaces =
    program goal.Module lang.Ts
    (node role.Body kind.ExportNamedDeclaration [] []
    ∷ namespace role.Body (codes "M")
    (node role.Body kind.ExportDeclaration []
    (declared role.Declaration (codes "const") (binding role.Id (codes "x") ∷ number role.Init (codes "1") ∷ []) ∷ [])
    ∷ declared role.Body (codes "const") (binding role.Id (codes "y") ∷ number role.Init (codes "2") ∷ [])
    ∷ [])
    ∷ namespace role.Body (codes "M") (mention (codes "x") ∷ mention (codes "y") ∷ [])
    ∷ [])

-- `export {}; enum E { a = 1 } enum E { b = a } namespace E { a; }`
abbrev pub merged_enums : Tree
merged_enums =
    program goal.Module lang.Ts
    (node role.Body kind.ExportNamedDeclaration [] []
    ∷ node role.Body kind.TSEnumDeclaration []
    (binding role.Id (codes "E")
    ∷ node role.Body kind.TSEnumBody []
    (node role.Members kind.TSEnumMember [] (node role.Id kind.IdentifierName (codes "a") [] ∷ number role.Initializer (codes "1") ∷ []) ∷ [])
    ∷ [])
    ∷ node role.Body kind.TSEnumDeclaration []
    (binding role.Id (codes "E")
    ∷ node role.Body kind.TSEnumBody []
    (node role.Members kind.TSEnumMember [] (node role.Id kind.IdentifierName (codes "b") [] ∷ reference role.Initializer (codes "a") ∷ []) ∷ [])
    ∷ [])
    ∷ namespace role.Body (codes "E") (mention (codes "a") ∷ [])
    ∷ [])

-- `const A = 1; export type { A as B };`
abbrev pub typed_export : Tree
typed_export =
    program goal.Module lang.Ts
    (declared role.Body (codes "const") (binding role.Id (codes "A") ∷ number role.Init (codes "1") ∷ [])
    ∷ marked (mark.TypeOnly ∷ []) role.Body kind.ExportNamedDeclaration []
    (node role.Specifiers kind.ExportSpecifier [] (reference role.Local (codes "A") ∷ node role.Exported kind.IdentifierName (codes "B") [] ∷ [])
    ∷ [])
    ∷ [])

-- `namespace N { type T = 1 } export { N };`
abbrev pub exported_namespace : Tree
exported_namespace =
    program goal.Module lang.Ts
    (namespace role.Body (codes "N")
    (node role.Body kind.TSTypeAliasDeclaration []
    (binding role.Id (codes "T") ∷ node role.ValueType kind.TSLiteralType [] (number role.Literal (codes "1") ∷ []) ∷ [])
    ∷ [])
    ∷ node role.Body kind.ExportNamedDeclaration []
    (node role.Specifiers kind.ExportSpecifier [] (reference role.Local (codes "N") ∷ node role.Exported kind.IdentifierName (codes "N") [] ∷ [])
    ∷ [])
    ∷ [])

-- `export {}; function f<T>(a: T): T { let b: T; T; }`
abbrev pub generics : Tree
generics =
    program goal.Module lang.Ts
    (node role.Body kind.ExportNamedDeclaration [] []
    ∷ node role.Body kind.Function (codes "declaration")
    (binding role.Id (codes "f")
    ∷ node role.TypeParameters kind.TSTypeParameterDeclaration [] (node role.Params kind.TSTypeParameter [] (binding role.Name (codes "T") ∷ []) ∷ [])
    ∷ parameters
    (node role.Items kind.FormalParameter []
    (binding role.Pattern (codes "a")
    ∷ node role.Annotation kind.TSTypeAnnotation [] (node role.Element kind.TSTypeReference [] (reference role.Name (codes "T") ∷ []) ∷ [])
    ∷ [])
    ∷ [])
    ∷ node role.ReturnType kind.TSTypeAnnotation [] (node role.Element kind.TSTypeReference [] (reference role.Name (codes "T") ∷ []) ∷ [])
    ∷ function_body
    (declared role.Body (codes "let")
    (binding role.Id (codes "b")
    ∷ node role.Annotation kind.TSTypeAnnotation [] (node role.Element kind.TSTypeReference [] (reference role.Name (codes "T") ∷ []) ∷ [])
    ∷ [])
    ∷ mention (codes "T")
    ∷ [])
    ∷ [])
    ∷ [])

-- `export {}; class C<T> { a: T; static b: C<1>; } let D = class E<T> { a: E<T>; }; interface C<T> { c: T }`
abbrev pub generic_class : Tree
generic_class =
    program goal.Module lang.Ts
    (node role.Body kind.ExportNamedDeclaration [] []
    ∷ node role.Body kind.Class (codes "declaration")
    (binding role.Id (codes "C")
    ∷ node role.TypeParameters kind.TSTypeParameterDeclaration [] (node role.Params kind.TSTypeParameter [] (binding role.Name (codes "T") ∷ []) ∷ [])
    ∷ node role.Body kind.ClassBody []
    (node role.Body kind.PropertyDefinition []
    (node role.Key kind.IdentifierName (codes "a") []
    ∷ node role.Annotation kind.TSTypeAnnotation [] (node role.Element kind.TSTypeReference [] (reference role.Name (codes "T") ∷ []) ∷ [])
    ∷ [])
    ∷ marked (mark.Static ∷ []) role.Body kind.PropertyDefinition []
    (node role.Key kind.IdentifierName (codes "b") []
    ∷ node role.Annotation kind.TSTypeAnnotation []
    (node role.Element kind.TSTypeReference []
    (reference role.Name (codes "C")
    ∷ node role.TypeArguments kind.TSTypeParameterInstantiation [] (node role.Params kind.TSLiteralType [] (number role.Literal (codes "1") ∷ []) ∷ [])
    ∷ [])
    ∷ [])
    ∷ [])
    ∷ [])
    ∷ [])
    ∷ declared role.Body (codes "let")
    (binding role.Id (codes "D")
    ∷ node role.Init kind.Class (codes "expression")
    (binding role.Id (codes "E")
    ∷ node role.TypeParameters kind.TSTypeParameterDeclaration [] (node role.Params kind.TSTypeParameter [] (binding role.Name (codes "T") ∷ []) ∷ [])
    ∷ node role.Body kind.ClassBody []
    (node role.Body kind.PropertyDefinition []
    (node role.Key kind.IdentifierName (codes "a") []
    ∷ node role.Annotation kind.TSTypeAnnotation []
    (node role.Element kind.TSTypeReference []
    (reference role.Name (codes "E")
    ∷ node role.TypeArguments kind.TSTypeParameterInstantiation []
    (node role.Params kind.TSTypeReference [] (reference role.Name (codes "T") ∷ []) ∷ [])
    ∷ [])
    ∷ [])
    ∷ [])
    ∷ [])
    ∷ [])
    ∷ [])
    ∷ node role.Body kind.TSInterfaceDeclaration []
    (binding role.Id (codes "C")
    ∷ node role.TypeParameters kind.TSTypeParameterDeclaration [] (node role.Params kind.TSTypeParameter [] (binding role.Name (codes "T") ∷ []) ∷ [])
    ∷ node role.Body kind.TSInterfaceBody []
    (node role.Body kind.TSPropertySignature []
    (node role.Key kind.IdentifierName (codes "c") []
    ∷ node role.Annotation kind.TSTypeAnnotation [] (node role.Element kind.TSTypeReference [] (reference role.Name (codes "T") ∷ []) ∷ [])
    ∷ [])
    ∷ [])
    ∷ [])
    ∷ [])

-- `export {}; function f(a: 1): 1; function f(a: 2) { f; }`
abbrev pub overloads : Tree
overloads =
    program goal.Module lang.Ts
    (node role.Body kind.ExportNamedDeclaration [] []
    ∷ node role.Body kind.Function (codes "ts-declare")
    (binding role.Id (codes "f")
    ∷ parameters
    (node role.Items kind.FormalParameter []
    (binding role.Pattern (codes "a")
    ∷ node role.Annotation kind.TSTypeAnnotation [] (node role.Element kind.TSLiteralType [] (number role.Literal (codes "1") ∷ []) ∷ [])
    ∷ [])
    ∷ [])
    ∷ node role.ReturnType kind.TSTypeAnnotation [] (node role.Element kind.TSLiteralType [] (number role.Literal (codes "1") ∷ []) ∷ [])
    ∷ [])
    ∷ function role.Body (codes "f")
    (node role.Items kind.FormalParameter []
    (binding role.Pattern (codes "a")
    ∷ node role.Annotation kind.TSTypeAnnotation [] (node role.Element kind.TSLiteralType [] (number role.Literal (codes "2") ∷ []) ∷ [])
    ∷ [])
    ∷ [])
    (mention (codes "f") ∷ [])
    ∷ [])

-- `import { A, type B } from "m"; import type C from "n"; let a: A; let b: B.b; let c: typeof C; A;`
abbrev pub typed_imports : Tree
typed_imports =
    program goal.Module lang.Ts
    (node role.Body kind.ImportDeclaration []
    (node role.Specifiers kind.ImportSpecifier [] (node role.Imported kind.IdentifierName (codes "A") [] ∷ binding role.Local (codes "A") ∷ [])
    ∷ marked (mark.TypeOnly ∷ []) role.Specifiers kind.ImportSpecifier []
    (node role.Imported kind.IdentifierName (codes "B") [] ∷ binding role.Local (codes "B") ∷ [])
    ∷ node role.Source kind.StringLiteral (codes "m") []
    ∷ [])
    ∷ marked (mark.TypeOnly ∷ []) role.Body kind.ImportDeclaration []
    (node role.Specifiers kind.ImportDefaultSpecifier [] (binding role.Local (codes "C") ∷ [])
    ∷ node role.Source kind.StringLiteral (codes "n") []
    ∷ [])
    ∷ declared role.Body (codes "let")
    (binding role.Id (codes "a")
    ∷ node role.Annotation kind.TSTypeAnnotation [] (node role.Element kind.TSTypeReference [] (reference role.Name (codes "A") ∷ []) ∷ [])
    ∷ [])
    ∷ declared role.Body (codes "let")
    (binding role.Id (codes "b")
    ∷ node role.Annotation kind.TSTypeAnnotation []
    (node role.Element kind.TSTypeReference []
    (node role.Name kind.TSQualifiedName [] (reference role.Left (codes "B") ∷ node role.Right kind.IdentifierName (codes "b") [] ∷ []) ∷ [])
    ∷ [])
    ∷ [])
    ∷ declared role.Body (codes "let")
    (binding role.Id (codes "c")
    ∷ node role.Annotation kind.TSTypeAnnotation [] (node role.Element kind.TSTypeQuery [] (reference role.Name (codes "C") ∷ []) ∷ [])
    ∷ [])
    ∷ mention (codes "A")
    ∷ [])

-- `export {}; type U = 1; type X<T> = T extends [infer U, U] ? U : U;`
abbrev pub infers : Tree
infers =
    program goal.Module lang.Ts
    (node role.Body kind.ExportNamedDeclaration [] []
    ∷ node role.Body kind.TSTypeAliasDeclaration []
    (binding role.Id (codes "U") ∷ node role.ValueType kind.TSLiteralType [] (number role.Literal (codes "1") ∷ []) ∷ [])
    ∷ node role.Body kind.TSTypeAliasDeclaration []
    (binding role.Id (codes "X")
    ∷ node role.TypeParameters kind.TSTypeParameterDeclaration [] (node role.Params kind.TSTypeParameter [] (binding role.Name (codes "T") ∷ []) ∷ [])
    ∷ node role.ValueType kind.TSConditionalType []
    (node role.Check kind.TSTypeReference [] (reference role.Name (codes "T") ∷ [])
    ∷ node role.Extends kind.TSTupleType []
    (node role.Elements kind.TSInferType [] (node role.Parameter kind.TSTypeParameter [] (binding role.Name (codes "U") ∷ []) ∷ [])
    ∷ node role.Elements kind.TSTypeReference [] (reference role.Name (codes "U") ∷ [])
    ∷ [])
    ∷ node role.True kind.TSTypeReference [] (reference role.Name (codes "U") ∷ [])
    ∷ node role.False kind.TSTypeReference [] (reference role.Name (codes "U") ∷ [])
    ∷ [])
    ∷ [])
    ∷ [])

-- `export {}; type X<T> = T extends [infer U] ? U : T;`
abbrev pub infers_once : Tree
infers_once =
    program goal.Module lang.Ts
    (node role.Body kind.ExportNamedDeclaration [] []
    ∷ node role.Body kind.TSTypeAliasDeclaration []
    (binding role.Id (codes "X")
    ∷ node role.TypeParameters kind.TSTypeParameterDeclaration [] (node role.Params kind.TSTypeParameter [] (binding role.Name (codes "T") ∷ []) ∷ [])
    ∷ node role.ValueType kind.TSConditionalType []
    (node role.Check kind.TSTypeReference [] (reference role.Name (codes "T") ∷ [])
    ∷ node role.Extends kind.TSTupleType []
    (node role.Elements kind.TSInferType [] (node role.Parameter kind.TSTypeParameter [] (binding role.Name (codes "U") ∷ []) ∷ []) ∷ [])
    ∷ node role.True kind.TSTypeReference [] (reference role.Name (codes "U") ∷ [])
    ∷ node role.False kind.TSTypeReference [] (reference role.Name (codes "T") ∷ [])
    ∷ [])
    ∷ [])
    ∷ [])

-- `export {}; type X<T> = { [k in keyof T as k]: T[k] };`
abbrev pub mapped : Tree
mapped =
    program goal.Module lang.Ts
    (node role.Body kind.ExportNamedDeclaration [] []
    ∷ node role.Body kind.TSTypeAliasDeclaration []
    (binding role.Id (codes "X")
    ∷ node role.TypeParameters kind.TSTypeParameterDeclaration [] (node role.Params kind.TSTypeParameter [] (binding role.Name (codes "T") ∷ []) ∷ [])
    ∷ node role.ValueType kind.TSMappedType []
    (binding role.Key (codes "k")
    ∷ node role.Constraint kind.TSTypeOperator (codes "keyof") (node role.Element kind.TSTypeReference [] (reference role.Name (codes "T") ∷ []) ∷ [])
    ∷ node role.NameType kind.TSTypeReference [] (reference role.Name (codes "k") ∷ [])
    ∷ node role.ValueType kind.TSIndexedAccessType []
    (node role.Object kind.TSTypeReference [] (reference role.Name (codes "T") ∷ [])
    ∷ node role.Index kind.TSTypeReference [] (reference role.Name (codes "k") ∷ [])
    ∷ [])
    ∷ [])
    ∷ [])
    ∷ [])

-- `export {}; let a = 1; type T = typeof a; function f<T extends typeof a>(a: T): typeof a { a; }`
abbrev pub queries : Tree
queries =
    program goal.Module lang.Ts
    (node role.Body kind.ExportNamedDeclaration [] []
    ∷ declared role.Body (codes "let") (binding role.Id (codes "a") ∷ number role.Init (codes "1") ∷ [])
    ∷ node role.Body kind.TSTypeAliasDeclaration []
    (binding role.Id (codes "T") ∷ node role.ValueType kind.TSTypeQuery [] (reference role.Name (codes "a") ∷ []) ∷ [])
    ∷ node role.Body kind.Function (codes "declaration")
    (binding role.Id (codes "f")
    ∷ node role.TypeParameters kind.TSTypeParameterDeclaration []
    (node role.Params kind.TSTypeParameter []
    (binding role.Name (codes "T") ∷ node role.Constraint kind.TSTypeQuery [] (reference role.Name (codes "a") ∷ []) ∷ [])
    ∷ [])
    ∷ parameters
    (node role.Items kind.FormalParameter []
    (binding role.Pattern (codes "a")
    ∷ node role.Annotation kind.TSTypeAnnotation [] (node role.Element kind.TSTypeReference [] (reference role.Name (codes "T") ∷ []) ∷ [])
    ∷ [])
    ∷ [])
    ∷ node role.ReturnType kind.TSTypeAnnotation [] (node role.Element kind.TSTypeQuery [] (reference role.Name (codes "a") ∷ []) ∷ [])
    ∷ function_body (mention (codes "a") ∷ [])
    ∷ [])
    ∷ [])

-- `export {}; declare namespace N { const a: 1; } namespace N { a; } declare global { interface G {} } let g: G;`
abbrev pub ambient : Tree
ambient =
    program goal.Module lang.Ts
    (node role.Body kind.ExportNamedDeclaration [] []
    ∷ marked (mark.Declare ∷ []) role.Body kind.TSNamespaceDeclaration []
    (binding role.Id (codes "N")
    ∷ node role.Body kind.TSModuleBlock []
    (declared role.Body (codes "const")
    (binding role.Id (codes "a")
    ∷ node role.Annotation kind.TSTypeAnnotation [] (node role.Element kind.TSLiteralType [] (number role.Literal (codes "1") ∷ []) ∷ [])
    ∷ [])
    ∷ [])
    ∷ [])
    ∷ namespace role.Body (codes "N") (mention (codes "a") ∷ [])
    ∷ marked (mark.Declare ∷ []) role.Body kind.TSGlobalDeclaration []
    (node role.Body kind.TSModuleBlock []
    (node role.Body kind.TSInterfaceDeclaration [] (binding role.Id (codes "G") ∷ node role.Body kind.TSInterfaceBody [] [] ∷ []) ∷ [])
    ∷ [])
    ∷ declared role.Body (codes "let")
    (binding role.Id (codes "g")
    ∷ node role.Annotation kind.TSTypeAnnotation [] (node role.Element kind.TSTypeReference [] (reference role.Name (codes "G") ∷ []) ∷ [])
    ∷ [])
    ∷ [])

-- `let f = 0; function g() { { function f() {} f; } f; }`
abbrev pub sloppy_blocks : Tree
sloppy_blocks =
    program goal.Script lang.Ts
    (declared role.Body (codes "let") (binding role.Id (codes "f") ∷ number role.Init (codes "0") ∷ [])
    ∷ function role.Body (codes "g") [] (block role.Body (function role.Body (codes "f") [] [] ∷ mention (codes "f") ∷ []) ∷ mention (codes "f") ∷ [])
    ∷ [])

-- `{ function f() {} f; }`
abbrev pub sloppy_block : Tree
sloppy_block = program goal.Script lang.Ts (block role.Body (function role.Body (codes "f") [] [] ∷ mention (codes "f") ∷ []) ∷ [])

-- `declare module "m" { "use strict"; { function f() {} f; } f; }`
abbrev pub strict_module : Tree
strict_module =
    program goal.Script lang.Ts
    (marked (mark.Declare ∷ []) role.Body kind.TSExternalModuleDeclaration []
    (node role.Id kind.StringLiteral (codes "m") []
    ∷ node role.Body kind.TSModuleBlock []
    (node role.Directives kind.Directive (codes "use strict") (node role.Expression kind.StringLiteral (codes "use strict") [] ∷ [])
    ∷ block role.Body (function role.Body (codes "f") [] [] ∷ mention (codes "f") ∷ [])
    ∷ mention (codes "f")
    ∷ [])
    ∷ [])
    ∷ [])

-- `export {}; { function f() {} f; } f;`
abbrev pub strict_blocks : Tree
strict_blocks =
    program goal.Module lang.Ts
    (node role.Body kind.ExportNamedDeclaration [] []
    ∷ block role.Body (function role.Body (codes "f") [] [] ∷ mention (codes "f") ∷ [])
    ∷ mention (codes "f")
    ∷ [])

-- `export {}; type A = 1; function f(a: A) { type A = 2; let b: A; } { const A = 1; let c: A; }`
abbrev pub local_types : Tree
local_types =
    program goal.Module lang.Ts
    (node role.Body kind.ExportNamedDeclaration [] []
    ∷ node role.Body kind.TSTypeAliasDeclaration []
    (binding role.Id (codes "A") ∷ node role.ValueType kind.TSLiteralType [] (number role.Literal (codes "1") ∷ []) ∷ [])
    ∷ function role.Body (codes "f")
    (node role.Items kind.FormalParameter []
    (binding role.Pattern (codes "a")
    ∷ node role.Annotation kind.TSTypeAnnotation [] (node role.Element kind.TSTypeReference [] (reference role.Name (codes "A") ∷ []) ∷ [])
    ∷ [])
    ∷ [])
    (node role.Body kind.TSTypeAliasDeclaration []
    (binding role.Id (codes "A") ∷ node role.ValueType kind.TSLiteralType [] (number role.Literal (codes "2") ∷ []) ∷ [])
    ∷ declared role.Body (codes "let")
    (binding role.Id (codes "b")
    ∷ node role.Annotation kind.TSTypeAnnotation [] (node role.Element kind.TSTypeReference [] (reference role.Name (codes "A") ∷ []) ∷ [])
    ∷ [])
    ∷ [])
    ∷ block role.Body
    (declared role.Body (codes "const") (binding role.Id (codes "A") ∷ number role.Init (codes "1") ∷ [])
    ∷ declared role.Body (codes "let")
    (binding role.Id (codes "c")
    ∷ node role.Annotation kind.TSTypeAnnotation [] (node role.Element kind.TSTypeReference [] (reference role.Name (codes "A") ∷ []) ∷ [])
    ∷ [])
    ∷ [])
    ∷ [])

-- `export {}; namespace A.B { export type T = 1 } import C = A.B; import D = A; let x: C.T; let y: D.B.T;`
abbrev pub equated : Tree
equated =
    program goal.Module lang.Ts
    (node role.Body kind.ExportNamedDeclaration [] []
    ∷ node role.Body kind.TSNamespaceDeclaration []
    (binding role.Id (codes "A")
    ∷ namespace role.Body (codes "B")
    (node role.Body kind.ExportDeclaration []
    (node role.Declaration kind.TSTypeAliasDeclaration []
    (binding role.Id (codes "T") ∷ node role.ValueType kind.TSLiteralType [] (number role.Literal (codes "1") ∷ []) ∷ [])
    ∷ [])
    ∷ [])
    ∷ [])
    ∷ node role.Body kind.TSImportEqualsDeclaration []
    (binding role.Id (codes "C")
    ∷ node role.Reference kind.TSQualifiedName [] (reference role.Left (codes "A") ∷ node role.Right kind.IdentifierName (codes "B") [] ∷ [])
    ∷ [])
    ∷ node role.Body kind.TSImportEqualsDeclaration [] (binding role.Id (codes "D") ∷ reference role.Reference (codes "A") ∷ [])
    ∷ declared role.Body (codes "let")
    (binding role.Id (codes "x")
    ∷ node role.Annotation kind.TSTypeAnnotation []
    (node role.Element kind.TSTypeReference []
    (node role.Name kind.TSQualifiedName [] (reference role.Left (codes "C") ∷ node role.Right kind.IdentifierName (codes "T") [] ∷ []) ∷ [])
    ∷ [])
    ∷ [])
    ∷ declared role.Body (codes "let")
    (binding role.Id (codes "y")
    ∷ node role.Annotation kind.TSTypeAnnotation []
    (node role.Element kind.TSTypeReference []
    (node role.Name kind.TSQualifiedName []
    (node role.Left kind.TSQualifiedName [] (reference role.Left (codes "D") ∷ node role.Right kind.IdentifierName (codes "B") [] ∷ [])
    ∷ node role.Right kind.IdentifierName (codes "T") []
    ∷ [])
    ∷ [])
    ∷ [])
    ∷ [])
    ∷ [])

-- `declare module "m" { const A: 1; export type { A as B }; } type A = 2;`
abbrev pub typed_export_inside : Tree
typed_export_inside =
    program goal.Script lang.Ts
    (marked (mark.Declare ∷ []) role.Body kind.TSExternalModuleDeclaration []
    (node role.Id kind.StringLiteral (codes "m") []
    ∷ node role.Body kind.TSModuleBlock []
    (node role.Body kind.VariableDeclaration (codes "const")
    (node role.Declarators kind.VariableDeclarator []
    (node role.Id kind.BindingIdentifier (codes "A") []
    ∷ node role.Annotation kind.TSTypeAnnotation []
    (node role.Element kind.TSLiteralType []
    (marked (mark.Decimal ∷ []) role.Literal kind.NumericLiteral (codes "1") []
    ∷ [])
    ∷ [])
    ∷ [])
    ∷ [])
    ∷ marked (mark.TypeOnly ∷ []) role.Body kind.ExportNamedDeclaration []
    (node role.Specifiers kind.ExportSpecifier []
    (node role.Local kind.IdentifierReference (codes "A") []
    ∷ node role.Exported kind.IdentifierName (codes "B") []
    ∷ [])
    ∷ [])
    ∷ [])
    ∷ [])
    ∷ node role.Body kind.TSTypeAliasDeclaration []
    (node role.Id kind.BindingIdentifier (codes "A") []
    ∷ node role.ValueType kind.TSLiteralType []
    (marked (mark.Decimal ∷ []) role.Literal kind.NumericLiteral (codes "2") []
    ∷ [])
    ∷ [])
    ∷ [])

-- `export {}; let k = 1; let x: { [k: string]: typeof k };`
abbrev pub index_parameters : Tree
index_parameters =
    program goal.Module lang.Ts
    (node role.Body kind.ExportNamedDeclaration [] []
    ∷ declared role.Body (codes "let") (binding role.Id (codes "k") ∷ number role.Init (codes "1") ∷ [])
    ∷ declared role.Body (codes "let")
    (binding role.Id (codes "x")
    ∷ node role.Annotation kind.TSTypeAnnotation []
    (node role.Element kind.TSTypeLiteral []
    (node role.Members kind.TSIndexSignature []
    (node role.Parameters kind.TSIndexSignatureName (codes "k")
    (node role.Annotation kind.TSTypeAnnotation [] (node role.Element kind.TSStringKeyword [] [] ∷ []) ∷ [])
    ∷ node role.Annotation kind.TSTypeAnnotation [] (node role.Element kind.TSTypeQuery [] (reference role.Name (codes "k") ∷ []) ∷ [])
    ∷ [])
    ∷ [])
    ∷ [])
    ∷ [])
    ∷ [])

-- `export {}; { { var a; } a; } function f(a: 1) { { var a; } a; }`
abbrev pub hoisted_names : Tree
hoisted_names =
    program goal.Module lang.Ts
    (node role.Body kind.ExportNamedDeclaration [] []
    ∷ block role.Body (block role.Body (declared role.Body (codes "var") (binding role.Id (codes "a") ∷ []) ∷ []) ∷ mention (codes "a") ∷ [])
    ∷ function role.Body (codes "f")
    (node role.Items kind.FormalParameter []
    (binding role.Pattern (codes "a")
    ∷ node role.Annotation kind.TSTypeAnnotation [] (node role.Element kind.TSLiteralType [] (number role.Literal (codes "1") ∷ []) ∷ [])
    ∷ [])
    ∷ [])
    (block role.Body (declared role.Body (codes "var") (binding role.Id (codes "a") ∷ []) ∷ []) ∷ mention (codes "a") ∷ [])
    ∷ [])

-- `export {}; { { var a; } type a = 1; } let b: a;`
abbrev pub passed_types : Tree
passed_types =
    program goal.Module lang.Ts
    (node role.Body kind.ExportNamedDeclaration [] []
    ∷ block role.Body
    (block role.Body (declared role.Body (codes "var") (binding role.Id (codes "a") ∷ []) ∷ [])
    ∷ node role.Body kind.TSTypeAliasDeclaration []
    (binding role.Id (codes "a") ∷ node role.ValueType kind.TSLiteralType [] (number role.Literal (codes "1") ∷ []) ∷ [])
    ∷ [])
    ∷ declared role.Body (codes "let")
    (binding role.Id (codes "b")
    ∷ node role.Annotation kind.TSTypeAnnotation [] (node role.Element kind.TSTypeReference [] (reference role.Name (codes "a") ∷ []) ∷ [])
    ∷ [])
    ∷ [])

-- `export {}; let f; (function f() { f; });`
abbrev pub own_names : Tree
own_names =
    program goal.Module lang.Ts
    (node role.Body kind.ExportNamedDeclaration [] []
    ∷ variable (codes "let") (codes "f")
    ∷ statement (in_parentheses role.Expression (named_expression role.Expression (codes "f") [] (mention (codes "f") ∷ [])))
    ∷ [])

-- `export {}; let f; (function f<f>() { f; });`
abbrev pub own_types : Tree
own_types =
    program goal.Module lang.Ts
    (node role.Body kind.ExportNamedDeclaration [] []
    ∷ variable (codes "let") (codes "f")
    ∷ statement
    (in_parentheses role.Expression
    (node role.Expression kind.Function (codes "expression")
    (binding role.Id (codes "f")
    ∷ node role.TypeParameters kind.TSTypeParameterDeclaration [] (node role.Params kind.TSTypeParameter [] (binding role.Name (codes "f") ∷ []) ∷ [])
    ∷ parameters []
    ∷ function_body (mention (codes "f") ∷ [])
    ∷ [])))
    ∷ [])

-- `export {}; let a = 1; class C { m(@a a: 1) { a; } }`
abbrev pub decorated_parameters : Tree
decorated_parameters =
    program goal.Module lang.Ts
    (node role.Body kind.ExportNamedDeclaration [] []
    ∷ declared role.Body (codes "let") (binding role.Id (codes "a") ∷ number role.Init (codes "1") ∷ [])
    ∷ node role.Body kind.Class (codes "declaration")
    (binding role.Id (codes "C")
    ∷ node role.Body kind.ClassBody []
    (node role.Body kind.MethodDefinition (codes "method")
    (node role.Key kind.IdentifierName (codes "m") []
    ∷ node role.Value kind.Function (codes "expression")
    (node role.Params kind.FormalParameters (codes "unique")
    (node role.Items kind.FormalParameter []
    (node role.Decorators kind.Decorator [] (reference role.Expression (codes "a") ∷ [])
    ∷ binding role.Pattern (codes "a")
    ∷ node role.Annotation kind.TSTypeAnnotation [] (node role.Element kind.TSLiteralType [] (number role.Literal (codes "1") ∷ []) ∷ [])
    ∷ [])
    ∷ [])
    ∷ function_body (mention (codes "a") ∷ [])
    ∷ [])
    ∷ [])
    ∷ [])
    ∷ [])
    ∷ [])

-- `export {}; let e; try {} catch (e) { e; } e;`
abbrev pub caught_names : Tree
caught_names =
    program goal.Module lang.Ts
    (node role.Body kind.ExportNamedDeclaration [] []
    ∷ declared role.Body (codes "let") (binding role.Id (codes "e") ∷ [])
    ∷ node role.Body kind.TryStatement []
    (block role.Block []
    ∷ catch_clause role.Handler (binding role.Pattern (codes "e")) (mention (codes "e") ∷ [])
    ∷ [])
    ∷ mention (codes "e")
    ∷ [])

-- `export {}; try {} catch (e) { type e = 1; let b: e; e; }`
abbrev pub caught_types : Tree
caught_types =
    program goal.Module lang.Ts
    (node role.Body kind.ExportNamedDeclaration [] []
    ∷ node role.Body kind.TryStatement []
    (block role.Block []
    ∷ catch_clause role.Handler (binding role.Pattern (codes "e"))
    (node role.Body kind.TSTypeAliasDeclaration []
    (binding role.Id (codes "e") ∷ node role.ValueType kind.TSLiteralType [] (number role.Literal (codes "1") ∷ []) ∷ [])
    ∷ declared role.Body (codes "let")
    (binding role.Id (codes "b")
    ∷ node role.Annotation kind.TSTypeAnnotation [] (node role.Element kind.TSTypeReference [] (reference role.Name (codes "e") ∷ []) ∷ [])
    ∷ [])
    ∷ mention (codes "e")
    ∷ [])
    ∷ [])
    ∷ [])
