-- Trees of small programs without a tangled name.
use Rattle.std.specs.Prelude.{[], ◌∷◌, codes}
use Rattle.semantic_syntax.specs.declared.source_type.Goal.TheVariants as goal
use Rattle.semantic_syntax.specs.declared.source_type.Lang.TheVariants as lang
use Rattle.semantic_kinds.specs.declared.kind.AstType.TheVariants as kind
use Rattle.semantic_kinds.specs.declared.role.Role.TheVariants as role
use Rattle.semantic_kinds.specs.declared.mark.Mark.TheVariants as mark
use Rattle.semantic_tree.specs.Tree.{Tree}
use Rattle.tangle_model.proofs.ProgramTrees.{marked, node, program, binding, block, catch_clause, declarator, declared, defaulted, function, function_body, function_parts, in_parentheses, mention, named_expression, number, parameter, reference, statement, variable}

-- `{ function f() {} f } f`
abbrev pub one_block : Tree
one_block = program goal.Script lang.Js (block role.Body (function role.Body (codes "f") [] [] ∷ mention (codes "f") ∷ []) ∷ mention (codes "f") ∷ [])

-- `{ let f; { function f() {} f } f } f`
abbrev pub barred_block : Tree
barred_block =
    program goal.Script lang.Js
    (block role.Body
    (variable (codes "let") (codes "f")
    ∷ block role.Body (function role.Body (codes "f") [] [] ∷ mention (codes "f") ∷ [])
    ∷ mention (codes "f")
    ∷ [])
    ∷ mention (codes "f")
    ∷ [])

-- `"use strict"; { function f() {} f } f`
abbrev pub strict_block : Tree
strict_block =
    program goal.Script lang.Js
    (node role.Directives kind.Directive (codes "use strict") (node role.Expression kind.StringLiteral (codes "use strict") [] ∷ [])
    ∷ block role.Body (function role.Body (codes "f") [] [] ∷ mention (codes "f") ∷ [])
    ∷ mention (codes "f")
    ∷ [])

-- `function f(a = x, b = a) { var a, x; a; x } x`
abbrev pub header_and_var : Tree
header_and_var =
    program goal.Script lang.Js
    (function role.Body (codes "f")
    (defaulted (codes "a") (reference role.Initializer (codes "x")) ∷ defaulted (codes "b") (reference role.Initializer (codes "a")) ∷ [])
    (node role.Body kind.VariableDeclaration (codes "var") (declarator (codes "a") ∷ declarator (codes "x") ∷ [])
    ∷ mention (codes "a")
    ∷ mention (codes "x")
    ∷ [])
    ∷ mention (codes "x")
    ∷ [])

-- `function f(a) { var a; a; { let a; a } }`
abbrev pub parameter_and_var : Tree
parameter_and_var =
    program goal.Script lang.Js
    (function role.Body (codes "f") (parameter (codes "a") ∷ [])
    (variable (codes "var") (codes "a") ∷ mention (codes "a") ∷ block role.Body (variable (codes "let") (codes "a") ∷ mention (codes "a") ∷ []) ∷ [])
    ∷ [])

-- `(function f(a = f) { f; { let f; f } })`
abbrev pub own_name : Tree
own_name =
    program goal.Script lang.Js
    (statement
    (in_parentheses role.Expression
    (named_expression role.Expression (codes "f")
    (defaulted (codes "a") (reference role.Initializer (codes "f")) ∷ [])
    (mention (codes "f") ∷ block role.Body (variable (codes "let") (codes "f") ∷ mention (codes "f") ∷ []) ∷ [])))
    ∷ [])

-- `(function f(a = f) { var f; f })`
abbrev pub own_name_and_var : Tree
own_name_and_var =
    program goal.Script lang.Js
    (statement
    (in_parentheses role.Expression
    (named_expression role.Expression (codes "f")
    (defaulted (codes "a") (reference role.Initializer (codes "f")) ∷ [])
    (variable (codes "var") (codes "f") ∷ mention (codes "f") ∷ [])))
    ∷ [])

-- `class C extends (C) { [C]() { C } static { var a; a } } (class D { m() { D } }); D; C; a`
abbrev pub classes : Tree
classes =
    program goal.Script lang.Js
    (node role.Body kind.Class (codes "declaration")
    (binding role.Id (codes "C")
    ∷ in_parentheses role.Heritage (reference role.Expression (codes "C"))
    ∷ node role.Body kind.ClassBody []
    (marked (mark.Computed ∷ []) role.Body kind.MethodDefinition (codes "method")
    (reference role.Key (codes "C")
    ∷ node role.Value kind.Function (codes "expression")
    (node role.Params kind.FormalParameters (codes "unique") [] ∷ function_body (mention (codes "C") ∷ []) ∷ [])
    ∷ [])
    ∷ node role.Body kind.StaticBlock [] (variable (codes "var") (codes "a") ∷ mention (codes "a") ∷ [])
    ∷ [])
    ∷ [])
    ∷ statement
    (in_parentheses role.Expression
    (node role.Expression kind.Class (codes "expression")
    (binding role.Id (codes "D")
    ∷ node role.Body kind.ClassBody []
    (node role.Body kind.MethodDefinition (codes "method")
    (node role.Key kind.IdentifierName (codes "m") []
    ∷ node role.Value kind.Function (codes "expression")
    (node role.Params kind.FormalParameters (codes "unique") [] ∷ function_body (mention (codes "D") ∷ []) ∷ [])
    ∷ [])
    ∷ [])
    ∷ [])))
    ∷ mention (codes "D")
    ∷ mention (codes "C")
    ∷ mention (codes "a")
    ∷ [])

-- `for (let a of a) { a; var b; } for (const a in b) a; a`
abbrev pub loops : Tree
loops =
    program goal.Script lang.Js
    (node role.Body kind.ForOfStatement []
    (declared role.Left (codes "let") (binding role.Id (codes "a") ∷ [])
    ∷ reference role.Right (codes "a")
    ∷ block role.Body (mention (codes "a") ∷ variable (codes "var") (codes "b") ∷ [])
    ∷ [])
    ∷ node role.Body kind.ForInStatement []
    (declared role.Left (codes "const") (binding role.Id (codes "a") ∷ []) ∷ reference role.Right (codes "b") ∷ mention (codes "a") ∷ [])
    ∷ mention (codes "a")
    ∷ [])

-- `switch (a) { case a: let a; default: a }`
abbrev pub cases : Tree
cases =
    program goal.Script lang.Js
    (node role.Body kind.SwitchStatement []
    (reference role.Discriminant (codes "a")
    ∷ node role.Cases kind.SwitchCase []
    (reference role.Test (codes "a") ∷ declared role.Consequent (codes "let") (binding role.Id (codes "a") ∷ []) ∷ [])
    ∷ node role.Cases kind.SwitchCase [] (node role.Consequent kind.ExpressionStatement [] (reference role.Expression (codes "a") ∷ []) ∷ [])
    ∷ [])
    ∷ [])

-- `try {} catch (e) { e; { var a; } } try {} catch ({ b = c, c }) { b; c } a; b; e`
abbrev pub catches : Tree
catches =
    program goal.Script lang.Js
    (node role.Body kind.TryStatement []
    (block role.Block []
    ∷ catch_clause role.Handler (binding role.Pattern (codes "e"))
    (mention (codes "e") ∷ block role.Body (variable (codes "var") (codes "a") ∷ []) ∷ [])
    ∷ [])
    ∷ node role.Body kind.TryStatement []
    (block role.Block []
    ∷ catch_clause role.Handler
    (node role.Pattern kind.ObjectPattern []
    (marked (mark.Shorthand ∷ []) role.Properties kind.BindingProperty []
    (node role.Key kind.IdentifierName (codes "b") []
    ∷ node role.Value kind.AssignmentPattern [] (binding role.Left (codes "b") ∷ reference role.Right (codes "c") ∷ [])
    ∷ [])
    ∷ marked (mark.Shorthand ∷ []) role.Properties kind.BindingProperty []
    (node role.Key kind.IdentifierName (codes "c") [] ∷ binding role.Value (codes "c") ∷ [])
    ∷ []))
    (mention (codes "b") ∷ mention (codes "c") ∷ [])
    ∷ [])
    ∷ mention (codes "a")
    ∷ mention (codes "b")
    ∷ mention (codes "e")
    ∷ [])

-- `(a => a)(); ((a, b = () => a) => { var a; a; c })(); let c`
abbrev pub arrows : Tree
arrows =
    program goal.Script lang.Js
    (statement
    (node role.Expression kind.CallExpression []
    (in_parentheses role.Callee
    (node role.Expression kind.ArrowFunctionExpression []
    (node role.Params kind.FormalParameters (codes "arrow") (parameter (codes "a") ∷ []) ∷ reference role.Body (codes "a") ∷ []))
    ∷ []))
    ∷ statement
    (node role.Expression kind.CallExpression []
    (in_parentheses role.Callee
    (node role.Expression kind.ArrowFunctionExpression []
    (node role.Params kind.FormalParameters (codes "arrow")
    (parameter (codes "a")
    ∷ defaulted (codes "b")
    (node role.Initializer kind.ArrowFunctionExpression []
    (node role.Params kind.FormalParameters (codes "arrow") [] ∷ reference role.Body (codes "a") ∷ []))
    ∷ [])
    ∷ function_body (variable (codes "var") (codes "a") ∷ mention (codes "a") ∷ mention (codes "c") ∷ [])
    ∷ []))
    ∷ []))
    ∷ variable (codes "let") (codes "c")
    ∷ [])

-- `import a, { b as c } from "m"; { function f() {} f } f; a; b; c; export { c as d }`
abbrev pub in_module : Tree
in_module =
    program goal.Module lang.Js
    (node role.Body kind.ImportDeclaration []
    (node role.Specifiers kind.ImportDefaultSpecifier [] (binding role.Local (codes "a") ∷ [])
    ∷ node role.Specifiers kind.ImportSpecifier [] (node role.Imported kind.IdentifierName (codes "b") [] ∷ binding role.Local (codes "c") ∷ [])
    ∷ node role.Source kind.StringLiteral (codes "m") []
    ∷ [])
    ∷ block role.Body (function role.Body (codes "f") [] [] ∷ mention (codes "f") ∷ [])
    ∷ mention (codes "f")
    ∷ mention (codes "a")
    ∷ mention (codes "b")
    ∷ mention (codes "c")
    ∷ node role.Body kind.ExportNamedDeclaration []
    (node role.Specifiers kind.ExportSpecifier [] (reference role.Local (codes "c") ∷ node role.Exported kind.IdentifierName (codes "d") [] ∷ [])
    ∷ [])
    ∷ [])

-- `if (1) function f() { f } f`
abbrev pub if_body : Tree
if_body =
    program goal.Script lang.Js
    (node role.Body kind.IfStatement [] (number role.Test (codes "1") ∷ function role.Consequent (codes "f") [] (mention (codes "f") ∷ []) ∷ [])
    ∷ mention (codes "f")
    ∷ [])

-- `{ l: function f() {} } f`
abbrev pub labelled : Tree
labelled =
    program goal.Script lang.Js
    (block role.Body
    (node role.Body kind.LabeledStatement [] (node role.Label kind.LabelIdentifier (codes "l") [] ∷ function role.Body (codes "f") [] [] ∷ []) ∷ [])
    ∷ mention (codes "f")
    ∷ [])

-- `{ async function f() {} f } { function* g() {} } f; g`
abbrev pub special_blocks : Tree
special_blocks =
    program goal.Script lang.Js
    (block role.Body
    (marked (mark.Async ∷ []) role.Body kind.Function (codes "declaration") (function_parts (codes "f") [] []) ∷ mention (codes "f") ∷ [])
    ∷ block role.Body (marked (mark.Generator ∷ []) role.Body kind.Function (codes "declaration") (function_parts (codes "g") [] []) ∷ [])
    ∷ mention (codes "f")
    ∷ mention (codes "g")
    ∷ [])

-- `function f() { arguments; (() => arguments)() } arguments`
abbrev pub reads_arguments : Tree
reads_arguments =
    program goal.Script lang.Js
    (function role.Body (codes "f") []
    (mention (codes "arguments")
    ∷ statement
    (node role.Expression kind.CallExpression []
    (in_parentheses role.Callee
    (node role.Expression kind.ArrowFunctionExpression []
    (node role.Params kind.FormalParameters (codes "arrow") [] ∷ reference role.Body (codes "arguments") ∷ []))
    ∷ []))
    ∷ [])
    ∷ mention (codes "arguments")
    ∷ [])
