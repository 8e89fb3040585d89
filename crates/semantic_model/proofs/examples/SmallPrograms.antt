-- Trees of small programs.
use Rattle.std.specs.Prelude.{ℕ, List, [], ◌∷◌, codes}
use Rattle.semantic_syntax.specs.declared.source_type.Goal.{Goal}
use Rattle.semantic_syntax.specs.declared.source_type.Goal.TheVariants as goal
use Rattle.semantic_syntax.specs.declared.source_type.Lang.{Lang}
use Rattle.semantic_syntax.specs.declared.source_type.Lang.TheVariants as lang
use Rattle.semantic_kinds.specs.declared.kind.AstType.{AstType}
use Rattle.semantic_kinds.specs.declared.kind.AstType.TheVariants as kind
use Rattle.semantic_kinds.specs.declared.role.Role.{Role}
use Rattle.semantic_kinds.specs.declared.role.Role.TheVariants as role
use Rattle.semantic_kinds.specs.declared.mark.Mark.TheVariants as mark
use Rattle.semantic_kinds.specs.declared.marks.Marks.{Marks}
use Rattle.semantic_kinds.specs.MarkSets.{no_marks, set_of}
use Rattle.semantic_tree.specs.Forest.{Forest, nothing, tree, join}
use Rattle.semantic_tree.specs.Tree.{Tree, numbered_tree}

-- a node with its marks and what is below it; ids are given in the end
abbrev marked : Marks → Role → AstType → ℕ → ℕ → List ℕ → Forest → Forest
marked marks r k start stop text below = tree r k (record { start = start; end = stop }) text marks below 0 nothing

abbrev node : Role → AstType → ℕ → ℕ → List ℕ → Forest → Forest
node = marked no_marks

-- nodes side by side
abbrev all : List Forest → Forest
all [] = nothing
all (f ∷ fs) = join f (all fs)

abbrev program : Goal → Lang → ℕ → Forest → Tree
program g l stop below = numbered_tree (record {
  source = [];
  source_type = record { goal = g; lang = l };
  comments = [];
  root = record { kind = kind.Program; span = record { start = 0; end = stop }; text = []; marks = no_marks; children = below; node_id = 0 };
})

-- `x; var x;`
abbrev pub use_before_var : Tree
use_before_var =
    program goal.Script lang.Js 9
    (all (
    (node role.Body kind.ExpressionStatement 0 1 []
    (node role.Expression kind.IdentifierReference 0 1 (codes "x") nothing)) ∷
    (node role.Body kind.VariableDeclaration 7 8 (codes "var")
    (node role.Declarators kind.VariableDeclarator 7 8 []
    (node role.Id kind.BindingIdentifier 7 8 (codes "x") nothing))) ∷ []))

-- `function f(a = x) { var x; }`
abbrev pub default_sees_outside : Tree
default_sees_outside =
    program goal.Script lang.Js 28
    (node role.Body kind.Function 9 25 (codes "declaration")
    (all (
    (node role.Id kind.BindingIdentifier 9 10 (codes "f") nothing) ∷
    (node role.Params kind.FormalParameters 11 16 (codes "formal")
    (node role.Items kind.FormalParameter 11 16 []
    (all (
    (node role.Pattern kind.BindingIdentifier 11 12 (codes "a") nothing) ∷
    (node role.Initializer kind.IdentifierReference 15 16 (codes "x") nothing) ∷ [])))) ∷
    (node role.Body kind.FunctionBody 24 25 []
    (node role.Body kind.VariableDeclaration 24 25 (codes "var")
    (node role.Declarators kind.VariableDeclarator 24 25 []
    (node role.Id kind.BindingIdentifier 24 25 (codes "x") nothing)))) ∷ [])))

-- `function f(a = function g(b = y) { var y; }) { var y; } var y;`
abbrev pub nested_headers : Tree
nested_headers =
    program goal.Script lang.Js 62
    (all (
    (node role.Body kind.Function 9 52 (codes "declaration")
    (all (
    (node role.Id kind.BindingIdentifier 9 10 (codes "f") nothing) ∷
    (node role.Params kind.FormalParameters 11 40 (codes "formal")
    (node role.Items kind.FormalParameter 11 40 []
    (all (
    (node role.Pattern kind.BindingIdentifier 11 12 (codes "a") nothing) ∷
    (node role.Initializer kind.Function 24 40 (codes "expression")
    (all (
    (node role.Id kind.BindingIdentifier 24 25 (codes "g") nothing) ∷
    (node role.Params kind.FormalParameters 26 31 (codes "formal")
    (node role.Items kind.FormalParameter 26 31 []
    (all (
    (node role.Pattern kind.BindingIdentifier 26 27 (codes "b") nothing) ∷
    (node role.Initializer kind.IdentifierReference 30 31 (codes "y") nothing) ∷ [])))) ∷
    (node role.Body kind.FunctionBody 39 40 []
    (node role.Body kind.VariableDeclaration 39 40 (codes "var")
    (node role.Declarators kind.VariableDeclarator 39 40 []
    (node role.Id kind.BindingIdentifier 39 40 (codes "y") nothing)))) ∷ []))) ∷ [])))) ∷
    (node role.Body kind.FunctionBody 51 52 []
    (node role.Body kind.VariableDeclaration 51 52 (codes "var")
    (node role.Declarators kind.VariableDeclarator 51 52 []
    (node role.Id kind.BindingIdentifier 51 52 (codes "y") nothing)))) ∷ []))) ∷
    (node role.Body kind.VariableDeclaration 60 61 (codes "var")
    (node role.Declarators kind.VariableDeclarator 60 61 []
    (node role.Id kind.BindingIdentifier 60 61 (codes "y") nothing))) ∷ []))

-- `try {} catch ({ a = () => a }) {}`
abbrev pub catch_pattern_with_arrow : Tree
catch_pattern_with_arrow =
    program goal.Script lang.Js 33
    (node role.Body kind.TryStatement 0 27 []
    (all (
    (node role.Block kind.BlockStatement 0 0 [] nothing) ∷
    (node role.Handler kind.CatchClause 16 27 []
    (all (
    (node role.Param kind.CatchParameter 16 27 []
    (node role.Pattern kind.ObjectPattern 16 27 []
    (marked (set_of (mark.Shorthand ∷ [])) role.Properties kind.BindingProperty 16 27 []
    (all (
    (node role.Key kind.IdentifierName 16 17 (codes "a") nothing) ∷
    (node role.Value kind.AssignmentPattern 17 27 []
    (all (
    (node role.Left kind.BindingIdentifier 17 17 (codes "a") nothing) ∷
    (node role.Right kind.ArrowFunctionExpression 17 27 []
    (all (
    (node role.Params kind.FormalParameters 17 17 (codes "arrow") nothing) ∷
    (node role.Body kind.IdentifierReference 26 27 (codes "a") nothing) ∷ []))) ∷ []))) ∷ []))))) ∷
    (node role.Body kind.BlockStatement 27 27 [] nothing) ∷ []))) ∷ [])))

-- `try {} catch (e) { var e }`
abbrev pub var_in_catch : Tree
var_in_catch =
    program goal.Script lang.Js 26
    (node role.Body kind.TryStatement 0 24 []
    (all (
    (node role.Block kind.BlockStatement 0 0 [] nothing) ∷
    (node role.Handler kind.CatchClause 14 24 []
    (all (
    (node role.Param kind.CatchParameter 14 15 []
    (node role.Pattern kind.BindingIdentifier 14 15 (codes "e") nothing)) ∷
    (node role.Body kind.BlockStatement 23 24 []
    (node role.Body kind.VariableDeclaration 23 24 (codes "var")
    (node role.Declarators kind.VariableDeclarator 23 24 []
    (node role.Id kind.BindingIdentifier 23 24 (codes "e") nothing)))) ∷ []))) ∷ [])))

-- `{ function f() {} } f;`
abbrev pub function_moves : Tree
function_moves =
    program goal.Script lang.Js 22
    (all (
    (node role.Body kind.BlockStatement 11 12 []
    (node role.Body kind.Function 11 12 (codes "declaration")
    (all (
    (node role.Id kind.BindingIdentifier 11 12 (codes "f") nothing) ∷
    (node role.Params kind.FormalParameters 12 12 (codes "formal") nothing) ∷
    (node role.Body kind.FunctionBody 12 12 [] nothing) ∷ [])))) ∷
    (node role.Body kind.ExpressionStatement 20 21 []
    (node role.Expression kind.IdentifierReference 20 21 (codes "f") nothing)) ∷ []))

-- module `{ function f() {} } f;`
abbrev pub function_in_module : Tree
function_in_module =
    program goal.Module lang.Js 22
    (all (
    (node role.Body kind.BlockStatement 11 12 []
    (node role.Body kind.Function 11 12 (codes "declaration")
    (all (
    (node role.Id kind.BindingIdentifier 11 12 (codes "f") nothing) ∷
    (node role.Params kind.FormalParameters 12 12 (codes "formal") nothing) ∷
    (node role.Body kind.FunctionBody 12 12 [] nothing) ∷ [])))) ∷
    (node role.Body kind.ExpressionStatement 20 21 []
    (node role.Expression kind.IdentifierReference 20 21 (codes "f") nothing)) ∷ []))

-- `{ let f; { function f() {} f; } }`
abbrev pub function_below_lexical : Tree
function_below_lexical =
    program goal.Script lang.Js 33
    (node role.Body kind.BlockStatement 6 28 []
    (all (
    (node role.Body kind.VariableDeclaration 6 7 (codes "let")
    (node role.Declarators kind.VariableDeclarator 6 7 []
    (node role.Id kind.BindingIdentifier 6 7 (codes "f") nothing))) ∷
    (node role.Body kind.BlockStatement 20 28 []
    (all (
    (node role.Body kind.Function 20 21 (codes "declaration")
    (all (
    (node role.Id kind.BindingIdentifier 20 21 (codes "f") nothing) ∷
    (node role.Params kind.FormalParameters 21 21 (codes "formal") nothing) ∷
    (node role.Body kind.FunctionBody 21 21 [] nothing) ∷ []))) ∷
    (node role.Body kind.ExpressionStatement 27 28 []
    (node role.Expression kind.IdentifierReference 27 28 (codes "f") nothing)) ∷ []))) ∷ [])))

-- `{ { function f() {} } let f; }`
abbrev pub lexical_after_function : Tree
lexical_after_function =
    program goal.Script lang.Js 30
    (node role.Body kind.BlockStatement 13 27 []
    (all (
    (node role.Body kind.BlockStatement 13 14 []
    (node role.Body kind.Function 13 14 (codes "declaration")
    (all (
    (node role.Id kind.BindingIdentifier 13 14 (codes "f") nothing) ∷
    (node role.Params kind.FormalParameters 14 14 (codes "formal") nothing) ∷
    (node role.Body kind.FunctionBody 14 14 [] nothing) ∷ [])))) ∷
    (node role.Body kind.VariableDeclaration 26 27 (codes "let")
    (node role.Declarators kind.VariableDeclarator 26 27 []
    (node role.Id kind.BindingIdentifier 26 27 (codes "f") nothing))) ∷ [])))

-- `{ function f() {} { function f() {} f; } }`
abbrev pub function_below_function : Tree
function_below_function =
    program goal.Script lang.Js 42
    (node role.Body kind.BlockStatement 11 37 []
    (all (
    (node role.Body kind.Function 11 12 (codes "declaration")
    (all (
    (node role.Id kind.BindingIdentifier 11 12 (codes "f") nothing) ∷
    (node role.Params kind.FormalParameters 12 12 (codes "formal") nothing) ∷
    (node role.Body kind.FunctionBody 12 12 [] nothing) ∷ []))) ∷
    (node role.Body kind.BlockStatement 29 37 []
    (all (
    (node role.Body kind.Function 29 30 (codes "declaration")
    (all (
    (node role.Id kind.BindingIdentifier 29 30 (codes "f") nothing) ∷
    (node role.Params kind.FormalParameters 30 30 (codes "formal") nothing) ∷
    (node role.Body kind.FunctionBody 30 30 [] nothing) ∷ []))) ∷
    (node role.Body kind.ExpressionStatement 36 37 []
    (node role.Expression kind.IdentifierReference 36 37 (codes "f") nothing)) ∷ []))) ∷ [])))

-- `try {} catch (f) { { function f() {} } }`
abbrev pub function_past_catch_name : Tree
function_past_catch_name =
    program goal.Script lang.Js 40
    (node role.Body kind.TryStatement 0 31 []
    (all (
    (node role.Block kind.BlockStatement 0 0 [] nothing) ∷
    (node role.Handler kind.CatchClause 14 31 []
    (all (
    (node role.Param kind.CatchParameter 14 15 []
    (node role.Pattern kind.BindingIdentifier 14 15 (codes "f") nothing)) ∷
    (node role.Body kind.BlockStatement 30 31 []
    (node role.Body kind.BlockStatement 30 31 []
    (node role.Body kind.Function 30 31 (codes "declaration")
    (all (
    (node role.Id kind.BindingIdentifier 30 31 (codes "f") nothing) ∷
    (node role.Params kind.FormalParameters 31 31 (codes "formal") nothing) ∷
    (node role.Body kind.FunctionBody 31 31 [] nothing) ∷ []))))) ∷ []))) ∷ [])))

-- `try {} catch ({ f }) { { function f() {} } }`
abbrev pub function_below_catch_pattern : Tree
function_below_catch_pattern =
    program goal.Script lang.Js 44
    (node role.Body kind.TryStatement 0 35 []
    (all (
    (node role.Block kind.BlockStatement 0 0 [] nothing) ∷
    (node role.Handler kind.CatchClause 16 35 []
    (all (
    (node role.Param kind.CatchParameter 16 17 []
    (node role.Pattern kind.ObjectPattern 16 17 []
    (marked (set_of (mark.Shorthand ∷ [])) role.Properties kind.BindingProperty 16 17 []
    (all (
    (node role.Key kind.IdentifierName 16 17 (codes "f") nothing) ∷
    (node role.Value kind.BindingIdentifier 17 17 (codes "f") nothing) ∷ []))))) ∷
    (node role.Body kind.BlockStatement 34 35 []
    (node role.Body kind.BlockStatement 34 35 []
    (node role.Body kind.Function 34 35 (codes "declaration")
    (all (
    (node role.Id kind.BindingIdentifier 34 35 (codes "f") nothing) ∷
    (node role.Params kind.FormalParameters 35 35 (codes "formal") nothing) ∷
    (node role.Body kind.FunctionBody 35 35 [] nothing) ∷ []))))) ∷ []))) ∷ [])))

-- TypeScript `type T = 1; { let T; let y: T; }`
abbrev pub type_past_value : Tree
type_past_value =
    program goal.Script lang.Ts 32
    (all (
    (node role.Body kind.TSTypeAliasDeclaration 5 10 []
    (all (
    (node role.Id kind.BindingIdentifier 5 6 (codes "T") nothing) ∷
    (node role.ValueType kind.TSLiteralType 9 10 []
    (marked (set_of (mark.Decimal ∷ [])) role.Literal kind.NumericLiteral 9 10 (codes "1") nothing)) ∷ []))) ∷
    (node role.Body kind.BlockStatement 18 29 []
    (all (
    (node role.Body kind.VariableDeclaration 18 19 (codes "let")
    (node role.Declarators kind.VariableDeclarator 18 19 []
    (node role.Id kind.BindingIdentifier 18 19 (codes "T") nothing))) ∷
    (node role.Body kind.VariableDeclaration 25 29 (codes "let")
    (node role.Declarators kind.VariableDeclarator 25 29 []
    (all (
    (node role.Id kind.BindingIdentifier 25 26 (codes "y") nothing) ∷
    (node role.Annotation kind.TSTypeAnnotation 28 29 []
    (node role.Element kind.TSTypeReference 28 29 []
    (node role.Name kind.IdentifierReference 28 29 (codes "T") nothing))) ∷ [])))) ∷ []))) ∷ []))

-- TypeScript `declare namespace N { export { N } }`
abbrev pub namespace_of_itself : Tree
namespace_of_itself =
    program goal.Script lang.Ts 36
    (marked (set_of (mark.Declare ∷ [])) role.Body kind.TSNamespaceDeclaration 18 32 []
    (all (
    (node role.Id kind.BindingIdentifier 18 19 (codes "N") nothing) ∷
    (node role.Body kind.TSModuleBlock 31 32 []
    (node role.Body kind.ExportNamedDeclaration 31 32 []
    (node role.Specifiers kind.ExportSpecifier 31 32 []
    (all (
    (node role.Local kind.IdentifierReference 31 32 (codes "N") nothing) ∷
    (node role.Exported kind.IdentifierName 32 32 (codes "N") nothing) ∷ []))))) ∷ [])))

-- `var arguments; function f() { arguments }`
abbrev pub arguments_outside : Tree
arguments_outside =
    program goal.Script lang.Js 41
    (all (
    (node role.Body kind.VariableDeclaration 4 13 (codes "var")
    (node role.Declarators kind.VariableDeclarator 4 13 []
    (node role.Id kind.BindingIdentifier 4 13 (codes "arguments") nothing))) ∷
    (node role.Body kind.Function 24 39 (codes "declaration")
    (all (
    (node role.Id kind.BindingIdentifier 24 25 (codes "f") nothing) ∷
    (node role.Params kind.FormalParameters 25 25 (codes "formal") nothing) ∷
    (node role.Body kind.FunctionBody 30 39 []
    (node role.Body kind.ExpressionStatement 30 39 []
    (node role.Expression kind.IdentifierReference 30 39 (codes "arguments") nothing))) ∷ []))) ∷ []))

-- `let a; let a;`
abbrev pub declared_twice : Tree
declared_twice =
    program goal.Script lang.Js 13
    (all (
    (node role.Body kind.VariableDeclaration 4 5 (codes "let")
    (node role.Declarators kind.VariableDeclarator 4 5 []
    (node role.Id kind.BindingIdentifier 4 5 (codes "a") nothing))) ∷
    (node role.Body kind.VariableDeclaration 11 12 (codes "let")
    (node role.Declarators kind.VariableDeclarator 11 12 []
    (node role.Id kind.BindingIdentifier 11 12 (codes "a") nothing))) ∷ []))

-- `(function f() { try {} catch (f) { var f } let f })`
abbrev pub catch_in_expression : Tree
catch_in_expression =
    program goal.Script lang.Js 51
    (node role.Body kind.ExpressionStatement 10 48 []
    (node role.Expression kind.ParenthesizedExpression 10 48 []
    (node role.Expression kind.Function 10 48 (codes "expression")
    (all (
    (node role.Id kind.BindingIdentifier 10 11 (codes "f") nothing) ∷
    (node role.Params kind.FormalParameters 11 11 (codes "formal") nothing) ∷
    (node role.Body kind.FunctionBody 11 48 []
    (all (
    (node role.Body kind.TryStatement 11 40 []
    (all (
    (node role.Block kind.BlockStatement 11 11 [] nothing) ∷
    (node role.Handler kind.CatchClause 30 40 []
    (all (
    (node role.Param kind.CatchParameter 30 31 []
    (node role.Pattern kind.BindingIdentifier 30 31 (codes "f") nothing)) ∷
    (node role.Body kind.BlockStatement 39 40 []
    (node role.Body kind.VariableDeclaration 39 40 (codes "var")
    (node role.Declarators kind.VariableDeclarator 39 40 []
    (node role.Id kind.BindingIdentifier 39 40 (codes "f") nothing)))) ∷ []))) ∷ []))) ∷
    (node role.Body kind.VariableDeclaration 47 48 (codes "let")
    (node role.Declarators kind.VariableDeclarator 47 48 []
    (node role.Id kind.BindingIdentifier 47 48 (codes "f") nothing))) ∷ []))) ∷ [])))))

-- TypeScript `class C { m(@d(a) a) {} }`
abbrev pub parameter_decorator : Tree
parameter_decorator =
    program goal.Script lang.Ts 25
    (node role.Body kind.Class 6 19 (codes "declaration")
    (all (
    (node role.Id kind.BindingIdentifier 6 7 (codes "C") nothing) ∷
    (node role.Body kind.ClassBody 10 19 []
    (node role.Body kind.MethodDefinition 10 19 (codes "method")
    (all (
    (node role.Key kind.IdentifierName 10 11 (codes "m") nothing) ∷
    (node role.Value kind.Function 13 19 (codes "expression")
    (all (
    (node role.Params kind.FormalParameters 13 19 (codes "formal")
    (node role.Items kind.FormalParameter 13 19 []
    (all (
    (node role.Decorators kind.Decorator 13 16 []
    (node role.Expression kind.CallExpression 13 16 []
    (all (
    (node role.Callee kind.IdentifierReference 13 14 (codes "d") nothing) ∷
    (node role.Arguments kind.IdentifierReference 15 16 (codes "a") nothing) ∷ [])))) ∷
    (node role.Pattern kind.BindingIdentifier 18 19 (codes "a") nothing) ∷ [])))) ∷
    (node role.Body kind.FunctionBody 19 19 [] nothing) ∷ []))) ∷ [])))) ∷ [])))

-- `let a; let b; let c; b[c[a = c['a']] = 'c'] = 'b'`
abbrev pub ways : Tree
ways =
    program goal.Script lang.Js 49
    (all (
    (node role.Body kind.VariableDeclaration 4 5 (codes "let")
    (node role.Declarators kind.VariableDeclarator 4 5 []
    (node role.Id kind.BindingIdentifier 4 5 (codes "a") nothing))) ∷
    (node role.Body kind.VariableDeclaration 11 12 (codes "let")
    (node role.Declarators kind.VariableDeclarator 11 12 []
    (node role.Id kind.BindingIdentifier 11 12 (codes "b") nothing))) ∷
    (node role.Body kind.VariableDeclaration 18 19 (codes "let")
    (node role.Declarators kind.VariableDeclarator 18 19 []
    (node role.Id kind.BindingIdentifier 18 19 (codes "c") nothing))) ∷
    (node role.Body kind.ExpressionStatement 21 49 []
    (node role.Expression kind.AssignmentExpression 21 49 (codes "=")
    (all (
    (node role.Left kind.ComputedMemberExpression 21 42 []
    (all (
    (node role.Object kind.IdentifierReference 21 22 (codes "b") nothing) ∷
    (node role.Expression kind.AssignmentExpression 23 42 (codes "=")
    (all (
    (node role.Left kind.ComputedMemberExpression 23 34 []
    (all (
    (node role.Object kind.IdentifierReference 23 24 (codes "c") nothing) ∷
    (node role.Expression kind.AssignmentExpression 25 34 (codes "=")
    (all (
    (node role.Left kind.IdentifierReference 25 26 (codes "a") nothing) ∷
    (node role.Right kind.ComputedMemberExpression 29 34 []
    (all (
    (node role.Object kind.IdentifierReference 29 30 (codes "c") nothing) ∷
    (node role.Expression kind.StringLiteral 31 34 (codes "a") nothing) ∷ []))) ∷ []))) ∷ []))) ∷
    (node role.Right kind.StringLiteral 39 42 (codes "c") nothing) ∷ []))) ∷ []))) ∷
    (node role.Right kind.StringLiteral 46 49 (codes "b") nothing) ∷ [])))) ∷ []))

-- `let a; function f(b) { return b; } f(a);`
abbrev pub whole : Tree
whole =
    program goal.Script lang.Js 40
    (all (
    (node role.Body kind.VariableDeclaration 0 6 (codes "let")
    (node role.Declarators kind.VariableDeclarator 4 5 []
    (node role.Id kind.BindingIdentifier 4 5 (codes "a") nothing))) ∷
    (node role.Body kind.Function 7 34 (codes "declaration")
    (all (
    (node role.Id kind.BindingIdentifier 16 17 (codes "f") nothing) ∷
    (node role.Params kind.FormalParameters 18 19 (codes "formal")
    (node role.Items kind.FormalParameter 18 19 []
    (node role.Pattern kind.BindingIdentifier 18 19 (codes "b") nothing))) ∷
    (node role.Body kind.FunctionBody 30 31 []
    (node role.Body kind.ReturnStatement 30 31 []
    (node role.Argument kind.IdentifierReference 30 31 (codes "b") nothing))) ∷ []))) ∷
    (node role.Body kind.ExpressionStatement 35 38 []
    (node role.Expression kind.CallExpression 35 38 []
    (all (
    (node role.Callee kind.IdentifierReference 35 36 (codes "f") nothing) ∷
    (node role.Arguments kind.IdentifierReference 37 38 (codes "a") nothing) ∷ [])))) ∷ []))
