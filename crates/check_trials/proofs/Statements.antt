-- Trials of rows on bodies, loops and declarations.
use lib.Utf8.{encode}
use Rattle.std.specs.Str.{chars}
use Rattle.std.proofs.Common.{◌≡◌, [], ◌∷◌, refl, codes, Some, None, true}
use Rattle.semantic_syntax.specs.declared.source_type.Goal.TheVariants as goal
use Rattle.semantic_syntax.specs.declared.source_type.Lang.TheVariants as lang
use Rattle.semantic_kinds.specs.declared.kind.AstType.TheVariants as kind
use Rattle.semantic_kinds.specs.declared.role.Role.TheVariants as role
use Rattle.semantic_tree.specs.Forest.{nothing}
use Rattle.semantic_tree.specs.Tree.{Tree}
use Rattle.check_model.specs.DiagnosticsOf.{diagnostics_of}
use Rattle.check_trials.specs.Write.{node, program, label_at, says}

-- if (a) function f() {} else function g() {} while (a) function h() {}
abbrev program_1 : Tree
program_1 = program goal.Script lang.Js (codes "if (a) function f() {} else function g() {} while (a) function h() {}") 0 69 (node role.Body kind.IfStatement 4 43 [] 0 1
    (node role.Test kind.IdentifierReference 4 5 (codes "a") 0 2
    nothing
    (node role.Consequent kind.Function 7 22 (codes "declaration") 0 3
    (node role.Id kind.BindingIdentifier 16 17 (codes "f") 0 4
    nothing
    (node role.Params kind.FormalParameters 17 17 (codes "formal") 0 5
    nothing
    (node role.Body kind.FunctionBody 17 17 [] 0 6
    nothing
    nothing)))
    (node role.Alternate kind.Function 28 43 (codes "declaration") 0 7
    (node role.Id kind.BindingIdentifier 37 38 (codes "g") 0 8
    nothing
    (node role.Params kind.FormalParameters 38 38 (codes "formal") 0 9
    nothing
    (node role.Body kind.FunctionBody 38 38 [] 0 10
    nothing
    nothing)))
    nothing)))
    (node role.Body kind.WhileStatement 51 69 [] 0 11
    (node role.Test kind.IdentifierReference 51 52 (codes "a") 0 12
    nothing
    (node role.Body kind.Function 54 69 (codes "declaration") 0 13
    (node role.Id kind.BindingIdentifier 63 64 (codes "h") 0 14
    nothing
    (node role.Params kind.FormalParameters 64 64 (codes "formal") 0 15
    nothing
    (node role.Body kind.FunctionBody 64 64 [] 0 16
    nothing
    nothing)))
    nothing))
    nothing))

told_1 : diagnostics_of true program_1 ≡ (says None (codes "Invalid function declaration") (label_at 54 69 None ∷ []) (Some (codes "In non-strict mode code, functions can only be declared at top level, inside a block, or as the body of an if statement")) None ∷ [])
unfolding encode chars
told_1 = refl

-- "use strict"; if (a) function f() {}
abbrev program_2 : Tree
program_2 = program goal.Script lang.Js (codes "\"use strict\"; if (a) function f() {}") 0 36 (node role.Directives kind.Directive 0 12 (codes "use strict") 0 1
    (node role.Expression kind.StringLiteral 0 12 (codes "use strict") 0 2
    nothing
    nothing)
    (node role.Body kind.IfStatement 18 36 [] 0 3
    (node role.Test kind.IdentifierReference 18 19 (codes "a") 0 4
    nothing
    (node role.Consequent kind.Function 21 36 (codes "declaration") 0 5
    (node role.Id kind.BindingIdentifier 30 31 (codes "f") 0 6
    nothing
    (node role.Params kind.FormalParameters 31 31 (codes "formal") 0 7
    nothing
    (node role.Body kind.FunctionBody 31 31 [] 0 8
    nothing
    nothing)))
    nothing))
    nothing))

told_2 : diagnostics_of true program_2 ≡ (says None (codes "Invalid function declaration") (label_at 21 36 None ∷ []) (Some (codes "In strict mode code, functions can only be declared at top level or inside a block")) None ∷ [])
unfolding encode chars
told_2 = refl

-- if (x) a: b: function f() {}
abbrev program_3 : Tree
program_3 = program goal.Script lang.Js (codes "if (x) a: b: function f() {}") 0 28 (node role.Body kind.IfStatement 4 28 [] 0 1
    (node role.Test kind.IdentifierReference 4 5 (codes "x") 0 2
    nothing
    (node role.Consequent kind.LabeledStatement 7 28 [] 0 3
    (node role.Label kind.LabelIdentifier 7 8 (codes "a") 0 4
    nothing
    (node role.Body kind.LabeledStatement 10 28 [] 0 5
    (node role.Label kind.LabelIdentifier 10 11 (codes "b") 0 6
    nothing
    (node role.Body kind.Function 13 28 (codes "declaration") 0 7
    (node role.Id kind.BindingIdentifier 22 23 (codes "f") 0 8
    nothing
    (node role.Params kind.FormalParameters 23 23 (codes "formal") 0 9
    nothing
    (node role.Body kind.FunctionBody 23 23 [] 0 10
    nothing
    nothing)))
    nothing))
    nothing))
    nothing))
    nothing)

told_3 : diagnostics_of true program_3 ≡ (says None (codes "Invalid function declaration") (label_at 13 28 None ∷ []) (Some (codes "In non-strict mode code, functions can only be declared at top level, inside a block, or as the body of an if statement")) None ∷ [])
unfolding encode chars
told_3 = refl

-- for (var a = 1 in b) {} for (var [a] = 1 in b) {} for (let a = 1 in b) {} for (let c = 1 of b) {}
abbrev program_4 : Tree
program_4 = program goal.Script lang.Js (codes "for (var a = 1 in b) {} for (var [a] = 1 in b) {} for (let a = 1 in b) {} for (let c = 1 of b) {}") 0 97 (node role.Body kind.ForInStatement 5 19 [] 0 1
    (node role.Left kind.VariableDeclaration 5 14 (codes "var") 0 2
    (node role.Declarators kind.VariableDeclarator 9 14 [] 0 3
    (node role.Id kind.BindingIdentifier 9 10 (codes "a") 0 4
    nothing
    (node role.Init kind.NumericLiteral 13 14 (codes "1") 134217728 5
    nothing
    nothing))
    nothing)
    (node role.Right kind.IdentifierReference 18 19 (codes "b") 0 6
    nothing
    (node role.Body kind.BlockStatement 19 19 [] 0 7
    nothing
    nothing)))
    (node role.Body kind.ForInStatement 29 45 [] 0 8
    (node role.Left kind.VariableDeclaration 29 40 (codes "var") 0 9
    (node role.Declarators kind.VariableDeclarator 34 40 [] 0 10
    (node role.Id kind.ArrayPattern 34 35 [] 0 11
    (node role.Elements kind.BindingIdentifier 34 35 (codes "a") 0 12
    nothing
    nothing)
    (node role.Init kind.NumericLiteral 39 40 (codes "1") 134217728 13
    nothing
    nothing))
    nothing)
    (node role.Right kind.IdentifierReference 44 45 (codes "b") 0 14
    nothing
    (node role.Body kind.BlockStatement 45 45 [] 0 15
    nothing
    nothing)))
    (node role.Body kind.ForInStatement 55 69 [] 0 16
    (node role.Left kind.VariableDeclaration 55 64 (codes "let") 0 17
    (node role.Declarators kind.VariableDeclarator 59 64 [] 0 18
    (node role.Id kind.BindingIdentifier 59 60 (codes "a") 0 19
    nothing
    (node role.Init kind.NumericLiteral 63 64 (codes "1") 134217728 20
    nothing
    nothing))
    nothing)
    (node role.Right kind.IdentifierReference 68 69 (codes "b") 0 21
    nothing
    (node role.Body kind.BlockStatement 69 69 [] 0 22
    nothing
    nothing)))
    (node role.Body kind.ForOfStatement 79 93 [] 0 23
    (node role.Left kind.VariableDeclaration 79 88 (codes "let") 0 24
    (node role.Declarators kind.VariableDeclarator 83 88 [] 0 25
    (node role.Id kind.BindingIdentifier 83 84 (codes "c") 0 26
    nothing
    (node role.Init kind.NumericLiteral 87 88 (codes "1") 134217728 27
    nothing
    nothing))
    nothing)
    (node role.Right kind.IdentifierReference 92 93 (codes "b") 0 28
    nothing
    (node role.Body kind.BlockStatement 93 93 [] 0 29
    nothing
    nothing)))
    nothing))))

told_4 : diagnostics_of true program_4 ≡ (says None (codes "for-in loop variable declaration may not have an initializer") (label_at 29 40 None ∷ []) None None ∷ says None (codes "for-of loop variable declaration may not have an initializer") (label_at 79 88 None ∷ []) None None ∷ [])
unfolding encode chars
told_4 = refl

-- for (let a: T of b) {}
abbrev program_5 : Tree
program_5 = program goal.Script lang.Ts (codes "for (let a: T of b) {}") 0 22 (node role.Body kind.ForOfStatement 9 18 [] 0 1
    (node role.Left kind.VariableDeclaration 9 13 (codes "let") 0 2
    (node role.Declarators kind.VariableDeclarator 9 13 [] 0 3
    (node role.Id kind.BindingIdentifier 9 10 (codes "a") 0 4
    nothing
    (node role.Annotation kind.TSTypeAnnotation 12 13 [] 0 5
    (node role.Element kind.TSTypeReference 12 13 [] 0 6
    (node role.Name kind.IdentifierReference 12 13 (codes "T") 0 7
    nothing
    nothing)
    nothing)
    nothing))
    nothing)
    (node role.Right kind.IdentifierReference 17 18 (codes "b") 0 8
    nothing
    (node role.Body kind.BlockStatement 18 18 [] 0 9
    nothing
    nothing)))
    nothing)

told_5 : diagnostics_of true program_5 ≡ (says (Some (codes "TS(2483)")) (codes "The left-hand side of a 'for...of' statement cannot use a type annotation.") (label_at 9 10 None ∷ []) (Some (codes "This iterator's type will be inferred from the iterable. You can safely remove the type annotation.")) None ∷ [])
unfolding encode chars
told_5 = refl

-- using a = b; { using c = b; }
abbrev program_6 : Tree
program_6 = program goal.Script lang.Js (codes "using a = b; { using c = b; }") 0 29 (node role.Body kind.VariableDeclaration 0 12 (codes "using") 0 1
    (node role.Declarators kind.VariableDeclarator 6 11 [] 0 2
    (node role.Id kind.BindingIdentifier 6 7 (codes "a") 0 3
    nothing
    (node role.Init kind.IdentifierReference 10 11 (codes "b") 0 4
    nothing
    nothing))
    nothing)
    (node role.Body kind.BlockStatement 21 26 [] 0 5
    (node role.Body kind.VariableDeclaration 21 26 (codes "using") 0 6
    (node role.Declarators kind.VariableDeclarator 21 26 [] 0 7
    (node role.Id kind.BindingIdentifier 21 22 (codes "c") 0 8
    nothing
    (node role.Init kind.IdentifierReference 25 26 (codes "b") 0 9
    nothing
    nothing))
    nothing)
    nothing)
    nothing))

told_6 : diagnostics_of true program_6 ≡ (says None (codes "'using' declarations are not allowed at the top level of a script") (label_at 0 12 None ∷ []) (Some (codes "Wrap this code in a block or use a module")) None ∷ [])
unfolding encode chars
told_6 = refl

-- class C { static { await using a = b; (() => { await using a = b; }); } }
abbrev program_7 : Tree
program_7 = program goal.Script lang.Js (codes "class C { static { await using a = b; (() => { await using a = b; }); } }") 0 73 (node role.Body kind.Class 6 64 (codes "declaration") 0 1
    (node role.Id kind.BindingIdentifier 6 7 (codes "C") 0 2
    nothing
    (node role.Body kind.ClassBody 19 64 [] 0 3
    (node role.Body kind.StaticBlock 19 64 [] 0 4
    (node role.Body kind.VariableDeclaration 19 37 (codes "await using") 0 5
    (node role.Declarators kind.VariableDeclarator 31 36 [] 0 6
    (node role.Id kind.BindingIdentifier 31 32 (codes "a") 0 7
    nothing
    (node role.Init kind.IdentifierReference 35 36 (codes "b") 0 8
    nothing
    nothing))
    nothing)
    (node role.Body kind.ExpressionStatement 37 64 [] 0 9
    (node role.Expression kind.ParenthesizedExpression 37 64 [] 0 10
    (node role.Expression kind.ArrowFunctionExpression 37 64 [] 0 11
    (node role.Params kind.FormalParameters 37 37 (codes "arrow") 0 12
    nothing
    (node role.Body kind.FunctionBody 59 64 [] 0 13
    (node role.Body kind.VariableDeclaration 59 64 (codes "await using") 0 14
    (node role.Declarators kind.VariableDeclarator 59 64 [] 0 15
    (node role.Id kind.BindingIdentifier 59 60 (codes "a") 0 16
    nothing
    (node role.Init kind.IdentifierReference 63 64 (codes "b") 0 17
    nothing
    nothing))
    nothing)
    nothing)
    nothing))
    nothing)
    nothing)
    nothing))
    nothing)
    nothing))
    nothing)

told_7 : diagnostics_of true program_7 ≡ (says None (codes "Cannot use 'await using' in class static initialization block") (label_at 19 37 None ∷ []) None None ∷ [])
unfolding encode chars
told_7 = refl

-- "use strict"; with (a) {}
abbrev program_8 : Tree
program_8 = program goal.Script lang.Js (codes "\"use strict\"; with (a) {}") 0 25 (node role.Directives kind.Directive 0 12 (codes "use strict") 0 1
    (node role.Expression kind.StringLiteral 0 12 (codes "use strict") 0 2
    nothing
    nothing)
    (node role.Body kind.WithStatement 14 25 [] 0 3
    (node role.Object kind.IdentifierReference 20 21 (codes "a") 0 4
    nothing
    (node role.Body kind.BlockStatement 21 21 [] 0 5
    nothing
    nothing))
    nothing))

told_8 : diagnostics_of true program_8 ≡ (says None (codes "'with' statements are not allowed") (label_at 14 18 None ∷ []) None None ∷ [])
unfolding encode chars
told_8 = refl
