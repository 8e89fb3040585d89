-- Trials of rows on names.
use lib.Utf8.{encode}
use Rattle.std.specs.Str.{chars}
use Rattle.std.proofs.Common.{◌≡◌, [], ◌∷◌, refl, codes, Some, None, true}
use Rattle.semantic_syntax.specs.declared.source_type.Goal.TheVariants as goal
use Rattle.semantic_syntax.specs.declared.source_type.Lang.TheVariants as lang
use Rattle.semantic_kinds.specs.declared.kind.AstType.TheVariants as kind
use Rattle.semantic_kinds.specs.declared.role.Role.TheVariants as role
use Rattle.semantic_tree.specs.Forest.{nothing}
use Rattle.semantic_tree.specs.Tree.{Tree}
use Rattle.check_model.specs.DiagnosticsOf.{diagnostics_of}
use Rattle.check_trials.specs.Write.{node, program, label_at, says}

-- "use strict"; arguments = 1; [eval] = a; a.b = arguments;
abbrev program_1 : Tree
program_1 = program goal.Script lang.Js (codes "\"use strict\"; arguments = 1; [eval] = a; a.b = arguments;") 0 57 (node role.Directives kind.Directive 0 12 (codes "use strict") 0 1
    (node role.Expression kind.StringLiteral 0 12 (codes "use strict") 0 2
    nothing
    nothing)
    (node role.Body kind.ExpressionStatement 14 27 [] 0 3
    (node role.Expression kind.AssignmentExpression 14 27 (codes "=") 0 4
    (node role.Left kind.IdentifierReference 14 23 (codes "arguments") 0 5
    nothing
    (node role.Right kind.NumericLiteral 26 27 (codes "1") 134217728 6
    nothing
    nothing))
    nothing)
    (node role.Body kind.ExpressionStatement 30 39 [] 0 7
    (node role.Expression kind.AssignmentExpression 30 39 (codes "=") 0 8
    (node role.Left kind.ArrayAssignmentTarget 30 34 [] 0 9
    (node role.Elements kind.IdentifierReference 30 34 (codes "eval") 0 10
    nothing
    nothing)
    (node role.Right kind.IdentifierReference 38 39 (codes "a") 0 11
    nothing
    nothing))
    nothing)
    (node role.Body kind.ExpressionStatement 41 56 [] 0 12
    (node role.Expression kind.AssignmentExpression 41 56 (codes "=") 0 13
    (node role.Left kind.StaticMemberExpression 41 44 [] 0 14
    (node role.Object kind.IdentifierReference 41 42 (codes "a") 0 15
    nothing
    (node role.Property kind.IdentifierName 43 44 (codes "b") 0 16
    nothing
    nothing))
    (node role.Right kind.IdentifierReference 47 56 (codes "arguments") 0 17
    nothing
    nothing))
    nothing)
    nothing))))

told_1 : diagnostics_of true program_1 ≡ (says None (codes "Cannot assign to 'arguments' in strict mode") (label_at 14 23 None ∷ []) None (Some (codes "This is strict mode code")) ∷ says None (codes "Cannot assign to 'eval' in strict mode") (label_at 30 34 None ∷ []) None (Some (codes "This is strict mode code")) ∷ [])
unfolding encode chars
told_1 = refl

-- class C { x = arguments; static { arguments } y = function () { arguments } }
abbrev program_2 : Tree
program_2 = program goal.Script lang.Js (codes "class C { x = arguments; static { arguments } y = function () { arguments } }") 0 77 (node role.Body kind.Class 6 73 (codes "declaration") 0 1
    (node role.Id kind.BindingIdentifier 6 7 (codes "C") 0 2
    nothing
    (node role.Body kind.ClassBody 10 73 [] 0 3
    (node role.Body kind.PropertyDefinition 10 23 [] 0 4
    (node role.Key kind.IdentifierName 10 11 (codes "x") 0 5
    nothing
    (node role.Value kind.IdentifierReference 14 23 (codes "arguments") 0 6
    nothing
    nothing))
    (node role.Body kind.StaticBlock 34 43 [] 0 7
    (node role.Body kind.ExpressionStatement 34 43 [] 0 8
    (node role.Expression kind.IdentifierReference 34 43 (codes "arguments") 0 9
    nothing
    nothing)
    nothing)
    (node role.Body kind.PropertyDefinition 46 73 [] 0 10
    (node role.Key kind.IdentifierName 46 47 (codes "y") 0 11
    nothing
    (node role.Value kind.Function 47 73 (codes "expression") 0 12
    (node role.Params kind.FormalParameters 47 47 (codes "formal") 0 13
    nothing
    (node role.Body kind.FunctionBody 64 73 [] 0 14
    (node role.Body kind.ExpressionStatement 64 73 [] 0 15
    (node role.Expression kind.IdentifierReference 64 73 (codes "arguments") 0 16
    nothing
    nothing)
    nothing)
    nothing))
    nothing))
    nothing)))
    nothing))
    nothing)

told_2 : diagnostics_of true program_2 ≡ (says None (codes "'arguments' is not allowed in class field initializer") (label_at 14 23 None ∷ []) (Some (codes "Assign the 'arguments' variable to a temporary variable outside")) None ∷ says None (codes "'arguments' is not allowed in static initialization block") (label_at 34 43 None ∷ []) (Some (codes "Assign the 'arguments' variable to a temporary variable outside")) None ∷ [])
unfolding encode chars
told_2 = refl

-- class C { [arguments] = 1 }
abbrev program_3 : Tree
program_3 = program goal.Script lang.Js (codes "class C { [arguments] = 1 }") 0 27 (node role.Body kind.Class 6 25 (codes "declaration") 0 1
    (node role.Id kind.BindingIdentifier 6 7 (codes "C") 0 2
    nothing
    (node role.Body kind.ClassBody 11 25 [] 0 3
    (node role.Body kind.PropertyDefinition 11 25 [] 32 4
    (node role.Key kind.IdentifierReference 11 20 (codes "arguments") 0 5
    nothing
    (node role.Value kind.NumericLiteral 24 25 (codes "1") 134217728 6
    nothing
    nothing))
    nothing)
    nothing))
    nothing)

told_3 : diagnostics_of true program_3 ≡ []
unfolding encode chars
told_3 = refl

-- const let = 1
abbrev program_4 : Tree
program_4 = program goal.Script lang.Js (codes "const let = 1") 0 13 (node role.Body kind.VariableDeclaration 6 13 (codes "const") 0 1
    (node role.Declarators kind.VariableDeclarator 6 13 [] 0 2
    (node role.Id kind.BindingIdentifier 6 9 (codes "let") 0 3
    nothing
    (node role.Init kind.NumericLiteral 12 13 (codes "1") 134217728 4
    nothing
    nothing))
    nothing)
    nothing)

told_4 : diagnostics_of true program_4 ≡ (says None (codes "`let` cannot be declared as a variable name inside of a `const` declaration") (label_at 6 9 None ∷ []) None None ∷ [])
unfolding encode chars
told_4 = refl

-- await: ;
abbrev program_5 : Tree
program_5 = program goal.Module lang.Js (codes "await: ;") 0 8 (node role.Body kind.LabeledStatement 0 5 [] 0 1
    (node role.Label kind.LabelIdentifier 0 5 (codes "await") 0 2
    nothing
    (node role.Body kind.EmptyStatement 5 5 [] 0 3
    nothing
    nothing))
    nothing)

told_5 : diagnostics_of true program_5 ≡ (says None (codes "The keyword 'await' is reserved") (label_at 0 5 None ∷ []) None (Some (codes "The identifier `await` is reserved in module code")) ∷ [])
unfolding encode chars
told_5 = refl

-- class C { static { await } }
abbrev program_6 : Tree
program_6 = program goal.Script lang.Js (codes "class C { static { await } }") 0 28 (node role.Body kind.Class 6 24 (codes "declaration") 0 1
    (node role.Id kind.BindingIdentifier 6 7 (codes "C") 0 2
    nothing
    (node role.Body kind.ClassBody 19 24 [] 0 3
    (node role.Body kind.StaticBlock 19 24 [] 0 4
    (node role.Body kind.ExpressionStatement 19 24 [] 0 5
    (node role.Expression kind.IdentifierReference 19 24 (codes "await") 0 6
    nothing
    nothing)
    nothing)
    nothing)
    nothing))
    nothing)

told_6 : diagnostics_of true program_6 ≡ (says None (codes "Cannot use await in class static initialization block") (label_at 19 24 None ∷ []) None None ∷ [])
unfolding encode chars
told_6 = refl

-- class public {}
abbrev program_7 : Tree
program_7 = program goal.Script lang.Js (codes "class public {}") 0 15 (node role.Body kind.Class 6 12 (codes "declaration") 0 1
    (node role.Id kind.BindingIdentifier 6 12 (codes "public") 0 2
    nothing
    (node role.Body kind.ClassBody 12 12 [] 0 3
    nothing
    nothing))
    nothing)

told_7 : diagnostics_of true program_7 ≡ (says None (codes "The keyword 'public' is reserved") (label_at 6 12 None ∷ []) None (Some (codes "Classes are always strict mode code")) ∷ [])
unfolding encode chars
told_7 = refl

-- declare class C { m(eval) }
abbrev program_8 : Tree
program_8 = program goal.Script lang.Ts (codes "declare class C { m(eval) }") 0 27 (node role.Body kind.Class 14 24 (codes "declaration") 4 1
    (node role.Id kind.BindingIdentifier 14 15 (codes "C") 0 2
    nothing
    (node role.Body kind.ClassBody 18 24 [] 0 3
    (node role.Body kind.MethodDefinition 18 24 (codes "method") 0 4
    (node role.Key kind.IdentifierName 18 19 (codes "m") 0 5
    nothing
    (node role.Value kind.Function 20 24 (codes "ts-empty-body") 0 6
    (node role.Params kind.FormalParameters 20 24 (codes "formal") 0 7
    (node role.Items kind.FormalParameter 20 24 [] 0 8
    (node role.Pattern kind.BindingIdentifier 20 24 (codes "eval") 0 9
    nothing
    nothing)
    nothing)
    nothing)
    nothing))
    nothing)
    nothing))
    nothing)

told_8 : diagnostics_of true program_8 ≡ []
unfolding encode chars
told_8 = refl

-- #a in b
abbrev program_9 : Tree
program_9 = program goal.Script lang.Js (codes "#a in b") 0 7 (node role.Body kind.ExpressionStatement 0 7 [] 0 1
    (node role.Expression kind.PrivateInExpression 0 7 [] 0 2
    (node role.Left kind.PrivateIdentifier 0 2 (codes "a") 0 3
    nothing
    (node role.Right kind.IdentifierReference 6 7 (codes "b") 0 4
    nothing
    nothing))
    nothing)
    nothing)

told_9 : diagnostics_of true program_9 ≡ (says None (codes "Private identifier '#a' is not allowed outside class bodies") (label_at 0 2 None ∷ []) None None ∷ [])
unfolding encode chars
told_9 = refl
