-- Trials of rows on expressions.
use lib.Utf8.{encode}
use Rattle.std.specs.Str.{chars}
use Rattle.std.proofs.Common.{◌≡◌, [], ◌∷◌, refl, codes, Some, None, true}
use Rattle.semantic_syntax.specs.declared.source_type.Goal.TheVariants as goal
use Rattle.semantic_syntax.specs.declared.source_type.Lang.TheVariants as lang
use Rattle.semantic_kinds.specs.declared.kind.AstType.TheVariants as kind
use Rattle.semantic_kinds.specs.declared.role.Role.TheVariants as role
use Rattle.semantic_tree.specs.Forest.{nothing}
use Rattle.semantic_tree.specs.Tree.{Tree}
use Rattle.check_model.specs.DiagnosticsOf.{diagnostics_of}
use Rattle.check_trials.specs.Write.{node, program, label_at, says}

-- ({ '__proto__': 1, '__proto__': 1, '__proto__': 1 })
abbrev program_1 : Tree
program_1 = program goal.Script lang.Js (codes "({ '__proto__': 1, '__proto__': 1, '__proto__': 1 })") 0 52 (node role.Body kind.ExpressionStatement 3 49 [] 0 1
    (node role.Expression kind.ParenthesizedExpression 3 49 [] 0 2
    (node role.Expression kind.ObjectExpression 3 49 [] 0 3
    (node role.Properties kind.ObjectProperty 3 17 (codes "init") 0 4
    (node role.Key kind.StringLiteral 3 14 (codes "__proto__") 0 5
    nothing
    (node role.Value kind.NumericLiteral 16 17 (codes "1") 134217728 6
    nothing
    nothing))
    (node role.Properties kind.ObjectProperty 19 33 (codes "init") 0 7
    (node role.Key kind.StringLiteral 19 30 (codes "__proto__") 0 8
    nothing
    (node role.Value kind.NumericLiteral 32 33 (codes "1") 134217728 9
    nothing
    nothing))
    (node role.Properties kind.ObjectProperty 35 49 (codes "init") 0 10
    (node role.Key kind.StringLiteral 35 46 (codes "__proto__") 0 11
    nothing
    (node role.Value kind.NumericLiteral 48 49 (codes "1") 134217728 12
    nothing
    nothing))
    nothing)))
    nothing)
    nothing)
    nothing)

told_1 : diagnostics_of true program_1 ≡ (says None (codes "Identifier `__proto__` has already been declared") (label_at 3 14 (Some (codes "`__proto__` has already been declared here")) ∷ label_at 19 30 (Some (codes "It can not be redeclared here")) ∷ []) None None ∷ says None (codes "Identifier `__proto__` has already been declared") (label_at 19 30 (Some (codes "`__proto__` has already been declared here")) ∷ label_at 35 46 (Some (codes "It can not be redeclared here")) ∷ []) None None ∷ [])
unfolding encode chars
told_1 = refl

-- ({ '__proto__': 1, '__proto__': 1 })
abbrev program_2 : Tree
program_2 = program goal.Script lang.Js (codes "({ '__proto__': 1, '__proto__': 1 })") 0 36 (node role.Body kind.ExpressionStatement 3 33 [] 0 1
    (node role.Expression kind.ParenthesizedExpression 3 33 [] 0 2
    (node role.Expression kind.ObjectExpression 3 33 [] 0 3
    (node role.Properties kind.ObjectProperty 3 17 (codes "init") 0 4
    (node role.Key kind.StringLiteral 3 14 (codes "__proto__") 0 5
    nothing
    (node role.Value kind.NumericLiteral 16 17 (codes "1") 134217728 6
    nothing
    nothing))
    (node role.Properties kind.ObjectProperty 19 33 (codes "init") 32 7
    (node role.Key kind.StringLiteral 19 30 (codes "__proto__") 0 8
    nothing
    (node role.Value kind.NumericLiteral 32 33 (codes "1") 134217728 9
    nothing
    nothing))
    nothing))
    nothing)
    nothing)
    nothing)

told_2 : diagnostics_of true program_2 ≡ []
unfolding encode chars
told_2 = refl

-- "use strict"; delete (a); delete b.c;
abbrev program_3 : Tree
program_3 = program goal.Script lang.Js (codes "\"use strict\"; delete (a); delete b.c;") 0 37 (node role.Directives kind.Directive 0 12 (codes "use strict") 0 1
    (node role.Expression kind.StringLiteral 0 12 (codes "use strict") 0 2
    nothing
    nothing)
    (node role.Body kind.ExpressionStatement 22 23 [] 0 3
    (node role.Expression kind.UnaryExpression 22 23 (codes "delete") 0 4
    (node role.Argument kind.ParenthesizedExpression 22 23 [] 0 5
    (node role.Expression kind.IdentifierReference 22 23 (codes "a") 0 6
    nothing
    nothing)
    nothing)
    nothing)
    (node role.Body kind.ExpressionStatement 33 36 [] 0 7
    (node role.Expression kind.UnaryExpression 33 36 (codes "delete") 0 8
    (node role.Argument kind.StaticMemberExpression 33 36 [] 0 9
    (node role.Object kind.IdentifierReference 33 34 (codes "b") 0 10
    nothing
    (node role.Property kind.IdentifierName 35 36 (codes "c") 0 11
    nothing
    nothing))
    nothing)
    nothing)
    nothing)))

told_3 : diagnostics_of true program_3 ≡ (says None (codes "Delete of an unqualified identifier in strict mode.") (label_at 22 23 None ∷ []) None None ∷ [])
unfolding encode chars
told_3 = refl

-- async function f(a = await b) { await b }
abbrev program_4 : Tree
program_4 = program goal.Script lang.Js (codes "async function f(a = await b) { await b }") 0 41 (node role.Body kind.Function 15 39 (codes "declaration") 1 1
    (node role.Id kind.BindingIdentifier 15 16 (codes "f") 0 2
    nothing
    (node role.Params kind.FormalParameters 17 28 (codes "formal") 0 3
    (node role.Items kind.FormalParameter 17 28 [] 0 4
    (node role.Pattern kind.BindingIdentifier 17 18 (codes "a") 0 5
    nothing
    (node role.Initializer kind.AwaitExpression 21 28 [] 0 6
    (node role.Argument kind.IdentifierReference 27 28 (codes "b") 0 7
    nothing
    nothing)
    nothing))
    nothing)
    (node role.Body kind.FunctionBody 38 39 [] 0 8
    (node role.Body kind.ExpressionStatement 38 39 [] 0 9
    (node role.Expression kind.AwaitExpression 38 39 [] 0 10
    (node role.Argument kind.IdentifierReference 38 39 (codes "b") 0 11
    nothing
    nothing)
    nothing)
    nothing)
    nothing)))
    nothing)

told_4 : diagnostics_of true program_4 ≡ (says None (codes "await expression not allowed in formal parameter") (label_at 21 28 (Some (codes "await expression not allowed in formal parameter")) ∷ []) None None ∷ [])
unfolding encode chars
told_4 = refl

-- class C { static { await b } }
abbrev program_5 : Tree
program_5 = program goal.Script lang.Js (codes "class C { static { await b } }") 0 30 (node role.Body kind.Class 6 26 (codes "declaration") 0 1
    (node role.Id kind.BindingIdentifier 6 7 (codes "C") 0 2
    nothing
    (node role.Body kind.ClassBody 19 26 [] 0 3
    (node role.Body kind.StaticBlock 19 26 [] 0 4
    (node role.Body kind.ExpressionStatement 19 26 [] 0 5
    (node role.Expression kind.AwaitExpression 19 26 [] 0 6
    (node role.Argument kind.IdentifierReference 25 26 (codes "b") 0 7
    nothing
    nothing)
    nothing)
    nothing)
    nothing)
    nothing))
    nothing)

told_5 : diagnostics_of true program_5 ≡ (says None (codes "Cannot use await in class static initialization block") (label_at 19 24 None ∷ []) None None ∷ [])
unfolding encode chars
told_5 = refl
