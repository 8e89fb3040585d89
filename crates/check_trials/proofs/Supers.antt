-- Trials of rows on `super`.
use lib.Utf8.{encode}
use Rattle.std.specs.Str.{chars}
use Rattle.std.proofs.Common.{◌≡◌, [], ◌∷◌, refl, codes, Some, None, true}
use Rattle.semantic_syntax.specs.declared.source_type.Goal.TheVariants as goal
use Rattle.semantic_syntax.specs.declared.source_type.Lang.TheVariants as lang
use Rattle.semantic_kinds.specs.declared.kind.AstType.TheVariants as kind
use Rattle.semantic_kinds.specs.declared.role.Role.TheVariants as role
use Rattle.semantic_tree.specs.Forest.{nothing}
use Rattle.semantic_tree.specs.Tree.{Tree}
use Rattle.check_model.specs.DiagnosticsOf.{diagnostics_of}
use Rattle.check_trials.specs.Write.{node, program, label_at, says}

-- super.x; super();
abbrev program_1 : Tree
program_1 = program goal.Script lang.Js (codes "super.x; super();") 0 17 (node role.Body kind.ExpressionStatement 0 7 [] 0 1
    (node role.Expression kind.StaticMemberExpression 0 7 [] 0 2
    (node role.Object kind.Super 0 5 [] 0 3
    nothing
    (node role.Property kind.IdentifierName 6 7 (codes "x") 0 4
    nothing
    nothing))
    nothing)
    (node role.Body kind.ExpressionStatement 9 17 [] 0 5
    (node role.Expression kind.CallExpression 9 14 [] 0 6
    (node role.Callee kind.Super 9 14 [] 0 7
    nothing
    nothing)
    nothing)
    nothing))

told_1 : diagnostics_of true program_1 ≡ (says None (codes "'super' can only be referenced in members of derived classes or object literal expressions.") (label_at 0 5 None ∷ []) None None ∷ says (Some (codes "TS(2337)")) (codes "Super calls are not permitted outside constructors or in nested functions inside constructors.") (label_at 9 14 None ∷ []) None None ∷ [])
unfolding encode chars
told_1 = refl

-- class C { x = super.x; [super.x] = 1; static { super.x } }
abbrev program_2 : Tree
program_2 = program goal.Script lang.Js (codes "class C { x = super.x; [super.x] = 1; static { super.x } }") 0 58 (node role.Body kind.Class 6 54 (codes "declaration") 0 1
    (node role.Id kind.BindingIdentifier 6 7 (codes "C") 0 2
    nothing
    (node role.Body kind.ClassBody 10 54 [] 0 3
    (node role.Body kind.PropertyDefinition 10 21 [] 0 4
    (node role.Key kind.IdentifierName 10 11 (codes "x") 0 5
    nothing
    (node role.Value kind.StaticMemberExpression 14 21 [] 0 6
    (node role.Object kind.Super 14 19 [] 0 7
    nothing
    (node role.Property kind.IdentifierName 20 21 (codes "x") 0 8
    nothing
    nothing))
    nothing))
    (node role.Body kind.PropertyDefinition 24 36 [] 32 9
    (node role.Key kind.StaticMemberExpression 24 31 [] 0 10
    (node role.Object kind.Super 24 29 [] 0 11
    nothing
    (node role.Property kind.IdentifierName 30 31 (codes "x") 0 12
    nothing
    nothing))
    (node role.Value kind.NumericLiteral 35 36 (codes "1") 134217728 13
    nothing
    nothing))
    (node role.Body kind.StaticBlock 47 54 [] 0 14
    (node role.Body kind.ExpressionStatement 47 54 [] 0 15
    (node role.Expression kind.StaticMemberExpression 47 54 [] 0 16
    (node role.Object kind.Super 47 52 [] 0 17
    nothing
    (node role.Property kind.IdentifierName 53 54 (codes "x") 0 18
    nothing
    nothing))
    nothing)
    nothing)
    nothing)))
    nothing))
    nothing)

told_2 : diagnostics_of true program_2 ≡ (says None (codes "'super' can only be referenced in members of derived classes or object literal expressions.") (label_at 24 29 None ∷ []) None None ∷ [])
unfolding encode chars
told_2 = refl

-- class C { constructor() { super() } }
abbrev program_3 : Tree
program_3 = program goal.Script lang.Js (codes "class C { constructor() { super() } }") 0 37 (node role.Body kind.Class 0 37 (codes "declaration") 0 1
    (node role.Id kind.BindingIdentifier 6 7 (codes "C") 0 2
    nothing
    (node role.Body kind.ClassBody 10 31 [] 0 3
    (node role.Body kind.MethodDefinition 10 31 (codes "constructor") 0 4
    (node role.Key kind.IdentifierName 10 21 (codes "constructor") 0 5
    nothing
    (node role.Value kind.Function 21 31 (codes "expression") 0 6
    (node role.Params kind.FormalParameters 21 21 (codes "formal") 0 7
    nothing
    (node role.Body kind.FunctionBody 26 31 [] 0 8
    (node role.Body kind.ExpressionStatement 26 31 [] 0 9
    (node role.Expression kind.CallExpression 26 31 [] 0 10
    (node role.Callee kind.Super 26 31 [] 0 11
    nothing
    nothing)
    nothing)
    nothing)
    nothing))
    nothing))
    nothing)
    nothing))
    nothing)

told_3 : diagnostics_of true program_3 ≡ (says None (codes "'super' can only be referenced in a derived class.") (label_at 26 31 None ∷ label_at 0 37 (Some (codes "class does not have `extends`")) ∷ []) (Some (codes "either remove this super, or extend the class")) None ∷ [])
unfolding encode chars
told_3 = refl

-- class C extends B { constructor() { super(); (() => super()) } m() { super() } }
abbrev program_4 : Tree
program_4 = program goal.Script lang.Js (codes "class C extends B { constructor() { super(); (() => super()) } m() { super() } }") 0 80 (node role.Body kind.Class 6 74 (codes "declaration") 0 1
    (node role.Id kind.BindingIdentifier 6 7 (codes "C") 0 2
    nothing
    (node role.Heritage kind.IdentifierReference 16 17 (codes "B") 0 3
    nothing
    (node role.Body kind.ClassBody 20 74 [] 0 4
    (node role.Body kind.MethodDefinition 20 57 (codes "constructor") 0 5
    (node role.Key kind.IdentifierName 20 31 (codes "constructor") 0 6
    nothing
    (node role.Value kind.Function 31 57 (codes "expression") 0 7
    (node role.Params kind.FormalParameters 31 31 (codes "formal") 0 8
    nothing
    (node role.Body kind.FunctionBody 36 57 [] 0 9
    (node role.Body kind.ExpressionStatement 36 41 [] 0 10
    (node role.Expression kind.CallExpression 36 41 [] 0 11
    (node role.Callee kind.Super 36 41 [] 0 12
    nothing
    nothing)
    nothing)
    (node role.Body kind.ExpressionStatement 41 57 [] 0 13
    (node role.Expression kind.ParenthesizedExpression 41 57 [] 0 14
    (node role.Expression kind.ArrowFunctionExpression 41 57 [] 0 15
    (node role.Params kind.FormalParameters 41 41 (codes "arrow") 0 16
    nothing
    (node role.Body kind.CallExpression 52 57 [] 0 17
    (node role.Callee kind.Super 52 57 [] 0 18
    nothing
    nothing)
    nothing))
    nothing)
    nothing)
    nothing))
    nothing))
    nothing))
    (node role.Body kind.MethodDefinition 63 74 (codes "method") 0 19
    (node role.Key kind.IdentifierName 63 64 (codes "m") 0 20
    nothing
    (node role.Value kind.Function 64 74 (codes "expression") 0 21
    (node role.Params kind.FormalParameters 64 64 (codes "formal") 0 22
    nothing
    (node role.Body kind.FunctionBody 69 74 [] 0 23
    (node role.Body kind.ExpressionStatement 69 74 [] 0 24
    (node role.Expression kind.CallExpression 69 74 [] 0 25
    (node role.Callee kind.Super 69 74 [] 0 26
    nothing
    nothing)
    nothing)
    nothing)
    nothing))
    nothing))
    nothing))
    nothing)))
    nothing)

told_4 : diagnostics_of true program_4 ≡ (says (Some (codes "TS(2337)")) (codes "Super calls are not permitted outside constructors or in nested functions inside constructors.") (label_at 69 74 None ∷ []) None None ∷ [])
unfolding encode chars
told_4 = refl

-- ({ m() { super.x }, n: function () { super.x }, get o() { super() } })
abbrev program_5 : Tree
program_5 = program goal.Script lang.Js (codes "({ m() { super.x }, n: function () { super.x }, get o() { super() } })") 0 70 (node role.Body kind.ExpressionStatement 3 63 [] 0 1
    (node role.Expression kind.ParenthesizedExpression 3 63 [] 0 2
    (node role.Expression kind.ObjectExpression 3 63 [] 0 3
    (node role.Properties kind.ObjectProperty 3 16 (codes "init") 16384 4
    (node role.Key kind.IdentifierName 3 4 (codes "m") 0 5
    nothing
    (node role.Value kind.Function 4 16 (codes "expression") 0 6
    (node role.Params kind.FormalParameters 4 4 (codes "formal") 0 7
    nothing
    (node role.Body kind.FunctionBody 9 16 [] 0 8
    (node role.Body kind.ExpressionStatement 9 16 [] 0 9
    (node role.Expression kind.StaticMemberExpression 9 16 [] 0 10
    (node role.Object kind.Super 9 14 [] 0 11
    nothing
    (node role.Property kind.IdentifierName 15 16 (codes "x") 0 12
    nothing
    nothing))
    nothing)
    nothing)
    nothing))
    nothing))
    (node role.Properties kind.ObjectProperty 20 44 (codes "init") 0 13
    (node role.Key kind.IdentifierName 20 21 (codes "n") 0 14
    nothing
    (node role.Value kind.Function 21 44 (codes "expression") 0 15
    (node role.Params kind.FormalParameters 21 21 (codes "formal") 0 16
    nothing
    (node role.Body kind.FunctionBody 37 44 [] 0 17
    (node role.Body kind.ExpressionStatement 37 44 [] 0 18
    (node role.Expression kind.StaticMemberExpression 37 44 [] 0 19
    (node role.Object kind.Super 37 42 [] 0 20
    nothing
    (node role.Property kind.IdentifierName 43 44 (codes "x") 0 21
    nothing
    nothing))
    nothing)
    nothing)
    nothing))
    nothing))
    (node role.Properties kind.ObjectProperty 52 63 (codes "get") 0 22
    (node role.Key kind.IdentifierName 52 53 (codes "o") 0 23
    nothing
    (node role.Value kind.Function 53 63 (codes "expression") 0 24
    (node role.Params kind.FormalParameters 53 53 (codes "formal") 0 25
    nothing
    (node role.Body kind.FunctionBody 58 63 [] 0 26
    (node role.Body kind.ExpressionStatement 58 63 [] 0 27
    (node role.Expression kind.CallExpression 58 63 [] 0 28
    (node role.Callee kind.Super 58 63 [] 0 29
    nothing
    nothing)
    nothing)
    nothing)
    nothing))
    nothing))
    nothing)))
    nothing)
    nothing)
    nothing)

told_5 : diagnostics_of true program_5 ≡ (says None (codes "'super' can only be referenced in members of derived classes or object literal expressions.") (label_at 37 42 None ∷ []) None None ∷ says (Some (codes "TS(2337)")) (codes "Super calls are not permitted outside constructors or in nested functions inside constructors.") (label_at 58 63 None ∷ []) None None ∷ [])
unfolding encode chars
told_5 = refl

-- class A { m() { class B { [super.x] = 1 } class D extends super.x {} } }
abbrev program_6 : Tree
program_6 = program goal.Script lang.Js (codes "class A { m() { class B { [super.x] = 1 } class D extends super.x {} } }") 0 72 (node role.Body kind.Class 6 65 (codes "declaration") 0 1
    (node role.Id kind.BindingIdentifier 6 7 (codes "A") 0 2
    nothing
    (node role.Body kind.ClassBody 10 65 [] 0 3
    (node role.Body kind.MethodDefinition 10 65 (codes "method") 0 4
    (node role.Key kind.IdentifierName 10 11 (codes "m") 0 5
    nothing
    (node role.Value kind.Function 11 65 (codes "expression") 0 6
    (node role.Params kind.FormalParameters 11 11 (codes "formal") 0 7
    nothing
    (node role.Body kind.FunctionBody 22 65 [] 0 8
    (node role.Body kind.Class 22 39 (codes "declaration") 0 9
    (node role.Id kind.BindingIdentifier 22 23 (codes "B") 0 10
    nothing
    (node role.Body kind.ClassBody 27 39 [] 0 11
    (node role.Body kind.PropertyDefinition 27 39 [] 32 12
    (node role.Key kind.StaticMemberExpression 27 34 [] 0 13
    (node role.Object kind.Super 27 32 [] 0 14
    nothing
    (node role.Property kind.IdentifierName 33 34 (codes "x") 0 15
    nothing
    nothing))
    (node role.Value kind.NumericLiteral 38 39 (codes "1") 134217728 16
    nothing
    nothing))
    nothing)
    nothing))
    (node role.Body kind.Class 48 65 (codes "declaration") 0 17
    (node role.Id kind.BindingIdentifier 48 49 (codes "D") 0 18
    nothing
    (node role.Heritage kind.StaticMemberExpression 58 65 [] 0 19
    (node role.Object kind.Super 58 63 [] 0 20
    nothing
    (node role.Property kind.IdentifierName 64 65 (codes "x") 0 21
    nothing
    nothing))
    (node role.Body kind.ClassBody 65 65 [] 0 22
    nothing
    nothing)))
    nothing))
    nothing))
    nothing))
    nothing)
    nothing))
    nothing)

told_6 : diagnostics_of true program_6 ≡ []
unfolding encode chars
told_6 = refl
