-- Trials of rows on classes.
use lib.Utf8.{encode}
use Rattle.std.specs.Str.{chars}
use Rattle.std.proofs.Common.{◌≡◌, [], ◌∷◌, refl, codes, Some, None, true}
use Rattle.semantic_syntax.specs.declared.source_type.Goal.TheVariants as goal
use Rattle.semantic_syntax.specs.declared.source_type.Lang.TheVariants as lang
use Rattle.semantic_kinds.specs.declared.kind.AstType.TheVariants as kind
use Rattle.semantic_kinds.specs.declared.role.Role.TheVariants as role
use Rattle.semantic_tree.specs.Forest.{nothing}
use Rattle.semantic_tree.specs.Tree.{Tree}
use Rattle.check_model.specs.DiagnosticsOf.{diagnostics_of}
use Rattle.check_trials.specs.Write.{node, program, label_at, says}

-- class {}
abbrev program_1 : Tree
program_1 = program goal.Script lang.Js (codes "class {}") 0 8 (node role.Body kind.Class 0 8 (codes "declaration") 0 1
    (node role.Body kind.ClassBody 0 0 [] 0 2
    nothing
    nothing)
    nothing)

told_1 : diagnostics_of true program_1 ≡ (says None (codes "A class name is required.") (label_at 0 5 None ∷ []) None None ∷ [])
unfolding encode chars
told_1 = refl

-- class C { constructor() {} constructor() {} constructor() {} }
abbrev program_2 : Tree
program_2 = program goal.Script lang.Js (codes "class C { constructor() {} constructor() {} constructor() {} }") 0 62 (node role.Body kind.Class 6 55 (codes "declaration") 0 1
    (node role.Id kind.BindingIdentifier 6 7 (codes "C") 0 2
    nothing
    (node role.Body kind.ClassBody 10 55 [] 0 3
    (node role.Body kind.MethodDefinition 10 21 (codes "constructor") 0 4
    (node role.Key kind.IdentifierName 10 21 (codes "constructor") 0 5
    nothing
    (node role.Value kind.Function 21 21 (codes "expression") 0 6
    (node role.Params kind.FormalParameters 21 21 (codes "formal") 0 7
    nothing
    (node role.Body kind.FunctionBody 21 21 [] 0 8
    nothing
    nothing))
    nothing))
    (node role.Body kind.MethodDefinition 27 38 (codes "constructor") 0 9
    (node role.Key kind.IdentifierName 27 38 (codes "constructor") 0 10
    nothing
    (node role.Value kind.Function 38 38 (codes "expression") 0 11
    (node role.Params kind.FormalParameters 38 38 (codes "formal") 0 12
    nothing
    (node role.Body kind.FunctionBody 38 38 [] 0 13
    nothing
    nothing))
    nothing))
    (node role.Body kind.MethodDefinition 44 55 (codes "constructor") 0 14
    (node role.Key kind.IdentifierName 44 55 (codes "constructor") 0 15
    nothing
    (node role.Value kind.Function 55 55 (codes "expression") 0 16
    (node role.Params kind.FormalParameters 55 55 (codes "formal") 0 17
    nothing
    (node role.Body kind.FunctionBody 55 55 [] 0 18
    nothing
    nothing))
    nothing))
    nothing)))
    nothing))
    nothing)

told_2 : diagnostics_of true program_2 ≡ (says None (codes "Multiple constructor implementations are not allowed.") (label_at 10 21 (Some (codes "constructor has already been declared here")) ∷ label_at 27 38 (Some (codes "it cannot be redeclared here")) ∷ []) None None ∷ [])
unfolding encode chars
told_2 = refl

-- class C { #a; static #a; #b() {} get #c() {} set #c(x) {} #c; }
abbrev program_3 : Tree
program_3 = program goal.Script lang.Ts (codes "class C { #a; static #a; #b() {} get #c() {} set #c(x) {} #c; }") 0 63 (node role.Body kind.Class 6 60 (codes "declaration") 0 1
    (node role.Id kind.BindingIdentifier 6 7 (codes "C") 0 2
    nothing
    (node role.Body kind.ClassBody 10 60 [] 0 3
    (node role.Body kind.PropertyDefinition 10 12 [] 0 4
    (node role.Key kind.PrivateIdentifier 10 12 (codes "a") 0 5
    nothing
    nothing)
    (node role.Body kind.PropertyDefinition 21 23 [] 16 6
    (node role.Key kind.PrivateIdentifier 21 23 (codes "a") 0 7
    nothing
    nothing)
    (node role.Body kind.MethodDefinition 25 27 (codes "method") 0 8
    (node role.Key kind.PrivateIdentifier 25 27 (codes "b") 0 9
    nothing
    (node role.Value kind.Function 27 27 (codes "expression") 0 10
    (node role.Params kind.FormalParameters 27 27 (codes "formal") 0 11
    nothing
    (node role.Body kind.FunctionBody 27 27 [] 0 12
    nothing
    nothing))
    nothing))
    (node role.Body kind.MethodDefinition 37 39 (codes "get") 0 13
    (node role.Key kind.PrivateIdentifier 37 39 (codes "c") 0 14
    nothing
    (node role.Value kind.Function 39 39 (codes "expression") 0 15
    (node role.Params kind.FormalParameters 39 39 (codes "formal") 0 16
    nothing
    (node role.Body kind.FunctionBody 39 39 [] 0 17
    nothing
    nothing))
    nothing))
    (node role.Body kind.MethodDefinition 49 53 (codes "set") 0 18
    (node role.Key kind.PrivateIdentifier 49 51 (codes "c") 0 19
    nothing
    (node role.Value kind.Function 52 53 (codes "expression") 0 20
    (node role.Params kind.FormalParameters 52 53 (codes "formal") 0 21
    (node role.Items kind.FormalParameter 52 53 [] 0 22
    (node role.Pattern kind.BindingIdentifier 52 53 (codes "x") 0 23
    nothing
    nothing)
    nothing)
    (node role.Body kind.FunctionBody 53 53 [] 0 24
    nothing
    nothing))
    nothing))
    (node role.Body kind.PropertyDefinition 58 60 [] 0 25
    (node role.Key kind.PrivateIdentifier 58 60 (codes "c") 0 26
    nothing
    nothing)
    nothing))))))
    nothing))
    nothing)

told_3 : diagnostics_of true program_3 ≡ (says (Some (codes "TS(2804)")) (codes "Duplicate identifier `#a`. Static and instance elements cannot share the same private name.") (label_at 10 12 (Some (codes "`#a` has already been declared here")) ∷ label_at 21 23 (Some (codes "It can not be redeclared here")) ∷ []) None None ∷ says None (codes "Identifier `#c` has already been declared") (label_at 37 39 (Some (codes "`#c` has already been declared here")) ∷ label_at 58 60 (Some (codes "It can not be redeclared here")) ∷ []) None None ∷ [])
unfolding encode chars
told_3 = refl

-- class C { a; a() {} }
abbrev program_4 : Tree
program_4 = program goal.Script lang.Js (codes "class C { a; a() {} }") 0 21 (node role.Body kind.Class 6 14 (codes "declaration") 0 1
    (node role.Id kind.BindingIdentifier 6 7 (codes "C") 0 2
    nothing
    (node role.Body kind.ClassBody 10 14 [] 0 3
    (node role.Body kind.PropertyDefinition 10 11 [] 0 4
    (node role.Key kind.IdentifierName 10 11 (codes "a") 0 5
    nothing
    nothing)
    (node role.Body kind.MethodDefinition 13 14 (codes "method") 0 6
    (node role.Key kind.IdentifierName 13 14 (codes "a") 0 7
    nothing
    (node role.Value kind.Function 14 14 (codes "expression") 0 8
    (node role.Params kind.FormalParameters 14 14 (codes "formal") 0 9
    nothing
    (node role.Body kind.FunctionBody 14 14 [] 0 10
    nothing
    nothing))
    nothing))
    nothing))
    nothing))
    nothing)

told_4 : diagnostics_of true program_4 ≡ []
unfolding encode chars
told_4 = refl

-- class C { a; a() {} }
abbrev program_5 : Tree
program_5 = program goal.Script lang.Ts (codes "class C { a; a() {} }") 0 21 (node role.Body kind.Class 6 14 (codes "declaration") 0 1
    (node role.Id kind.BindingIdentifier 6 7 (codes "C") 0 2
    nothing
    (node role.Body kind.ClassBody 10 14 [] 0 3
    (node role.Body kind.PropertyDefinition 10 11 [] 0 4
    (node role.Key kind.IdentifierName 10 11 (codes "a") 0 5
    nothing
    nothing)
    (node role.Body kind.MethodDefinition 13 14 (codes "method") 0 6
    (node role.Key kind.IdentifierName 13 14 (codes "a") 0 7
    nothing
    (node role.Value kind.Function 14 14 (codes "expression") 0 8
    (node role.Params kind.FormalParameters 14 14 (codes "formal") 0 9
    nothing
    (node role.Body kind.FunctionBody 14 14 [] 0 10
    nothing
    nothing))
    nothing))
    nothing))
    nothing))
    nothing)

told_5 : diagnostics_of true program_5 ≡ (says None (codes "Identifier `a` has already been declared") (label_at 10 11 (Some (codes "`a` has already been declared here")) ∷ label_at 13 14 (Some (codes "It can not be redeclared here")) ∷ []) None None ∷ [])
unfolding encode chars
told_5 = refl

-- class C { a(); a() {} b(); c(); d() {} constructor(); [x](); [y](); z() {} }
abbrev program_6 : Tree
program_6 = program goal.Script lang.Ts (codes "class C { a(); a() {} b(); c(); d() {} constructor(); [x](); [y](); z() {} }") 0 76 (node role.Body kind.Class 6 69 (codes "declaration") 0 1
    (node role.Id kind.BindingIdentifier 6 7 (codes "C") 0 2
    nothing
    (node role.Body kind.ClassBody 10 69 [] 0 3
    (node role.Body kind.MethodDefinition 10 11 (codes "method") 0 4
    (node role.Key kind.IdentifierName 10 11 (codes "a") 0 5
    nothing
    (node role.Value kind.Function 11 11 (codes "ts-empty-body") 0 6
    (node role.Params kind.FormalParameters 11 11 (codes "formal") 0 7
    nothing
    nothing)
    nothing))
    (node role.Body kind.MethodDefinition 15 16 (codes "method") 0 8
    (node role.Key kind.IdentifierName 15 16 (codes "a") 0 9
    nothing
    (node role.Value kind.Function 16 16 (codes "expression") 0 10
    (node role.Params kind.FormalParameters 16 16 (codes "formal") 0 11
    nothing
    (node role.Body kind.FunctionBody 16 16 [] 0 12
    nothing
    nothing))
    nothing))
    (node role.Body kind.MethodDefinition 22 23 (codes "method") 0 13
    (node role.Key kind.IdentifierName 22 23 (codes "b") 0 14
    nothing
    (node role.Value kind.Function 23 23 (codes "ts-empty-body") 0 15
    (node role.Params kind.FormalParameters 23 23 (codes "formal") 0 16
    nothing
    nothing)
    nothing))
    (node role.Body kind.MethodDefinition 27 28 (codes "method") 0 17
    (node role.Key kind.IdentifierName 27 28 (codes "c") 0 18
    nothing
    (node role.Value kind.Function 28 28 (codes "ts-empty-body") 0 19
    (node role.Params kind.FormalParameters 28 28 (codes "formal") 0 20
    nothing
    nothing)
    nothing))
    (node role.Body kind.MethodDefinition 32 33 (codes "method") 0 21
    (node role.Key kind.IdentifierName 32 33 (codes "d") 0 22
    nothing
    (node role.Value kind.Function 33 33 (codes "expression") 0 23
    (node role.Params kind.FormalParameters 33 33 (codes "formal") 0 24
    nothing
    (node role.Body kind.FunctionBody 33 33 [] 0 25
    nothing
    nothing))
    nothing))
    (node role.Body kind.MethodDefinition 39 50 (codes "constructor") 0 26
    (node role.Key kind.IdentifierName 39 50 (codes "constructor") 0 27
    nothing
    (node role.Value kind.Function 50 50 (codes "ts-empty-body") 0 28
    (node role.Params kind.FormalParameters 50 50 (codes "formal") 0 29
    nothing
    nothing)
    nothing))
    (node role.Body kind.MethodDefinition 55 56 (codes "method") 32 30
    (node role.Key kind.IdentifierReference 55 56 (codes "x") 0 31
    nothing
    (node role.Value kind.Function 56 56 (codes "ts-empty-body") 0 32
    (node role.Params kind.FormalParameters 56 56 (codes "formal") 0 33
    nothing
    nothing)
    nothing))
    (node role.Body kind.MethodDefinition 62 63 (codes "method") 32 34
    (node role.Key kind.IdentifierReference 62 63 (codes "y") 0 35
    nothing
    (node role.Value kind.Function 63 63 (codes "ts-empty-body") 0 36
    (node role.Params kind.FormalParameters 63 63 (codes "formal") 0 37
    nothing
    nothing)
    nothing))
    (node role.Body kind.MethodDefinition 68 69 (codes "method") 0 38
    (node role.Key kind.IdentifierName 68 69 (codes "z") 0 39
    nothing
    (node role.Value kind.Function 69 69 (codes "expression") 0 40
    (node role.Params kind.FormalParameters 69 69 (codes "formal") 0 41
    nothing
    (node role.Body kind.FunctionBody 69 69 [] 0 42
    nothing
    nothing))
    nothing))
    nothing)))))))))
    nothing))
    nothing)

told_6 : diagnostics_of true program_6 ≡ (says (Some (codes "TS(2391)")) (codes "Function implementation is missing or not immediately following the declaration.") (label_at 22 23 None ∷ []) None None ∷ says (Some (codes "TS(2391)")) (codes "Function implementation is missing or not immediately following the declaration.") (label_at 27 28 None ∷ []) None None ∷ says (Some (codes "TS(2390)")) (codes "Constructor implementation is missing.") (label_at 39 50 None ∷ []) None None ∷ says (Some (codes "TS(2391)")) (codes "Function implementation is missing or not immediately following the declaration.") (label_at 62 63 None ∷ []) None None ∷ [])
unfolding encode chars
told_6 = refl

-- class C { constructor(public a); get b(); abstract c; }
abbrev program_7 : Tree
program_7 = program goal.Script lang.Ts (codes "class C { constructor(public a); get b(); abstract c; }") 0 55 (node role.Body kind.Class 6 52 (codes "declaration") 0 1
    (node role.Id kind.BindingIdentifier 6 7 (codes "C") 0 2
    nothing
    (node role.Body kind.ClassBody 10 52 [] 0 3
    (node role.Body kind.MethodDefinition 10 30 (codes "constructor") 0 4
    (node role.Key kind.IdentifierName 10 21 (codes "constructor") 0 5
    nothing
    (node role.Value kind.Function 22 30 (codes "ts-empty-body") 0 6
    (node role.Params kind.FormalParameters 22 30 (codes "formal") 0 7
    (node role.Items kind.FormalParameter 22 30 [] 2048 8
    (node role.Pattern kind.BindingIdentifier 29 30 (codes "a") 0 9
    nothing
    nothing)
    nothing)
    nothing)
    nothing))
    (node role.Body kind.MethodDefinition 37 38 (codes "get") 0 10
    (node role.Key kind.IdentifierName 37 38 (codes "b") 0 11
    nothing
    (node role.Value kind.Function 38 38 (codes "ts-empty-body") 0 12
    (node role.Params kind.FormalParameters 38 38 (codes "formal") 0 13
    nothing
    nothing)
    nothing))
    (node role.Body kind.PropertyDefinition 51 52 [] 64 14
    (node role.Key kind.IdentifierName 51 52 (codes "c") 0 15
    nothing
    nothing)
    nothing)))
    nothing))
    nothing)

told_7 : diagnostics_of true program_7 ≡ (says (Some (codes "TS(2369)")) (codes "A parameter property is only allowed in a constructor implementation.") (label_at 22 30 None ∷ []) None None ∷ says None (codes "Getters and setters must have an implementation.") (label_at 37 38 None ∷ []) None None ∷ says (Some (codes "TS(1253)")) (codes "Abstract properties can only appear within an abstract class.") (label_at 51 52 None ∷ []) None None ∷ says (Some (codes "TS(2390)")) (codes "Constructor implementation is missing.") (label_at 10 21 None ∷ []) None None ∷ says (Some (codes "TS(2391)")) (codes "Function implementation is missing or not immediately following the declaration.") (label_at 37 38 None ∷ []) None None ∷ [])
unfolding encode chars
told_7 = refl

-- class C { #x; y = delete a.#x; z = delete a?.#x }
abbrev program_8 : Tree
program_8 = program goal.Script lang.Js (codes "class C { #x; y = delete a.#x; z = delete a?.#x }") 0 49 (node role.Body kind.Class 6 47 (codes "declaration") 0 1
    (node role.Id kind.BindingIdentifier 6 7 (codes "C") 0 2
    nothing
    (node role.Body kind.ClassBody 10 47 [] 0 3
    (node role.Body kind.PropertyDefinition 10 12 [] 0 4
    (node role.Key kind.PrivateIdentifier 10 12 (codes "x") 0 5
    nothing
    nothing)
    (node role.Body kind.PropertyDefinition 14 29 [] 0 6
    (node role.Key kind.IdentifierName 14 15 (codes "y") 0 7
    nothing
    (node role.Value kind.UnaryExpression 25 29 (codes "delete") 0 8
    (node role.Argument kind.PrivateFieldExpression 25 29 [] 0 9
    (node role.Object kind.IdentifierReference 25 26 (codes "a") 0 10
    nothing
    (node role.Field kind.PrivateIdentifier 27 29 (codes "x") 0 11
    nothing
    nothing))
    nothing)
    nothing))
    (node role.Body kind.PropertyDefinition 31 47 [] 0 12
    (node role.Key kind.IdentifierName 31 32 (codes "z") 0 13
    nothing
    (node role.Value kind.UnaryExpression 42 47 (codes "delete") 0 14
    (node role.Argument kind.ChainExpression 42 47 [] 0 15
    (node role.Expression kind.PrivateFieldExpression 42 47 [] 0 16
    (node role.Object kind.IdentifierReference 42 43 (codes "a") 0 17
    nothing
    (node role.Field kind.PrivateIdentifier 45 47 (codes "x") 0 18
    nothing
    nothing))
    nothing)
    nothing)
    nothing))
    nothing)))
    nothing))
    nothing)

told_8 : diagnostics_of true program_8 ≡ (says None (codes "The operand of a 'delete' operator cannot be a private identifier.") (label_at 25 29 None ∷ []) None None ∷ says None (codes "The operand of a 'delete' operator cannot be a private identifier.") (label_at 45 47 None ∷ []) None None ∷ [])
unfolding encode chars
told_8 = refl

-- class C { #x; m() { #y in this } }
abbrev program_9 : Tree
program_9 = program goal.Script lang.Js (codes "class C { #x; m() { #y in this } }") 0 34 (node role.Body kind.Class 6 30 (codes "declaration") 0 1
    (node role.Id kind.BindingIdentifier 6 7 (codes "C") 0 2
    nothing
    (node role.Body kind.ClassBody 10 30 [] 0 3
    (node role.Body kind.PropertyDefinition 10 12 [] 0 4
    (node role.Key kind.PrivateIdentifier 10 12 (codes "x") 0 5
    nothing
    nothing)
    (node role.Body kind.MethodDefinition 14 30 (codes "method") 0 6
    (node role.Key kind.IdentifierName 14 15 (codes "m") 0 7
    nothing
    (node role.Value kind.Function 15 30 (codes "expression") 0 8
    (node role.Params kind.FormalParameters 15 15 (codes "formal") 0 9
    nothing
    (node role.Body kind.FunctionBody 20 30 [] 0 10
    (node role.Body kind.ExpressionStatement 20 30 [] 0 11
    (node role.Expression kind.PrivateInExpression 20 30 [] 0 12
    (node role.Left kind.PrivateIdentifier 20 22 (codes "y") 0 13
    nothing
    (node role.Right kind.ThisExpression 26 30 [] 0 14
    nothing
    nothing))
    nothing)
    nothing)
    nothing))
    nothing))
    nothing))
    nothing))
    nothing)

told_9 : diagnostics_of true program_9 ≡ (says None (codes "Private field '#y' must be declared in an enclosing class") (label_at 20 22 None ∷ []) None None ∷ [])
unfolding encode chars
told_9 = refl

-- class C { abstract m(): void; }
abbrev program_10 : Tree
program_10 = program goal.Script lang.Ts (codes "class C { abstract m(): void; }") 0 31 (node role.Body kind.Class 6 20 (codes "declaration") 0 1
    (node role.Id kind.BindingIdentifier 6 7 (codes "C") 0 2
    nothing
    (node role.Body kind.ClassBody 19 20 [] 0 3
    (node role.Body kind.MethodDefinition 19 20 (codes "method") 64 4
    (node role.Key kind.IdentifierName 19 20 (codes "m") 0 5
    nothing
    (node role.Value kind.Function 20 20 (codes "expression") 0 6
    (node role.Params kind.FormalParameters 20 20 (codes "formal") 0 7
    nothing
    nothing)
    nothing))
    nothing)
    nothing))
    nothing)

told_10 : diagnostics_of true program_10 ≡ (says (Some (codes "TS(1244)")) (codes "Abstract methods can only appear within an abstract class.") (label_at 19 20 None ∷ []) None None ∷ [])
unfolding encode chars
told_10 = refl
