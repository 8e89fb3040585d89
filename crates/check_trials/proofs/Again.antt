-- Trials of names that are declared again.
use lib.Utf8.{encode}
use Rattle.std.specs.Str.{chars}
use Rattle.std.proofs.Common.{◌≡◌, [], ◌∷◌, refl, codes, Some, None, true, false}
use Rattle.semantic_syntax.specs.declared.source_type.Goal.TheVariants as goal
use Rattle.semantic_syntax.specs.declared.source_type.Lang.TheVariants as lang
use Rattle.semantic_kinds.specs.declared.kind.AstType.TheVariants as kind
use Rattle.semantic_kinds.specs.declared.role.Role.TheVariants as role
use Rattle.semantic_tree.specs.Forest.{nothing}
use Rattle.semantic_tree.specs.Tree.{Tree}
use Rattle.check_model.specs.DiagnosticsOf.{diagnostics_of}
use Rattle.check_trials.specs.Write.{node, program, label_at, says}

-- { function f() {} var f; }
abbrev program_1 : Tree
program_1 = program goal.Script lang.Js (codes "{ function f() {} var f; }") 0 26 (node role.Body kind.BlockStatement 11 24 [] 0 1
    (node role.Body kind.Function 11 12 (codes "declaration") 0 2
    (node role.Id kind.BindingIdentifier 11 12 (codes "f") 0 3
    nothing
    (node role.Params kind.FormalParameters 12 12 (codes "formal") 0 4
    nothing
    (node role.Body kind.FunctionBody 12 12 [] 0 5
    nothing
    nothing)))
    (node role.Body kind.VariableDeclaration 18 24 (codes "var") 0 6
    (node role.Declarators kind.VariableDeclarator 22 23 [] 0 7
    (node role.Id kind.BindingIdentifier 22 23 (codes "f") 0 8
    nothing
    nothing)
    nothing)
    nothing))
    nothing)

told_1 : diagnostics_of true program_1 ≡ (says None (codes "Identifier `f` has already been declared") (label_at 11 12 (Some (codes "`f` has already been declared here")) ∷ label_at 22 23 (Some (codes "It can not be redeclared here")) ∷ []) None None ∷ [])
unfolding encode chars
told_1 = refl

-- 'use strict'; { function f() {} var f; }
abbrev program_2 : Tree
program_2 = program goal.Script lang.Js (codes "'use strict'; { function f() {} var f; }") 0 40 (node role.Directives kind.Directive 0 12 (codes "use strict") 0 1
    (node role.Expression kind.StringLiteral 0 12 (codes "use strict") 0 2
    nothing
    nothing)
    (node role.Body kind.BlockStatement 25 38 [] 0 3
    (node role.Body kind.Function 25 26 (codes "declaration") 0 4
    (node role.Id kind.BindingIdentifier 25 26 (codes "f") 0 5
    nothing
    (node role.Params kind.FormalParameters 26 26 (codes "formal") 0 6
    nothing
    (node role.Body kind.FunctionBody 26 26 [] 0 7
    nothing
    nothing)))
    (node role.Body kind.VariableDeclaration 32 38 (codes "var") 0 8
    (node role.Declarators kind.VariableDeclarator 36 37 [] 0 9
    (node role.Id kind.BindingIdentifier 36 37 (codes "f") 0 10
    nothing
    nothing)
    nothing)
    nothing))
    nothing))

told_2 : diagnostics_of true program_2 ≡ (says None (codes "Identifier `f` has already been declared") (label_at 25 26 (Some (codes "`f` has already been declared here")) ∷ label_at 36 37 (Some (codes "It can not be redeclared here")) ∷ []) None None ∷ [])
unfolding encode chars
told_2 = refl

-- { function f() {} function f() {} }
abbrev program_3 : Tree
program_3 = program goal.Script lang.Js (codes "{ function f() {} function f() {} }") 0 35 (node role.Body kind.BlockStatement 11 28 [] 0 1
    (node role.Body kind.Function 11 12 (codes "declaration") 0 2
    (node role.Id kind.BindingIdentifier 11 12 (codes "f") 0 3
    nothing
    (node role.Params kind.FormalParameters 12 12 (codes "formal") 0 4
    nothing
    (node role.Body kind.FunctionBody 12 12 [] 0 5
    nothing
    nothing)))
    (node role.Body kind.Function 27 28 (codes "declaration") 0 6
    (node role.Id kind.BindingIdentifier 27 28 (codes "f") 0 7
    nothing
    (node role.Params kind.FormalParameters 28 28 (codes "formal") 0 8
    nothing
    (node role.Body kind.FunctionBody 28 28 [] 0 9
    nothing
    nothing)))
    nothing))
    nothing)

told_3 : diagnostics_of true program_3 ≡ []
unfolding encode chars
told_3 = refl

-- { async function f() {} function f() {} }
abbrev program_4 : Tree
program_4 = program goal.Script lang.Js (codes "{ async function f() {} function f() {} }") 0 41 (node role.Body kind.BlockStatement 17 34 [] 0 1
    (node role.Body kind.Function 17 18 (codes "declaration") 1 2
    (node role.Id kind.BindingIdentifier 17 18 (codes "f") 0 3
    nothing
    (node role.Params kind.FormalParameters 18 18 (codes "formal") 0 4
    nothing
    (node role.Body kind.FunctionBody 18 18 [] 0 5
    nothing
    nothing)))
    (node role.Body kind.Function 33 34 (codes "declaration") 0 6
    (node role.Id kind.BindingIdentifier 33 34 (codes "f") 0 7
    nothing
    (node role.Params kind.FormalParameters 34 34 (codes "formal") 0 8
    nothing
    (node role.Body kind.FunctionBody 34 34 [] 0 9
    nothing
    nothing)))
    nothing))
    nothing)

told_4 : diagnostics_of true program_4 ≡ (says None (codes "Identifier `f` has already been declared") (label_at 17 18 (Some (codes "`f` has already been declared here")) ∷ label_at 33 34 (Some (codes "It can not be redeclared here")) ∷ []) None None ∷ [])
unfolding encode chars
told_4 = refl

-- 'use strict'; { function f() {} function f() {} }
abbrev program_5 : Tree
program_5 = program goal.Script lang.Js (codes "'use strict'; { function f() {} function f() {} }") 0 49 (node role.Directives kind.Directive 0 12 (codes "use strict") 0 1
    (node role.Expression kind.StringLiteral 0 12 (codes "use strict") 0 2
    nothing
    nothing)
    (node role.Body kind.BlockStatement 25 42 [] 0 3
    (node role.Body kind.Function 25 26 (codes "declaration") 0 4
    (node role.Id kind.BindingIdentifier 25 26 (codes "f") 0 5
    nothing
    (node role.Params kind.FormalParameters 26 26 (codes "formal") 0 6
    nothing
    (node role.Body kind.FunctionBody 26 26 [] 0 7
    nothing
    nothing)))
    (node role.Body kind.Function 41 42 (codes "declaration") 0 8
    (node role.Id kind.BindingIdentifier 41 42 (codes "f") 0 9
    nothing
    (node role.Params kind.FormalParameters 42 42 (codes "formal") 0 10
    nothing
    (node role.Body kind.FunctionBody 42 42 [] 0 11
    nothing
    nothing)))
    nothing))
    nothing))

told_5 : diagnostics_of true program_5 ≡ (says None (codes "Identifier `f` has already been declared") (label_at 25 26 (Some (codes "`f` has already been declared here")) ∷ label_at 41 42 (Some (codes "It can not be redeclared here")) ∷ []) None None ∷ [])
unfolding encode chars
told_5 = refl

-- function f() {} function f() {}
abbrev program_6 : Tree
program_6 = program goal.Module lang.Js (codes "function f() {} function f() {}") 0 31 (node role.Body kind.Function 9 10 (codes "declaration") 0 1
    (node role.Id kind.BindingIdentifier 9 10 (codes "f") 0 2
    nothing
    (node role.Params kind.FormalParameters 10 10 (codes "formal") 0 3
    nothing
    (node role.Body kind.FunctionBody 10 10 [] 0 4
    nothing
    nothing)))
    (node role.Body kind.Function 25 26 (codes "declaration") 0 5
    (node role.Id kind.BindingIdentifier 25 26 (codes "f") 0 6
    nothing
    (node role.Params kind.FormalParameters 26 26 (codes "formal") 0 7
    nothing
    (node role.Body kind.FunctionBody 26 26 [] 0 8
    nothing
    nothing)))
    nothing))

told_6 : diagnostics_of true program_6 ≡ (says None (codes "Identifier `f` has already been declared") (label_at 9 10 (Some (codes "`f` has already been declared here")) ∷ label_at 25 26 (Some (codes "It can not be redeclared here")) ∷ []) None None ∷ [])
unfolding encode chars
told_6 = refl

-- function f() {} class f {}
abbrev program_7 : Tree
program_7 = program goal.Script lang.Js (codes "function f() {} class f {}") 0 26 (node role.Body kind.Function 9 10 (codes "declaration") 0 1
    (node role.Id kind.BindingIdentifier 9 10 (codes "f") 0 2
    nothing
    (node role.Params kind.FormalParameters 10 10 (codes "formal") 0 3
    nothing
    (node role.Body kind.FunctionBody 10 10 [] 0 4
    nothing
    nothing)))
    (node role.Body kind.Class 22 23 (codes "declaration") 0 5
    (node role.Id kind.BindingIdentifier 22 23 (codes "f") 0 6
    nothing
    (node role.Body kind.ClassBody 23 23 [] 0 7
    nothing
    nothing))
    nothing))

told_7 : diagnostics_of true program_7 ≡ (says None (codes "Identifier `f` has already been declared") (label_at 9 10 (Some (codes "`f` has already been declared here")) ∷ label_at 22 23 (Some (codes "It can not be redeclared here")) ∷ []) None None ∷ [])
unfolding encode chars
told_7 = refl

-- let f; function f() {}
abbrev program_8 : Tree
program_8 = program goal.Script lang.Js (codes "let f; function f() {}") 0 22 (node role.Body kind.VariableDeclaration 4 5 (codes "let") 0 1
    (node role.Declarators kind.VariableDeclarator 4 5 [] 0 2
    (node role.Id kind.BindingIdentifier 4 5 (codes "f") 0 3
    nothing
    nothing)
    nothing)
    (node role.Body kind.Function 16 17 (codes "declaration") 0 4
    (node role.Id kind.BindingIdentifier 16 17 (codes "f") 0 5
    nothing
    (node role.Params kind.FormalParameters 17 17 (codes "formal") 0 6
    nothing
    (node role.Body kind.FunctionBody 17 17 [] 0 7
    nothing
    nothing)))
    nothing))

told_8 : diagnostics_of true program_8 ≡ (says None (codes "Identifier `f` has already been declared") (label_at 4 5 (Some (codes "`f` has already been declared here")) ∷ label_at 16 17 (Some (codes "It can not be redeclared here")) ∷ []) None None ∷ [])
unfolding encode chars
told_8 = refl

told_unchecked_8 : diagnostics_of false program_8 ≡ (says None (codes "Identifier `f` has already been declared") (label_at 4 5 (Some (codes "`f` has already been declared here")) ∷ label_at 16 17 (Some (codes "It can not be redeclared here")) ∷ []) None None ∷ [])
unfolding encode chars
told_unchecked_8 = refl

-- type T = (a, a) => T
abbrev program_9 : Tree
program_9 = program goal.Script lang.Ts (codes "type T = (a, a) => T") 0 20 (node role.Body kind.TSTypeAliasDeclaration 5 20 [] 0 1
    (node role.Id kind.BindingIdentifier 5 6 (codes "T") 0 2
    nothing
    (node role.ValueType kind.TSFunctionType 10 20 [] 0 3
    (node role.Params kind.FormalParameters 10 14 (codes "signature") 0 4
    (node role.Items kind.FormalParameter 10 11 [] 0 5
    (node role.Pattern kind.BindingIdentifier 10 11 (codes "a") 0 6
    nothing
    nothing)
    (node role.Items kind.FormalParameter 13 14 [] 0 7
    (node role.Pattern kind.BindingIdentifier 13 14 (codes "a") 0 8
    nothing
    nothing)
    nothing))
    (node role.ReturnType kind.TSTypeAnnotation 19 20 [] 0 9
    (node role.Element kind.TSTypeReference 19 20 [] 0 10
    (node role.Name kind.IdentifierReference 19 20 (codes "T") 0 11
    nothing
    nothing)
    nothing)
    nothing))
    nothing))
    nothing)

told_9 : diagnostics_of true program_9 ≡ (says None (codes "Identifier `a` has already been declared") (label_at 10 11 (Some (codes "`a` has already been declared here")) ∷ label_at 13 14 (Some (codes "It can not be redeclared here")) ∷ []) None None ∷ [])
unfolding encode chars
told_9 = refl

-- function f(a, a) {} (a, a) => {}
abbrev program_10 : Tree
program_10 = program goal.Script lang.Js (codes "function f(a, a) {} (a, a) => {}") 0 32 (node role.Body kind.Function 9 15 (codes "declaration") 0 1
    (node role.Id kind.BindingIdentifier 9 10 (codes "f") 0 2
    nothing
    (node role.Params kind.FormalParameters 11 15 (codes "formal") 0 3
    (node role.Items kind.FormalParameter 11 12 [] 0 4
    (node role.Pattern kind.BindingIdentifier 11 12 (codes "a") 0 5
    nothing
    nothing)
    (node role.Items kind.FormalParameter 14 15 [] 0 6
    (node role.Pattern kind.BindingIdentifier 14 15 (codes "a") 0 7
    nothing
    nothing)
    nothing))
    (node role.Body kind.FunctionBody 15 15 [] 0 8
    nothing
    nothing)))
    (node role.Body kind.ExpressionStatement 21 25 [] 0 9
    (node role.Expression kind.ArrowFunctionExpression 21 25 [] 0 10
    (node role.Params kind.FormalParameters 21 25 (codes "arrow") 0 11
    (node role.Items kind.FormalParameter 21 22 [] 0 12
    (node role.Pattern kind.BindingIdentifier 21 22 (codes "a") 0 13
    nothing
    nothing)
    (node role.Items kind.FormalParameter 24 25 [] 0 14
    (node role.Pattern kind.BindingIdentifier 24 25 (codes "a") 0 15
    nothing
    nothing)
    nothing))
    (node role.Body kind.FunctionBody 25 25 [] 0 16
    nothing
    nothing))
    nothing)
    nothing))

told_10 : diagnostics_of true program_10 ≡ (says None (codes "Identifier `a` has already been declared") (label_at 21 22 (Some (codes "`a` has already been declared here")) ∷ label_at 24 25 (Some (codes "It can not be redeclared here")) ∷ []) None None ∷ [])
unfolding encode chars
told_10 = refl

told_unchecked_10 : diagnostics_of false program_10 ≡ (says None (codes "Identifier `a` has already been declared") (label_at 21 22 (Some (codes "`a` has already been declared here")) ∷ label_at 24 25 (Some (codes "It can not be redeclared here")) ∷ []) None None ∷ [])
unfolding encode chars
told_unchecked_10 = refl
