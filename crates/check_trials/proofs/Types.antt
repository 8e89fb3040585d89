-- Trials of rows on types, namespaces and enums.
use lib.Utf8.{encode}
use Rattle.std.specs.Str.{chars}
use Rattle.std.proofs.Common.{◌≡◌, [], ◌∷◌, refl, codes, Some, None, true}
use Rattle.semantic_syntax.specs.declared.source_type.Goal.TheVariants as goal
use Rattle.semantic_syntax.specs.declared.source_type.Lang.TheVariants as lang
use Rattle.semantic_kinds.specs.declared.kind.AstType.TheVariants as kind
use Rattle.semantic_kinds.specs.declared.role.Role.TheVariants as role
use Rattle.semantic_tree.specs.Forest.{nothing}
use Rattle.semantic_tree.specs.Tree.{Tree}
use Rattle.check_model.specs.DiagnosticsOf.{diagnostics_of}
use Rattle.check_trials.specs.Write.{node, program, label_at, says}

-- let a: ?T; let b: T!;
abbrev program_1 : Tree
program_1 = program goal.Script lang.Ts (codes "let a: ?T; let b: T!;") 0 21 (node role.Body kind.VariableDeclaration 4 9 (codes "let") 0 1
    (node role.Declarators kind.VariableDeclarator 4 9 [] 0 2
    (node role.Id kind.BindingIdentifier 4 5 (codes "a") 0 3
    nothing
    (node role.Annotation kind.TSTypeAnnotation 7 9 [] 0 4
    (node role.Element kind.JSDocNullableType 7 9 [] 0 5
    (node role.Element kind.TSTypeReference 8 9 [] 0 6
    (node role.Name kind.IdentifierReference 8 9 (codes "T") 0 7
    nothing
    nothing)
    nothing)
    nothing)
    nothing))
    nothing)
    (node role.Body kind.VariableDeclaration 15 20 (codes "let") 0 8
    (node role.Declarators kind.VariableDeclarator 15 20 [] 0 9
    (node role.Id kind.BindingIdentifier 15 16 (codes "b") 0 10
    nothing
    (node role.Annotation kind.TSTypeAnnotation 18 20 [] 0 11
    (node role.Element kind.JSDocNonNullableType 18 20 [] 16777216 12
    (node role.Element kind.TSTypeReference 18 19 [] 0 13
    (node role.Name kind.IdentifierReference 18 19 (codes "T") 0 14
    nothing
    nothing)
    nothing)
    nothing)
    nothing))
    nothing)
    nothing))

told_1 : diagnostics_of true program_1 ≡ (says (Some (codes "TS(17020)")) (codes "'?' at the start of a type is not valid TypeScript syntax.") (label_at 7 9 None ∷ []) (Some (codes "Did you mean to write 'T | null | undefined'?")) None ∷ says (Some (codes "TS(17019)")) (codes "'!' at the end of a type is not valid TypeScript syntax.") (label_at 18 20 None ∷ []) (Some (codes "Did you mean to write 'T'?")) None ∷ [])
unfolding encode chars
told_1 = refl

-- function f(a): a is T {} let x: a is T;
abbrev program_2 : Tree
program_2 = program goal.Script lang.Ts (codes "function f(a): a is T {} let x: a is T;") 0 39 (node role.Body kind.Function 9 21 (codes "declaration") 0 1
    (node role.Id kind.BindingIdentifier 9 10 (codes "f") 0 2
    nothing
    (node role.Params kind.FormalParameters 11 12 (codes "formal") 0 3
    (node role.Items kind.FormalParameter 11 12 [] 0 4
    (node role.Pattern kind.BindingIdentifier 11 12 (codes "a") 0 5
    nothing
    nothing)
    nothing)
    (node role.ReturnType kind.TSTypeAnnotation 15 21 [] 0 6
    (node role.Element kind.TSTypePredicate 15 21 [] 0 7
    (node role.Name kind.IdentifierName 15 16 (codes "a") 0 8
    nothing
    (node role.Annotation kind.TSTypeAnnotation 20 21 [] 0 9
    (node role.Element kind.TSTypeReference 20 21 [] 0 10
    (node role.Name kind.IdentifierReference 20 21 (codes "T") 0 11
    nothing
    nothing)
    nothing)
    nothing))
    nothing)
    (node role.Body kind.FunctionBody 21 21 [] 0 12
    nothing
    nothing))))
    (node role.Body kind.VariableDeclaration 29 38 (codes "let") 0 13
    (node role.Declarators kind.VariableDeclarator 29 38 [] 0 14
    (node role.Id kind.BindingIdentifier 29 30 (codes "x") 0 15
    nothing
    (node role.Annotation kind.TSTypeAnnotation 32 38 [] 0 16
    (node role.Element kind.TSTypePredicate 32 38 [] 0 17
    (node role.Name kind.IdentifierName 32 33 (codes "a") 0 18
    nothing
    (node role.Annotation kind.TSTypeAnnotation 37 38 [] 0 19
    (node role.Element kind.TSTypeReference 37 38 [] 0 20
    (node role.Name kind.IdentifierReference 37 38 (codes "T") 0 21
    nothing
    nothing)
    nothing)
    nothing))
    nothing)
    nothing))
    nothing)
    nothing))

told_2 : diagnostics_of true program_2 ≡ (says (Some (codes "TS(1228)")) (codes "A type predicate is only allowed in return type position for functions and methods.") (label_at 32 38 None ∷ []) None None ∷ [])
unfolding encode chars
told_2 = refl

-- { namespace N {} declare module 'm' {} }
abbrev program_3 : Tree
program_3 = program goal.Script lang.Ts (codes "{ namespace N {} declare module 'm' {} }") 0 40 (node role.Body kind.BlockStatement 2 38 [] 0 1
    (node role.Body kind.TSNamespaceDeclaration 2 16 [] 0 2
    (node role.Id kind.BindingIdentifier 12 13 (codes "N") 0 3
    nothing
    (node role.Body kind.TSModuleBlock 13 13 [] 0 4
    nothing
    nothing))
    (node role.Body kind.TSExternalModuleDeclaration 17 38 [] 4 5
    (node role.Id kind.StringLiteral 32 35 (codes "m") 0 6
    nothing
    (node role.Body kind.TSModuleBlock 35 35 [] 0 7
    nothing
    nothing))
    nothing))
    nothing)

told_3 : diagnostics_of true program_3 ≡ (says (Some (codes "TS(1235)")) (codes "A namespace declaration is only allowed at the top level of a namespace or module.") (label_at 2 16 None ∷ []) None None ∷ says (Some (codes "TS(1234)")) (codes "An ambient module declaration is only allowed at the top level in a file.") (label_at 17 38 None ∷ []) None None ∷ [])
unfolding encode chars
told_3 = refl

-- namespace N { module 'm' {} } declare module 'p' { module 'q' {} }
abbrev program_4 : Tree
program_4 = program goal.Script lang.Ts (codes "namespace N { module 'm' {} } declare module 'p' { module 'q' {} }") 0 66 (node role.Body kind.TSNamespaceDeclaration 10 27 [] 0 1
    (node role.Id kind.BindingIdentifier 10 11 (codes "N") 0 2
    nothing
    (node role.Body kind.TSModuleBlock 14 27 [] 0 3
    (node role.Body kind.TSExternalModuleDeclaration 14 27 [] 0 4
    (node role.Id kind.StringLiteral 21 24 (codes "m") 0 5
    nothing
    (node role.Body kind.TSModuleBlock 24 24 [] 0 6
    nothing
    nothing))
    nothing)
    nothing))
    (node role.Body kind.TSExternalModuleDeclaration 45 61 [] 4 7
    (node role.Id kind.StringLiteral 45 48 (codes "p") 0 8
    nothing
    (node role.Body kind.TSModuleBlock 58 61 [] 0 9
    (node role.Body kind.TSExternalModuleDeclaration 58 61 [] 0 10
    (node role.Id kind.StringLiteral 58 61 (codes "q") 0 11
    nothing
    (node role.Body kind.TSModuleBlock 61 61 [] 0 12
    nothing
    nothing))
    nothing)
    nothing))
    nothing))

told_4 : diagnostics_of true program_4 ≡ (says (Some (codes "TS(2435)")) (codes "Ambient modules cannot be nested in other modules or namespaces.") (label_at 14 27 None ∷ []) None None ∷ [])
unfolding encode chars
told_4 = refl

-- global {}
abbrev program_5 : Tree
program_5 = program goal.Script lang.Ts (codes "global {}") 0 9 (node role.Body kind.TSGlobalDeclaration 0 9 [] 0 1
    (node role.Body kind.TSModuleBlock 0 0 [] 0 2
    nothing
    nothing)
    nothing)

told_5 : diagnostics_of true program_5 ≡ (says (Some (codes "TS(2670)")) (codes "Augmentations for the global scope should have 'declare' modifier unless they appear in already ambient context.") (label_at 0 6 None ∷ []) None None ∷ [])
unfolding encode chars
told_5 = refl

-- enum E { A, B = 'x', C, D = (1), F }
abbrev program_6 : Tree
program_6 = program goal.Script lang.Ts (codes "enum E { A, B = 'x', C, D = (1), F }") 0 36 (node role.Body kind.TSEnumDeclaration 5 34 [] 0 1
    (node role.Id kind.BindingIdentifier 5 6 (codes "E") 0 2
    nothing
    (node role.Body kind.TSEnumBody 9 34 [] 0 3
    (node role.Members kind.TSEnumMember 9 10 [] 0 4
    (node role.Id kind.IdentifierName 9 10 (codes "A") 0 5
    nothing
    nothing)
    (node role.Members kind.TSEnumMember 12 19 [] 0 6
    (node role.Id kind.IdentifierName 12 13 (codes "B") 0 7
    nothing
    (node role.Initializer kind.StringLiteral 16 19 (codes "x") 0 8
    nothing
    nothing))
    (node role.Members kind.TSEnumMember 21 22 [] 0 9
    (node role.Id kind.IdentifierName 21 22 (codes "C") 0 10
    nothing
    nothing)
    (node role.Members kind.TSEnumMember 24 30 [] 0 11
    (node role.Id kind.IdentifierName 24 25 (codes "D") 0 12
    nothing
    (node role.Initializer kind.ParenthesizedExpression 29 30 [] 0 13
    (node role.Expression kind.NumericLiteral 29 30 (codes "1") 134217728 14
    nothing
    nothing)
    nothing))
    (node role.Members kind.TSEnumMember 33 34 [] 0 15
    (node role.Id kind.IdentifierName 33 34 (codes "F") 0 16
    nothing
    nothing)
    nothing)))))
    nothing))
    nothing)

told_6 : diagnostics_of true program_6 ≡ (says None (codes "Enum member must have initializer.") (label_at 21 22 None ∷ []) None None ∷ [])
unfolding encode chars
told_6 = refl
