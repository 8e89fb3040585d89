-- Trials of rows on exports and imports.
use lib.Utf8.{encode}
use Rattle.std.specs.Str.{chars}
use Rattle.std.proofs.Common.{◌≡◌, [], ◌∷◌, refl, codes, Some, None, true}
use Rattle.semantic_syntax.specs.declared.source_type.Goal.TheVariants as goal
use Rattle.semantic_syntax.specs.declared.source_type.Lang.TheVariants as lang
use Rattle.semantic_kinds.specs.declared.kind.AstType.TheVariants as kind
use Rattle.semantic_kinds.specs.declared.role.Role.TheVariants as role
use Rattle.semantic_tree.specs.Forest.{nothing}
use Rattle.semantic_tree.specs.Tree.{Tree}
use Rattle.check_model.specs.DiagnosticsOf.{diagnostics_of}
use Rattle.check_trials.specs.Write.{node, program, label_at, says}

-- export { a, b }; let a;
abbrev program_1 : Tree
program_1 = program goal.Module lang.Js (codes "export { a, b }; let a;") 0 23 (node role.Body kind.ExportNamedDeclaration 9 13 [] 0 1
    (node role.Specifiers kind.ExportSpecifier 9 10 [] 0 2
    (node role.Local kind.IdentifierReference 9 10 (codes "a") 0 3
    nothing
    (node role.Exported kind.IdentifierName 10 10 (codes "a") 0 4
    nothing
    nothing))
    (node role.Specifiers kind.ExportSpecifier 12 13 [] 0 5
    (node role.Local kind.IdentifierReference 12 13 (codes "b") 0 6
    nothing
    (node role.Exported kind.IdentifierName 13 13 (codes "b") 0 7
    nothing
    nothing))
    nothing))
    (node role.Body kind.VariableDeclaration 21 22 (codes "let") 0 8
    (node role.Declarators kind.VariableDeclarator 21 22 [] 0 9
    (node role.Id kind.BindingIdentifier 21 22 (codes "a") 0 10
    nothing
    nothing)
    nothing)
    nothing))

told_1 : diagnostics_of true program_1 ≡ (says None (codes "Export 'b' is not defined") (label_at 12 13 None ∷ []) None None ∷ [])
unfolding encode chars
told_1 = refl

-- import a from 'm'; let a;
abbrev program_2 : Tree
program_2 = program goal.Module lang.Js (codes "import a from 'm'; let a;") 0 25 (node role.Body kind.ImportDeclaration 7 17 [] 0 1
    (node role.Specifiers kind.ImportDefaultSpecifier 7 8 [] 0 2
    (node role.Local kind.BindingIdentifier 7 8 (codes "a") 0 3
    nothing
    nothing)
    (node role.Source kind.StringLiteral 14 17 (codes "m") 0 4
    nothing
    nothing))
    (node role.Body kind.VariableDeclaration 23 24 (codes "let") 0 5
    (node role.Declarators kind.VariableDeclarator 23 24 [] 0 6
    (node role.Id kind.BindingIdentifier 23 24 (codes "a") 0 7
    nothing
    nothing)
    nothing)
    nothing))

told_2 : diagnostics_of true program_2 ≡ (says None (codes "Identifier `a` has already been declared") (label_at 7 8 (Some (codes "`a` has already been declared here")) ∷ label_at 23 24 (Some (codes "It can not be redeclared here")) ∷ []) None None ∷ [])
unfolding encode chars
told_2 = refl

-- export = a; export default a;
abbrev program_3 : Tree
program_3 = program goal.Module lang.Ts (codes "export = a; export default a;") 0 29 (node role.Body kind.TSExportAssignment 0 11 [] 0 1
    (node role.Expression kind.IdentifierReference 9 10 (codes "a") 0 2
    nothing
    nothing)
    (node role.Body kind.ExportDefaultDeclaration 27 28 [] 0 3
    (node role.Declaration kind.IdentifierReference 27 28 (codes "a") 0 4
    nothing
    nothing)
    nothing))

told_3 : diagnostics_of true program_3 ≡ (says (Some (codes "TS(2309)")) (codes "An export assignment cannot be used in a module with other exported elements") (label_at 0 11 None ∷ []) (Some (codes "If you want to use `export =`, remove other `export`s and put all of them to the right hand value of `export =`. If you want to use `export`s, remove `export =` statement.")) None ∷ [])
unfolding encode chars
told_3 = refl

-- export { a }; export default b;
abbrev program_4 : Tree
program_4 = program goal.Module lang.Js (codes "export { a }; export default b;") 0 31 (node role.Body kind.ExportNamedDeclaration 9 10 [] 0 1
    (node role.Specifiers kind.ExportSpecifier 9 10 [] 0 2
    (node role.Local kind.IdentifierReference 9 10 (codes "a") 0 3
    nothing
    (node role.Exported kind.IdentifierName 10 10 (codes "a") 0 4
    nothing
    nothing))
    nothing)
    (node role.Body kind.ExportDefaultDeclaration 29 30 [] 0 5
    (node role.Declaration kind.IdentifierReference 29 30 (codes "b") 0 6
    nothing
    nothing)
    nothing))

told_4 : diagnostics_of true program_4 ≡ (says None (codes "Export 'a' is not defined") (label_at 9 10 None ∷ []) None None ∷ [])
unfolding encode chars
told_4 = refl

-- namespace N { export = a; export const a = 1; }
abbrev program_5 : Tree
program_5 = program goal.Script lang.Ts (codes "namespace N { export = a; export const a = 1; }") 0 47 (node role.Body kind.TSNamespaceDeclaration 10 44 [] 0 1
    (node role.Id kind.BindingIdentifier 10 11 (codes "N") 0 2
    nothing
    (node role.Body kind.TSModuleBlock 14 44 [] 0 3
    (node role.Body kind.TSExportAssignment 14 25 [] 0 4
    (node role.Expression kind.IdentifierReference 23 24 (codes "a") 0 5
    nothing
    nothing)
    (node role.Body kind.ExportDeclaration 39 44 [] 0 6
    (node role.Declaration kind.VariableDeclaration 39 44 (codes "const") 0 7
    (node role.Declarators kind.VariableDeclarator 39 44 [] 0 8
    (node role.Id kind.BindingIdentifier 39 40 (codes "a") 0 9
    nothing
    (node role.Init kind.NumericLiteral 43 44 (codes "1") 134217728 10
    nothing
    nothing))
    nothing)
    nothing)
    nothing))
    nothing))
    nothing)

told_5 : diagnostics_of true program_5 ≡ (says (Some (codes "TS(2309)")) (codes "An export assignment cannot be used in a module with other exported elements") (label_at 14 25 None ∷ []) (Some (codes "If you want to use `export =`, remove other `export`s and put all of them to the right hand value of `export =`. If you want to use `export`s, remove `export =` statement.")) None ∷ [])
unfolding encode chars
told_5 = refl
