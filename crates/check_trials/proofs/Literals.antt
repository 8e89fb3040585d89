-- Trials of rows on literals and directives.
use lib.Utf8.{encode}
use Rattle.std.specs.Str.{chars}
use Rattle.std.proofs.Common.{◌≡◌, [], ◌∷◌, refl, codes, Some, None, true}
use Rattle.semantic_syntax.specs.declared.source_type.Goal.TheVariants as goal
use Rattle.semantic_syntax.specs.declared.source_type.Lang.TheVariants as lang
use Rattle.semantic_kinds.specs.declared.kind.AstType.TheVariants as kind
use Rattle.semantic_kinds.specs.declared.role.Role.TheVariants as role
use Rattle.semantic_tree.specs.Forest.{nothing}
use Rattle.semantic_tree.specs.Tree.{Tree}
use Rattle.check_model.specs.DiagnosticsOf.{diagnostics_of}
use Rattle.check_trials.specs.Write.{node, program, label_at, says}

-- "use strict"; a = 010; a = 09; a = 0.5; a = 09.5;
abbrev program_1 : Tree
program_1 = program goal.Script lang.Js (codes "\"use strict\"; a = 010; a = 09; a = 0.5; a = 09.5;") 0 49 (node role.Directives kind.Directive 0 12 (codes "use strict") 0 1
    (node role.Expression kind.StringLiteral 0 12 (codes "use strict") 0 2
    nothing
    nothing)
    (node role.Body kind.ExpressionStatement 14 21 [] 0 3
    (node role.Expression kind.AssignmentExpression 14 21 (codes "=") 0 4
    (node role.Left kind.IdentifierReference 14 15 (codes "a") 0 5
    nothing
    (node role.Right kind.NumericLiteral 18 21 (codes "010") 67108864 6
    nothing
    nothing))
    nothing)
    (node role.Body kind.ExpressionStatement 23 29 [] 0 7
    (node role.Expression kind.AssignmentExpression 23 29 (codes "=") 0 8
    (node role.Left kind.IdentifierReference 23 24 (codes "a") 0 9
    nothing
    (node role.Right kind.NumericLiteral 27 29 (codes "09") 134217728 10
    nothing
    nothing))
    nothing)
    (node role.Body kind.ExpressionStatement 31 38 [] 0 11
    (node role.Expression kind.AssignmentExpression 31 38 (codes "=") 0 12
    (node role.Left kind.IdentifierReference 31 32 (codes "a") 0 13
    nothing
    (node role.Right kind.NumericLiteral 35 38 (codes "0.5") 536870912 14
    nothing
    nothing))
    nothing)
    (node role.Body kind.ExpressionStatement 40 48 [] 0 15
    (node role.Expression kind.AssignmentExpression 40 48 (codes "=") 0 16
    (node role.Left kind.IdentifierReference 40 41 (codes "a") 0 17
    nothing
    (node role.Right kind.NumericLiteral 44 48 (codes "09.5") 536870912 18
    nothing
    nothing))
    nothing)
    nothing)))))

told_1 : diagnostics_of true program_1 ≡ (says None (codes "'0'-prefixed octal literals and octal escape sequences are deprecated") (label_at 18 21 None ∷ []) (Some (codes "for octal literals use the '0o' prefix instead")) None ∷ says None (codes "Decimals with leading zeros are not allowed in strict mode") (label_at 27 29 None ∷ []) (Some (codes "remove the leading zero")) None ∷ says None (codes "Decimals with leading zeros are not allowed in strict mode") (label_at 44 48 None ∷ []) (Some (codes "remove the leading zero")) None ∷ [])
unfolding encode chars
told_1 = refl

-- "use strict"; a = "\8"
abbrev program_2 : Tree
program_2 = program goal.Script lang.Js (codes "\"use strict\"; a = \"\\8\"") 0 22 (node role.Directives kind.Directive 0 12 (codes "use strict") 0 1
    (node role.Expression kind.StringLiteral 0 12 (codes "use strict") 0 2
    nothing
    nothing)
    (node role.Body kind.ExpressionStatement 14 22 [] 0 3
    (node role.Expression kind.AssignmentExpression 14 22 (codes "=") 0 4
    (node role.Left kind.IdentifierReference 14 15 (codes "a") 0 5
    nothing
    (node role.Right kind.StringLiteral 18 22 (codes "8") 0 6
    nothing
    nothing))
    nothing)
    nothing))

told_2 : diagnostics_of true program_2 ≡ (says None (codes "Invalid escape sequence") (label_at 18 22 None ∷ []) (Some (codes "\\8 and \\9 are not allowed in strict mode")) None ∷ [])
unfolding encode chars
told_2 = refl

-- "use strict"; a = "\\1"
abbrev program_3 : Tree
program_3 = program goal.Script lang.Js (codes "\"use strict\"; a = \"\\\\1\"") 0 23 (node role.Directives kind.Directive 0 12 (codes "use strict") 0 1
    (node role.Expression kind.StringLiteral 0 12 (codes "use strict") 0 2
    nothing
    nothing)
    (node role.Body kind.ExpressionStatement 14 23 [] 0 3
    (node role.Expression kind.AssignmentExpression 14 23 (codes "=") 0 4
    (node role.Left kind.IdentifierReference 14 15 (codes "a") 0 5
    nothing
    (node role.Right kind.StringLiteral 18 23 (codes "\\1") 0 6
    nothing
    nothing))
    nothing)
    nothing))

told_3 : diagnostics_of true program_3 ≡ []
unfolding encode chars
told_3 = refl

-- "use strict"; a = "\01"
abbrev program_4 : Tree
program_4 = program goal.Script lang.Js (codes "\"use strict\"; a = \"\\01\"") 0 23 (node role.Directives kind.Directive 0 12 (codes "use strict") 0 1
    (node role.Expression kind.StringLiteral 0 12 (codes "use strict") 0 2
    nothing
    nothing)
    (node role.Body kind.ExpressionStatement 14 23 [] 0 3
    (node role.Expression kind.AssignmentExpression 14 23 (codes "=") 0 4
    (node role.Left kind.IdentifierReference 14 15 (codes "a") 0 5
    nothing
    (node role.Right kind.StringLiteral 18 23 (1 ∷ []) 0 6
    nothing
    nothing))
    nothing)
    nothing))

told_4 : diagnostics_of true program_4 ≡ (says None (codes "'0'-prefixed octal literals and octal escape sequences are deprecated") (label_at 18 23 None ∷ []) (Some (codes "for octal literals use the '0o' prefix instead")) None ∷ [])
unfolding encode chars
told_4 = refl

-- "use strict"; a = "\0"
abbrev program_5 : Tree
program_5 = program goal.Script lang.Js (codes "\"use strict\"; a = \"\\0\"") 0 22 (node role.Directives kind.Directive 0 12 (codes "use strict") 0 1
    (node role.Expression kind.StringLiteral 0 12 (codes "use strict") 0 2
    nothing
    nothing)
    (node role.Body kind.ExpressionStatement 14 22 [] 0 3
    (node role.Expression kind.AssignmentExpression 14 22 (codes "=") 0 4
    (node role.Left kind.IdentifierReference 14 15 (codes "a") 0 5
    nothing
    (node role.Right kind.StringLiteral 18 22 (0 ∷ []) 0 6
    nothing
    nothing))
    nothing)
    nothing))

told_5 : diagnostics_of true program_5 ≡ []
unfolding encode chars
told_5 = refl

-- "use strict"; a = "\0a"
abbrev program_6 : Tree
program_6 = program goal.Script lang.Js (codes "\"use strict\"; a = \"\\0a\"") 0 23 (node role.Directives kind.Directive 0 12 (codes "use strict") 0 1
    (node role.Expression kind.StringLiteral 0 12 (codes "use strict") 0 2
    nothing
    nothing)
    (node role.Body kind.ExpressionStatement 14 23 [] 0 3
    (node role.Expression kind.AssignmentExpression 14 23 (codes "=") 0 4
    (node role.Left kind.IdentifierReference 14 15 (codes "a") 0 5
    nothing
    (node role.Right kind.StringLiteral 18 23 (0 ∷ 97 ∷ []) 0 6
    nothing
    nothing))
    nothing)
    nothing))

told_6 : diagnostics_of true program_6 ≡ []
unfolding encode chars
told_6 = refl

-- "use strict"; a = "\x8"
abbrev program_7 : Tree
program_7 = program goal.Script lang.Js (codes "\"use strict\"; a = \"\\x8\"") 0 23 (node role.Directives kind.Directive 0 12 (codes "use strict") 0 1
    (node role.Expression kind.StringLiteral 0 12 (codes "use strict") 0 2
    nothing
    nothing)
    (node role.Body kind.ExpressionStatement 14 23 [] 0 3
    (node role.Expression kind.AssignmentExpression 14 23 (codes "=") 0 4
    (node role.Left kind.IdentifierReference 14 15 (codes "a") 0 5
    nothing
    (node role.Right kind.StringLiteral 18 23 (codes "x") 0 6
    nothing
    nothing))
    nothing)
    nothing))

told_7 : diagnostics_of true program_7 ≡ []
unfolding encode chars
told_7 = refl

-- function f(a = 1) { 'use strict' }
abbrev program_8 : Tree
program_8 = program goal.Script lang.Js (codes "function f(a = 1) { 'use strict' }") 0 34 (node role.Body kind.Function 9 32 (codes "declaration") 0 1
    (node role.Id kind.BindingIdentifier 9 10 (codes "f") 0 2
    nothing
    (node role.Params kind.FormalParameters 11 16 (codes "formal") 0 3
    (node role.Items kind.FormalParameter 11 16 [] 0 4
    (node role.Pattern kind.BindingIdentifier 11 12 (codes "a") 0 5
    nothing
    (node role.Initializer kind.NumericLiteral 15 16 (codes "1") 134217728 6
    nothing
    nothing))
    nothing)
    (node role.Body kind.FunctionBody 20 32 [] 0 7
    (node role.Directives kind.Directive 20 32 (codes "use strict") 0 8
    (node role.Expression kind.StringLiteral 20 32 (codes "use strict") 0 9
    nothing
    nothing)
    nothing)
    nothing)))
    nothing)

told_8 : diagnostics_of true program_8 ≡ (says None (codes "Illegal 'use strict' directive in function with non-simple parameter list") (label_at 20 32 None ∷ []) (Some (codes "Wrap this function with an IIFE with a 'use strict' directive that returns this function")) None ∷ [])
unfolding encode chars
told_8 = refl

-- "use strict"; x = "aaaaaaaaaaaaaaa\08"
abbrev program_9 : Tree
program_9 = program goal.Script lang.Js (codes "\"use strict\"; x = \"aaaaaaaaaaaaaaa\\08\"") 0 38 (node role.Directives kind.Directive 0 12 (codes "use strict") 0 1
    (node role.Expression kind.StringLiteral 0 12 (codes "use strict") 0 2
    nothing
    nothing)
    (node role.Body kind.ExpressionStatement 14 38 [] 0 3
    (node role.Expression kind.AssignmentExpression 14 38 (codes "=") 0 4
    (node role.Left kind.IdentifierReference 14 15 (codes "x") 0 5
    nothing
    (node role.Right kind.StringLiteral 18 38 (97 ∷ 97 ∷ 97 ∷ 97 ∷ 97 ∷ 97 ∷ 97 ∷ 97 ∷ 97 ∷ 97 ∷ 97 ∷ 97 ∷ 97 ∷ 97 ∷ 97 ∷ 0 ∷ 56 ∷ []) 0 6
    nothing
    nothing))
    nothing)
    nothing))

told_9 : diagnostics_of true program_9 ≡ (says None (codes "'0'-prefixed octal literals and octal escape sequences are deprecated") (label_at 18 38 None ∷ []) (Some (codes "for octal literals use the '0o' prefix instead")) None ∷ [])
unfolding encode chars
told_9 = refl
