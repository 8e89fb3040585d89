-- Trials of rows on jumps and labels.
use lib.Utf8.{encode}
use Rattle.std.specs.Str.{chars}
use Rattle.std.proofs.Common.{◌≡◌, [], ◌∷◌, refl, codes, Some, None, true}
use Rattle.semantic_syntax.specs.declared.source_type.Goal.TheVariants as goal
use Rattle.semantic_syntax.specs.declared.source_type.Lang.TheVariants as lang
use Rattle.semantic_kinds.specs.declared.kind.AstType.TheVariants as kind
use Rattle.semantic_kinds.specs.declared.role.Role.TheVariants as role
use Rattle.semantic_tree.specs.Forest.{nothing}
use Rattle.semantic_tree.specs.Tree.{Tree}
use Rattle.check_model.specs.DiagnosticsOf.{diagnostics_of}
use Rattle.check_trials.specs.Write.{node, program, label_at, says}

-- a: a: ;
abbrev program_1 : Tree
program_1 = program goal.Script lang.Js (codes "a: a: ;") 0 7 (node role.Body kind.LabeledStatement 0 4 [] 0 1
    (node role.Label kind.LabelIdentifier 0 1 (codes "a") 0 2
    nothing
    (node role.Body kind.LabeledStatement 3 4 [] 0 3
    (node role.Label kind.LabelIdentifier 3 4 (codes "a") 0 4
    nothing
    (node role.Body kind.EmptyStatement 4 4 [] 0 5
    nothing
    nothing))
    nothing))
    nothing)

told_1 : diagnostics_of true program_1 ≡ (says None (codes "Label `a` has already been declared") (label_at 0 1 (Some (codes "`a` has already been declared here")) ∷ label_at 3 4 (Some (codes "It can not be redeclared here")) ∷ []) None None ∷ [])
unfolding encode chars
told_1 = refl

-- a: { continue a }
abbrev program_2 : Tree
program_2 = program goal.Script lang.Js (codes "a: { continue a }") 0 17 (node role.Body kind.LabeledStatement 0 15 [] 0 1
    (node role.Label kind.LabelIdentifier 0 1 (codes "a") 0 2
    nothing
    (node role.Body kind.BlockStatement 14 15 [] 0 3
    (node role.Body kind.ContinueStatement 14 15 [] 0 4
    (node role.Label kind.LabelIdentifier 14 15 (codes "a") 0 5
    nothing
    nothing)
    nothing)
    nothing))
    nothing)

told_2 : diagnostics_of true program_2 ≡ (says None (codes "A `continue` statement can only jump to a label of an enclosing `for`, `while` or `do while` statement.") (label_at 0 1 (Some (codes "This is an non-iteration statement")) ∷ label_at 14 15 (Some (codes "for this label")) ∷ []) None None ∷ [])
unfolding encode chars
told_2 = refl

-- a: b: for (;;) { continue a }
abbrev program_3 : Tree
program_3 = program goal.Script lang.Js (codes "a: b: for (;;) { continue a }") 0 29 (node role.Body kind.LabeledStatement 0 27 [] 0 1
    (node role.Label kind.LabelIdentifier 0 1 (codes "a") 0 2
    nothing
    (node role.Body kind.LabeledStatement 3 27 [] 0 3
    (node role.Label kind.LabelIdentifier 3 4 (codes "b") 0 4
    nothing
    (node role.Body kind.ForStatement 26 27 [] 0 5
    (node role.Body kind.BlockStatement 26 27 [] 0 6
    (node role.Body kind.ContinueStatement 26 27 [] 0 7
    (node role.Label kind.LabelIdentifier 26 27 (codes "a") 0 8
    nothing
    nothing)
    nothing)
    nothing)
    nothing))
    nothing))
    nothing)

told_3 : diagnostics_of true program_3 ≡ []
unfolding encode chars
told_3 = refl

-- break; continue; break a; switch (a) { case a: break; }
abbrev program_4 : Tree
program_4 = program goal.Script lang.Js (codes "break; continue; break a; switch (a) { case a: break; }") 0 55 (node role.Body kind.BreakStatement 0 6 [] 0 1
    nothing
    (node role.Body kind.ContinueStatement 7 16 [] 0 2
    nothing
    (node role.Body kind.BreakStatement 23 24 [] 0 3
    (node role.Label kind.LabelIdentifier 23 24 (codes "a") 0 4
    nothing
    nothing)
    (node role.Body kind.SwitchStatement 34 45 [] 0 5
    (node role.Discriminant kind.IdentifierReference 34 35 (codes "a") 0 6
    nothing
    (node role.Cases kind.SwitchCase 44 45 [] 0 7
    (node role.Test kind.IdentifierReference 44 45 (codes "a") 0 8
    nothing
    (node role.Consequent kind.BreakStatement 45 45 [] 0 9
    nothing
    nothing))
    nothing))
    nothing))))

told_4 : diagnostics_of true program_4 ≡ (says None (codes "Illegal break statement") (label_at 0 6 None ∷ []) (Some (codes "A `break` statement can only be used within an enclosing iteration or switch statement.")) None ∷ says None (codes "Illegal continue statement: no surrounding iteration statement") (label_at 7 16 None ∷ []) (Some (codes "A `continue` statement can only be used within an enclosing `for`, `while` or `do while` ")) None ∷ says None (codes "Use of undefined label") (label_at 23 24 None ∷ []) None None ∷ [])
unfolding encode chars
told_4 = refl

-- a: for (;;) { (function () { break a })(); }
abbrev program_5 : Tree
program_5 = program goal.Script lang.Js (codes "a: for (;;) { (function () { break a })(); }") 0 44 (node role.Body kind.LabeledStatement 0 36 [] 0 1
    (node role.Label kind.LabelIdentifier 0 1 (codes "a") 0 2
    nothing
    (node role.Body kind.ForStatement 1 36 [] 0 3
    (node role.Body kind.BlockStatement 1 36 [] 0 4
    (node role.Body kind.ExpressionStatement 1 36 [] 0 5
    (node role.Expression kind.CallExpression 1 36 [] 0 6
    (node role.Callee kind.ParenthesizedExpression 1 36 [] 0 7
    (node role.Expression kind.Function 1 36 (codes "expression") 0 8
    (node role.Params kind.FormalParameters 1 1 (codes "formal") 0 9
    nothing
    (node role.Body kind.FunctionBody 35 36 [] 0 10
    (node role.Body kind.BreakStatement 35 36 [] 0 11
    (node role.Label kind.LabelIdentifier 35 36 (codes "a") 0 12
    nothing
    nothing)
    nothing)
    nothing))
    nothing)
    nothing)
    nothing)
    nothing)
    nothing)
    nothing))
    nothing)

told_5 : diagnostics_of true program_5 ≡ (says None (codes "Jump target cannot cross function boundary.") (label_at 35 36 None ∷ []) None None ∷ [])
unfolding encode chars
told_5 = refl
