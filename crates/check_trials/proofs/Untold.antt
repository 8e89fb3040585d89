-- Early errors of ECMAScript that no rule tells, of names that are declared again.
use lib.Utf8.{encode}
use Rattle.std.specs.Str.{chars}
use Rattle.std.proofs.Common.{◌≡◌, [], refl, codes, None, true}
use Rattle.semantic_syntax.specs.declared.source_type.Goal.TheVariants as goal
use Rattle.semantic_syntax.specs.declared.source_type.Lang.TheVariants as lang
use Rattle.semantic_kinds.specs.declared.kind.AstType.TheVariants as kind
use Rattle.semantic_kinds.specs.declared.role.Role.TheVariants as role
use Rattle.semantic_tree.specs.Faults.{first_fault}
use Rattle.semantic_tree.specs.Forest.{nothing}
use Rattle.semantic_tree.specs.Tree.{Tree}
use Rattle.check_model.specs.DiagnosticsOf.{diagnostics_of}
use Rattle.check_trials.specs.Write.{node, program}

-- let e; try {} catch (e) { var e }
abbrev catch_between : Tree
catch_between = program goal.Script lang.Js (codes "let e; try {} catch (e) { var e }") 0 33 (node role.Body kind.VariableDeclaration 0 6 (codes "let") 0 1
    (node role.Declarators kind.VariableDeclarator 4 5 [] 0 2
    (node role.Id kind.BindingIdentifier 4 5 (codes "e") 0 3
    nothing
    nothing)
    nothing)
    (node role.Body kind.TryStatement 7 33 [] 0 4
    (node role.Block kind.BlockStatement 11 13 [] 0 5
    nothing
    (node role.Handler kind.CatchClause 14 33 [] 0 6
    (node role.Param kind.CatchParameter 21 22 [] 0 7
    (node role.Pattern kind.BindingIdentifier 21 22 (codes "e") 0 8
    nothing
    nothing)
    (node role.Body kind.BlockStatement 24 33 [] 0 9
    (node role.Body kind.VariableDeclaration 26 31 (codes "var") 0 10
    (node role.Declarators kind.VariableDeclarator 30 31 [] 0 11
    (node role.Id kind.BindingIdentifier 30 31 (codes "e") 0 12
    nothing
    nothing)
    nothing)
    nothing)
    nothing))
    nothing))
    nothing))

catch_between_faultless : first_fault catch_between ≡ None
unfolding encode chars
catch_between_faultless = refl

-- the `var` meets the catch name first, which lets it pass
catch_between_untold : diagnostics_of true catch_between ≡ []
unfolding encode chars
catch_between_untold = refl

-- { async function f() {} var [f, f] = [] }
abbrev twice_in_pattern : Tree
twice_in_pattern = program goal.Script lang.Js (codes "{ async function f() {} var [f, f] = [] }") 0 41 (node role.Body kind.BlockStatement 0 41 [] 0 1
    (node role.Body kind.Function 2 23 (codes "declaration") 1 2
    (node role.Id kind.BindingIdentifier 17 18 (codes "f") 0 3
    nothing
    (node role.Params kind.FormalParameters 18 20 (codes "formal") 0 4
    nothing
    (node role.Body kind.FunctionBody 21 23 [] 0 5
    nothing
    nothing)))
    (node role.Body kind.VariableDeclaration 24 39 (codes "var") 0 6
    (node role.Declarators kind.VariableDeclarator 28 39 [] 0 7
    (node role.Id kind.ArrayPattern 28 34 [] 0 8
    (node role.Elements kind.BindingIdentifier 29 30 (codes "f") 0 9
    nothing
    (node role.Elements kind.BindingIdentifier 32 33 (codes "f") 0 10
    nothing
    nothing))
    (node role.Init kind.ArrayExpression 37 39 [] 0 11
    nothing
    nothing))
    nothing)
    nothing))
    nothing)

twice_in_pattern_faultless : first_fault twice_in_pattern ≡ None
unfolding encode chars
twice_in_pattern_faultless = refl

-- once the pattern is declared, the declaration before the last is a `var`
twice_in_pattern_untold : diagnostics_of true twice_in_pattern ≡ []
unfolding encode chars
twice_in_pattern_untold = refl
