-- Trees of small programs with a tangled name, and of one that the language refuses.
use Rattle.std.specs.Prelude.{[], ◌∷◌, codes}
use Rattle.semantic_syntax.specs.declared.source_type.Goal.TheVariants as goal
use Rattle.semantic_syntax.specs.declared.source_type.Lang.TheVariants as lang
use Rattle.semantic_kinds.specs.declared.kind.AstType.TheVariants as kind
use Rattle.semantic_kinds.specs.declared.role.Role.TheVariants as role
use Rattle.semantic_tree.specs.Tree.{Tree}
use Rattle.tangle_model.proofs.ProgramTrees.{node, program, binding, block, catch_clause, function, in_parentheses, mention, named_expression, number, parameter, statement, variable, with_block}

-- `(function f() { f; try {} catch (f) { var f } })`
abbrev pub own_name_and_catch : Tree
own_name_and_catch =
    program goal.Script lang.Js
    (statement
    (in_parentheses role.Expression
    (named_expression role.Expression (codes "f") []
    (mention (codes "f")
    ∷ node role.Body kind.TryStatement []
    (block role.Block [] ∷ catch_clause role.Handler (binding role.Pattern (codes "f")) (variable (codes "var") (codes "f") ∷ []) ∷ [])
    ∷ [])))
    ∷ [])

-- `(function f() { f; { function f() {} } })`
abbrev pub own_name_and_block : Tree
own_name_and_block =
    program goal.Script lang.Js
    (statement
    (in_parentheses role.Expression
    (named_expression role.Expression (codes "f") [] (mention (codes "f") ∷ block role.Body (function role.Body (codes "f") [] [] ∷ []) ∷ [])))
    ∷ [])

-- `try {} catch (a) { { function a() {} a } }`
abbrev pub catch_and_block : Tree
catch_and_block =
    program goal.Script lang.Js
    (node role.Body kind.TryStatement []
    (block role.Block []
    ∷ catch_clause role.Handler (binding role.Pattern (codes "a"))
    (block role.Body (function role.Body (codes "a") [] [] ∷ mention (codes "a") ∷ []) ∷ [])
    ∷ [])
    ∷ [])

-- `let b; { if (1) function b() {} b }`
abbrev pub let_and_if : Tree
let_and_if =
    program goal.Script lang.Js
    (variable (codes "let") (codes "b")
    ∷ block role.Body
    (node role.Body kind.IfStatement [] (number role.Test (codes "1") ∷ function role.Consequent (codes "b") [] [] ∷ []) ∷ mention (codes "b") ∷ [])
    ∷ [])

-- `function f(a) { { if (1) function a() {} a } a }`
abbrev pub if_and_parameter : Tree
if_and_parameter =
    program goal.Script lang.Js
    (function role.Body (codes "f") (parameter (codes "a") ∷ [])
    (block role.Body
    (node role.Body kind.IfStatement [] (number role.Test (codes "1") ∷ function role.Consequent (codes "a") [] [] ∷ []) ∷ mention (codes "a") ∷ [])
    ∷ mention (codes "a")
    ∷ [])
    ∷ [])

-- `try {} catch (e) { var e; e } e`
abbrev pub catch_and_var : Tree
catch_and_var =
    program goal.Script lang.Js
    (node role.Body kind.TryStatement []
    (block role.Block []
    ∷ catch_clause role.Handler (binding role.Pattern (codes "e")) (variable (codes "var") (codes "e") ∷ mention (codes "e") ∷ [])
    ∷ [])
    ∷ mention (codes "e")
    ∷ [])

-- `var a; with (a) { a }`
abbrev pub in_with : Tree
in_with = program goal.Script lang.Js (variable (codes "var") (codes "a") ∷ with_block (codes "a") (mention (codes "a") ∷ []) ∷ [])

-- `var a; { function a() {} a } a`
abbrev pub block_and_var : Tree
block_and_var =
    program goal.Script lang.Js
    (variable (codes "var") (codes "a")
    ∷ block role.Body (function role.Body (codes "a") [] [] ∷ mention (codes "a") ∷ [])
    ∷ mention (codes "a")
    ∷ [])

-- `{ let a; { var a } } { let a; { var a } } a`
abbrev pub clash : Tree
clash =
    program goal.Script lang.Js
    (block role.Body (variable (codes "let") (codes "a") ∷ block role.Body (variable (codes "var") (codes "a") ∷ []) ∷ [])
    ∷ block role.Body (variable (codes "let") (codes "a") ∷ block role.Body (variable (codes "var") (codes "a") ∷ []) ∷ [])
    ∷ mention (codes "a")
    ∷ [])
