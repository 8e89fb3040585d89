-- Trees of small programs in which something is declared in a `with`.
use Rattle.std.specs.Prelude.{[], ◌∷◌, codes}
use Rattle.semantic_syntax.specs.declared.source_type.Goal.TheVariants as goal
use Rattle.semantic_syntax.specs.declared.source_type.Lang.TheVariants as lang
use Rattle.semantic_kinds.specs.declared.kind.AstType.TheVariants as kind
use Rattle.semantic_kinds.specs.declared.role.Role.TheVariants as role
use Rattle.semantic_kinds.specs.declared.mark.Mark.TheVariants as mark
use Rattle.semantic_tree.specs.Tree.{Tree}
use Rattle.tangle_model.proofs.ProgramTrees.{marked, node, program, binding, block, expression, function, function_parts, mention, named_expression, number, parameter, reference, statement, variable, with_block}

-- `var a; with (o) { let a; (function (a) {}) } a`
abbrev pub let_and_parameter : Tree
let_and_parameter =
    program goal.Script lang.Js
    (variable (codes "var") (codes "a")
    ∷ with_block (codes "o") (variable (codes "let") (codes "a") ∷ statement (expression role.Expression (parameter (codes "a") ∷ []) []) ∷ [])
    ∷ mention (codes "a")
    ∷ [])

-- `with (o) { class a {} } a`
abbrev pub class_within : Tree
class_within =
    program goal.Script lang.Js
    (with_block (codes "o")
    (node role.Body kind.Class (codes "declaration") (binding role.Id (codes "a") ∷ node role.Body kind.ClassBody [] [] ∷ []) ∷ [])
    ∷ mention (codes "a")
    ∷ [])

-- `var f; with (o) { async function f() {} } f`
abbrev pub function_within : Tree
function_within =
    program goal.Script lang.Js
    (variable (codes "var") (codes "f")
    ∷ with_block (codes "o") (marked (mark.Async ∷ []) role.Body kind.Function (codes "declaration") (function_parts (codes "f") [] []) ∷ [])
    ∷ mention (codes "f")
    ∷ [])

-- `with (o) var a; a`
abbrev pub variable_within : Tree
variable_within =
    program goal.Script lang.Js
    (node role.Body kind.WithStatement [] (reference role.Object (codes "o") ∷ variable (codes "var") (codes "a") ∷ []) ∷ mention (codes "a") ∷ [])

-- `with (function f() { f }) {}`
abbrev pub function_as_object : Tree
function_as_object =
    program goal.Script lang.Js
    (node role.Body kind.WithStatement [] (named_expression role.Object (codes "f") [] (mention (codes "f") ∷ []) ∷ block role.Body [] ∷ []) ∷ [])

-- `with (o) { function f() {} } f`
abbrev pub function_leaves : Tree
function_leaves = program goal.Script lang.Js (with_block (codes "o") (function role.Body (codes "f") [] [] ∷ []) ∷ mention (codes "f") ∷ [])

-- `with (o) if (1) function f() {} f`
abbrev pub if_leaves : Tree
if_leaves =
    program goal.Script lang.Js
    (node role.Body kind.WithStatement []
    (reference role.Object (codes "o")
    ∷ node role.Body kind.IfStatement [] (number role.Test (codes "1") ∷ function role.Consequent (codes "f") [] [] ∷ [])
    ∷ [])
    ∷ mention (codes "f")
    ∷ [])
