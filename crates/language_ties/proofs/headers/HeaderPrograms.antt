-- Trees of small programs with references in headers of functions that bind their names.
use Rattle.std.specs.Prelude.{ℕ, List, [], ◌∷◌, codes}
use Rattle.semantic_syntax.specs.declared.source_type.Goal.TheVariants as goal
use Rattle.semantic_syntax.specs.declared.source_type.Lang.TheVariants as lang
use Rattle.semantic_kinds.specs.declared.kind.AstType.TheVariants as kind
use Rattle.semantic_kinds.specs.declared.mark.Mark.{Mark}
use Rattle.semantic_kinds.specs.declared.mark.Mark.TheVariants as mark
use Rattle.semantic_kinds.specs.declared.role.Role.TheVariants as role
use Rattle.semantic_tree.specs.Forest.{Forest}
use Rattle.semantic_tree.specs.Tree.{Tree}
use Rattle.tangle_model.proofs.ProgramTrees.{marked, node, program, binding, reference, in_parentheses, statement, mention, variable, parameter, defaulted, function_body, function, expression, named_expression}

-- `{ [key]: name }`, marked as computed or not
abbrev keyed : List Mark → List ℕ → List ℕ → Forest
keyed marks key name =
    node role.Items kind.FormalParameter []
    (node role.Pattern kind.ObjectPattern []
    (marked marks role.Properties kind.BindingProperty [] (reference role.Key key ∷ binding role.Value name ∷ [])
    ∷ [])
    ∷ [])

abbrev named : List ℕ → List Forest → List Forest → Forest
named name items inner = statement (in_parentheses role.Expression (named_expression role.Expression name items inner))

abbrev sloppy : List Forest → Tree
sloppy items = program goal.Script lang.Js items

-- `function f(a, b = a) { var a; a }`
abbrev pub parameter_in_header : Tree
parameter_in_header =
    sloppy (function role.Body (codes "f") (parameter (codes "a") ∷ defaulted (codes "b") (reference role.Initializer (codes "a")) ∷ []) (variable (codes "var") (codes "a") ∷ mention (codes "a") ∷ []) ∷ [])

-- `var b; function f(a = b) { var b; b } b`
abbrev pub variable_behind_header : Tree
variable_behind_header =
    sloppy (variable (codes "var") (codes "b") ∷ function role.Body (codes "f") (defaulted (codes "a") (reference role.Initializer (codes "b")) ∷ []) (variable (codes "var") (codes "b") ∷ mention (codes "b") ∷ []) ∷ mention (codes "b") ∷ [])

-- `function f({ [a]: b }) { var a; a; var b; b } `
abbrev pub computed_key : Tree
computed_key =
    sloppy (function role.Body (codes "f") (keyed (mark.Computed ∷ []) (codes "a") (codes "b") ∷ []) (variable (codes "var") (codes "a") ∷ mention (codes "a") ∷ variable (codes "var") (codes "b") ∷ mention (codes "b") ∷ []) ∷ [])

-- `function f(a = function () { a; b }) { var a; let b }`
abbrev pub closure_in_header : Tree
closure_in_header =
    sloppy (function role.Body (codes "f") (defaulted (codes "a") (expression role.Initializer [] (mention (codes "a") ∷ mention (codes "b") ∷ [])) ∷ []) (variable (codes "var") (codes "a") ∷ variable (codes "let") (codes "b") ∷ []) ∷ [])

-- `function f(a = f) { function f() {} f } f`
abbrev pub function_behind_header : Tree
function_behind_header =
    sloppy (function role.Body (codes "f") (defaulted (codes "a") (reference role.Initializer (codes "f")) ∷ []) (function role.Body (codes "f") [] [] ∷ mention (codes "f") ∷ []) ∷ mention (codes "f") ∷ [])

-- `function f(a = a, b = function (c = b) { var b; a }) { var b }`
abbrev pub header_in_header : Tree
header_in_header =
    sloppy (function role.Body (codes "f") (defaulted (codes "a") (reference role.Initializer (codes "a"))
    ∷ defaulted (codes "b") (expression role.Initializer (defaulted (codes "c") (reference role.Initializer (codes "b")) ∷ []) (variable (codes "var") (codes "b") ∷ mention (codes "a") ∷ [])) ∷ [])
    (variable (codes "var") (codes "b") ∷ []) ∷ [])

-- `((a = b, b) => { var b; b; let c; c })`
abbrev pub header_of_arrow : Tree
header_of_arrow =
    sloppy (node role.Body kind.ExpressionStatement []
    (node role.Expression kind.ArrowFunctionExpression []
    (node role.Params kind.FormalParameters (codes "arrow") (defaulted (codes "a") (reference role.Initializer (codes "b")) ∷ parameter (codes "b") ∷ [])
    ∷ function_body (variable (codes "var") (codes "b") ∷ mention (codes "b") ∷ variable (codes "let") (codes "c") ∷ mention (codes "c") ∷ []) ∷ []) ∷ []) ∷ [])

-- `class A { m(a = A, A) { var A; A } } A`
abbrev pub class_and_header : Tree
class_and_header =
    sloppy (node role.Body kind.Class (codes "declaration")
    (binding role.Id (codes "A")
    ∷ node role.Body kind.ClassBody []
    (node role.Body kind.MethodDefinition (codes "method")
    (node role.Key kind.IdentifierName (codes "m") []
    ∷ expression role.Value (defaulted (codes "a") (reference role.Initializer (codes "A")) ∷ parameter (codes "A") ∷ []) (variable (codes "var") (codes "A") ∷ mention (codes "A") ∷ []) ∷ []) ∷ []) ∷ []) ∷ mention (codes "A") ∷ [])

-- `(function f(a = f, f) { f })`
abbrev pub own_name_and_parameter : Tree
own_name_and_parameter =
    sloppy (named (codes "f") (defaulted (codes "a") (reference role.Initializer (codes "f")) ∷ parameter (codes "f") ∷ []) (mention (codes "f") ∷ []) ∷ [])

-- `(function f(a = f) { function f() {} f })`
abbrev pub own_name_and_function : Tree
own_name_and_function =
    sloppy (named (codes "f") (defaulted (codes "a") (reference role.Initializer (codes "f")) ∷ []) (function role.Body (codes "f") [] [] ∷ mention (codes "f") ∷ []) ∷ [])

-- `function f({ [a]: b }) { var a }`, where the key isn't marked as computed
abbrev pub unmarked_key : Tree
unmarked_key = sloppy (function role.Body (codes "f") (keyed [] (codes "a") (codes "b") ∷ []) (variable (codes "var") (codes "a") ∷ []) ∷ [])
