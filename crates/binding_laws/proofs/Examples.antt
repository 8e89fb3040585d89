-- What references see in small programs, by computation.
use Rattle.std.proofs.Common.{◌≡◌, ℕ, List, [], ◌∷◌, Option, Some, None, codes, map, refl}
use Rattle.semantic_kinds.specs.MarkSets.{no_marks}
use Rattle.semantic_kinds.specs.declared.kind.AstType.{AstType}
use Rattle.semantic_kinds.specs.declared.kind.AstType.TheVariants as kind
use Rattle.semantic_kinds.specs.declared.role.Role.{Role}
use Rattle.semantic_kinds.specs.declared.role.Role.TheVariants as role
use Rattle.semantic_syntax.specs.declared.source_type.Goal.TheVariants as goal
use Rattle.semantic_syntax.specs.declared.source_type.Lang.TheVariants as lang
use Rattle.semantic_tree.specs.Forest.{Forest, nothing, tree, join}
use Rattle.semantic_tree.specs.Tree.{Tree, numbered_tree}
use Rattle.semantic_model.specs.Reference.{references}
use Rattle.semantic_model.specs.Step.{steps}
use Rattle.semantic_model.specs.TablesOf.{tables_of, made_of}
use Rattle.semantic_model.proofs.examples.SmallPrograms.{default_sees_outside, nested_headers, catch_pattern_with_arrow, arguments_outside, parameter_decorator}
use Rattle.binding_laws.specs.SeenDeclarations.{first_seen}

abbrev seen : Tree → List (Option ℕ)
seen p = map (first_seen p) (references (steps p))

abbrev ties : Tree → List (Option ℕ)
ties p = map (λ r. r.symbol_id) (tables_of p).references

abbrev symbols : Tree → List ℕ
symbols p = map (λ m. m.symbol) (made_of p)

abbrev all : List Forest → Forest
all [] = nothing
all (f ∷ fs) = join f (all fs)

abbrev node : Role → AstType → List ℕ → List Forest → Forest
node r k text below = tree r k (record { start = 0; end = 0 }) text no_marks (all below) 0 nothing

abbrev script : List Forest → Tree
script body = numbered_tree (record {
  source = [];
  source_type = record { goal = goal.Script; lang = lang.Js };
  comments = [];
  root = record { kind = kind.Program; span = record { start = 0; end = 0 }; text = []; marks = no_marks; children = all body; node_id = 0 };
})

abbrev name : Role → List ℕ → Forest
name r x = node r kind.BindingIdentifier x []

abbrev declares : List ℕ → List ℕ → Forest
declares how x = node role.Body kind.VariableDeclaration how (node role.Declarators kind.VariableDeclarator [] (name role.Id x ∷ []) ∷ [])

abbrev block : List Forest → Forest
block body = node role.Body kind.BlockStatement [] body

abbrev with_default : List ℕ → List ℕ → Forest
with_default x y = node role.Items kind.FormalParameter [] (name role.Pattern x ∷ node role.Initializer kind.IdentifierReference y [] ∷ [])

abbrev parameter : List ℕ → Forest
parameter x = node role.Items kind.FormalParameter [] (name role.Pattern x ∷ [])

-- `(function f(f, g = f) { var f; })`
abbrev own_name_hidden : Tree
own_name_hidden =
    script
    (node role.Body kind.ExpressionStatement []
    (node role.Expression kind.ParenthesizedExpression []
    (node role.Expression kind.Function (codes "expression")
    (name role.Id (codes "f")
    ∷ node role.Params kind.FormalParameters (codes "formal") (parameter (codes "f") ∷ with_default (codes "g") (codes "f") ∷ [])
    ∷ node role.Body kind.FunctionBody [] (declares (codes "var") (codes "f") ∷ [])
    ∷ []) ∷ []) ∷ []) ∷ [])

-- `(function f(g = f) { let f; })`
abbrev own_name_seen : Tree
own_name_seen =
    script
    (node role.Body kind.ExpressionStatement []
    (node role.Expression kind.ParenthesizedExpression []
    (node role.Expression kind.Function (codes "expression")
    (name role.Id (codes "f")
    ∷ node role.Params kind.FormalParameters (codes "formal") (with_default (codes "g") (codes "f") ∷ [])
    ∷ node role.Body kind.FunctionBody [] (declares (codes "let") (codes "f") ∷ [])
    ∷ []) ∷ []) ∷ []) ∷ [])

-- `(function arguments(g = arguments) { var arguments; })`
abbrev arguments_in_header : Tree
arguments_in_header =
    script
    (node role.Body kind.ExpressionStatement []
    (node role.Expression kind.ParenthesizedExpression []
    (node role.Expression kind.Function (codes "expression")
    (name role.Id (codes "arguments")
    ∷ node role.Params kind.FormalParameters (codes "formal") (with_default (codes "g") (codes "arguments") ∷ [])
    ∷ node role.Body kind.FunctionBody [] (declares (codes "var") (codes "arguments") ∷ [])
    ∷ []) ∷ []) ∷ []) ∷ [])

-- `try {} catch ([a = x]) { var x; let a; }`
abbrev catch_past_body : Tree
catch_past_body =
    script
    (node role.Body kind.TryStatement []
    (node role.Block kind.BlockStatement [] []
    ∷ node role.Handler kind.CatchClause []
    (node role.Param kind.CatchParameter []
    (node role.Pattern kind.ArrayPattern []
    (node role.Elements kind.AssignmentPattern []
    (name role.Left (codes "a") ∷ node role.Right kind.IdentifierReference (codes "x") [] ∷ []) ∷ []) ∷ [])
    ∷ block (declares (codes "var") (codes "x") ∷ [])
    ∷ []) ∷ []) ∷ [])

-- `{ let x; { var x; } { let x; { var x; } } let x; }`
abbrev taken_twice : Tree
taken_twice =
    script
    (block
    (declares (codes "let") (codes "x")
    ∷ block (declares (codes "var") (codes "x") ∷ [])
    ∷ block (declares (codes "let") (codes "x") ∷ block (declares (codes "var") (codes "x") ∷ []) ∷ [])
    ∷ declares (codes "let") (codes "x")
    ∷ []) ∷ [])

abbrev function : List ℕ → Forest
function x = node role.Body kind.Function (codes "declaration") (name role.Id x ∷ node role.Params kind.FormalParameters (codes "formal") [] ∷ node role.Body kind.FunctionBody [] [] ∷ [])

-- `{ function f() {} function f() {} } var f;`
abbrev block_functions : Tree
block_functions = script (block (function (codes "f") ∷ function (codes "f") ∷ []) ∷ declares (codes "var") (codes "f") ∷ [])

-- what stands in the bodies isn't seen
default_seen : seen default_sees_outside ≡ ties default_sees_outside
default_seen = refl

nested_seen : seen nested_headers ≡ Some 6 ∷ []
nested_seen = refl

catch_pattern_seen : seen catch_pattern_with_arrow ≡ Some 0 ∷ []
catch_pattern_seen = refl

outside_seen : seen arguments_outside ≡ None ∷ []
outside_seen = refl

decorators_seen : seen parameter_decorator ≡ None ∷ None ∷ []
decorators_seen = refl

-- a parameter hides the own name, which is seen where there is none
hidden_seen : seen own_name_hidden ≡ Some 1 ∷ []
hidden_seen = refl

hidden_tied : ties own_name_hidden ≡ Some 1 ∷ []
hidden_tied = refl

own_seen : seen own_name_seen ≡ Some 0 ∷ []
own_seen = refl

own_tied : ties own_name_seen ≡ Some 0 ∷ []
own_tied = refl

-- `arguments` is never the own name
arguments_seen : seen arguments_in_header ≡ None ∷ []
arguments_seen = refl

arguments_tied : ties arguments_in_header ≡ None ∷ []
arguments_tied = refl

-- what goes out of a body is seen outside
past_seen : seen catch_past_body ≡ Some 1 ∷ []
past_seen = refl

past_tied : ties catch_past_body ≡ Some 1 ∷ []
past_tied = refl

-- where a `var` of the name passes a scope, that may have two symbols
taken_symbols : symbols taken_twice ≡ 0 ∷ 0 ∷ 1 ∷ 1 ∷ 1 ∷ []
taken_symbols = refl

-- functions of one block have one symbol, also once it has moved out
function_symbols : symbols block_functions ≡ 0 ∷ 0 ∷ 0 ∷ []
function_symbols = refl
