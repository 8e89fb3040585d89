-- The script that is made to measure the analysis: so many functions, each with a parameter that has an initializer, a variable and an assignment.
use Rattle.std.specs.Prelude.{ℕ, zero, suc, ◌+◌, List, [], ◌∷◌, ◌++◌, codes, length, decimal}
use Rattle.semantic_syntax.specs.declared.source_type.Goal.TheVariants as goal
use Rattle.semantic_syntax.specs.declared.source_type.Lang.TheVariants as lang
use Rattle.semantic_kinds.specs.MarkSets.{no_marks}
use Rattle.semantic_kinds.specs.declared.kind.AstType.{AstType}
use Rattle.semantic_kinds.specs.declared.kind.AstType.TheVariants as kind
use Rattle.semantic_kinds.specs.declared.role.Role.TheVariants as role
use Rattle.semantic_tree.specs.Children.{forest_of, single}
use Rattle.semantic_tree.specs.Forest.{Forest, nothing, join}
use Rattle.semantic_tree.specs.Tree.{Tree, numbered_tree}
use Rattle.semantic_tree.specs.declared.node.Node.{Node}

-- `f` and the number, in decimal
abbrev pub function_name : ℕ → List ℕ
function_name i = codes "f" ++ decimal i

-- the line of a function of the name
abbrev pub function_line : List ℕ → List ℕ
function_line name = codes "function " ++ (name ++ codes "(a = x) { var x; x = a; }\n")

-- the lines of the first functions
abbrev pub lines : ℕ → List ℕ
lines zero = []
lines (suc i) = lines i ++ function_line (function_name i)

-- a node without marks, which has no number yet
abbrev pub plain_node : AstType → ℕ → ℕ → List ℕ → Forest → Node
plain_node k start end text children = record { kind = k; span = record { start = start; end = end }; text = text; marks = no_marks; children = children; node_id = 0 }

-- a node without children
abbrev pub leaf : AstType → ℕ → ℕ → List ℕ → Node
leaf k start end text = plain_node k start end text nothing

-- the parameter `a = x`
abbrev pub parameter : ℕ → Node
parameter at =
    plain_node kind.FormalParameter at (at + 5) []
    (forest_of ((role.Pattern, leaf kind.BindingIdentifier at (at + 1) (codes "a")) ∷ (role.Initializer, leaf kind.IdentifierReference (at + 4) (at + 5) (codes "x")) ∷ []))

-- the parameters `(a = x)`
abbrev pub parameters : ℕ → Node
parameters at = plain_node kind.FormalParameters at (at + 7) (codes "formal") (single role.Items (parameter (at + 1)))

-- the declaration `var x;`
abbrev pub variable : ℕ → Node
variable at =
    plain_node kind.VariableDeclaration at (at + 6) (codes "var")
    (single role.Declarators (plain_node kind.VariableDeclarator (at + 4) (at + 5) [] (single role.Id (leaf kind.BindingIdentifier (at + 4) (at + 5) (codes "x")))))

-- the expression `x = a`
abbrev pub expression : ℕ → Node
expression at =
    plain_node kind.AssignmentExpression at (at + 5) (codes "=")
    (forest_of ((role.Left, leaf kind.IdentifierReference at (at + 1) (codes "x")) ∷ (role.Right, leaf kind.IdentifierReference (at + 4) (at + 5) (codes "a")) ∷ []))

-- the statement `x = a;`
abbrev pub assignment : ℕ → Node
assignment at = plain_node kind.ExpressionStatement at (at + 6) [] (single role.Expression (expression at))

-- the body `{ var x; x = a; }`
abbrev pub body : ℕ → Node
body at = plain_node kind.FunctionBody at (at + 17) [] (forest_of ((role.Body, variable (at + 2)) ∷ (role.Body, assignment (at + 9)) ∷ []))

-- a function of the name, which begins there
abbrev pub function : ℕ → List ℕ → Node
function at name =
    plain_node kind.Function at (at + 9 + length name + 25) (codes "declaration")
    (forest_of ((role.Id, leaf kind.BindingIdentifier (at + 9) (at + 9 + length name) name)
    ∷ (role.Params, parameters (at + 9 + length name))
    ∷ (role.Body, body (at + 9 + length name + 8))
    ∷ []))

-- the first functions, each in its line
abbrev pub functions : ℕ → Forest
functions zero = nothing
functions (suc i) = join (functions i) (single role.Body (function (length (lines i)) (function_name i)))

-- a script of JavaScript without comments
abbrev pub script : List ℕ → Node → Tree
script source root = numbered_tree (record { source = source; source_type = record { goal = goal.Script; lang = lang.Js }; comments = []; root = root })

-- the program of so many functions
abbrev pub generated : ℕ → Tree
generated n = script (lines n) (plain_node kind.Program 0 (length (lines n)) [] (functions n))

-- how many functions a program may have
abbrev pub most_functions : ℕ
most_functions = 100000
