-- Trees of small programs.
use Rattle.std.specs.Prelude.{List, [], ◌∷◌, codes}
use Rattle.semantic_kinds.specs.MarkSets.{no_marks}
use Rattle.semantic_kinds.specs.declared.kind.AstType.{AstType}
use Rattle.semantic_kinds.specs.declared.kind.AstType.TheVariants as kind
use Rattle.semantic_kinds.specs.declared.role.Role.{Role}
use Rattle.semantic_kinds.specs.declared.role.Role.TheVariants as role
use Rattle.semantic_syntax.specs.Tables.{Name}
use Rattle.semantic_syntax.specs.declared.source_type.Goal.TheVariants as goal
use Rattle.semantic_syntax.specs.declared.source_type.Lang.TheVariants as lang
use Rattle.semantic_tree.specs.Forest.{Forest, nothing, tree, join}
use Rattle.semantic_tree.specs.Tree.{Tree, numbered_tree}

-- a node without place in a source; ids are given in the end
abbrev node : Role → AstType → Name → Forest → Forest
node r k text below = tree r k (record { start = 0; end = 0 }) text no_marks below 0 nothing

-- nodes side by side
abbrev all : List Forest → Forest
all [] = nothing
all (f ∷ fs) = join f (all fs)

abbrev program : List Forest → Tree
program body = numbered_tree (record {
  source = [];
  source_type = record { goal = goal.Module; lang = lang.Ts };
  comments = [];
  root = record { kind = kind.Program; span = record { start = 0; end = 0 }; text = []; marks = no_marks; children = all body; node_id = 0 };
})

abbrev id : Name → Forest
id name = node role.Id kind.BindingIdentifier name nothing

-- `let` or `var` with one name
abbrev variable : Name → Name → Forest
variable word name = node role.Body kind.VariableDeclaration word (node role.Declarators kind.VariableDeclarator [] (id name))

abbrev block : List Forest → Forest
block body = node role.Body kind.BlockStatement [] (all body)

-- `type NAME = any;`
abbrev alias : Name → Forest
alias name = node role.Body kind.TSTypeAliasDeclaration [] (all (id name ∷ node role.ValueType kind.TSAnyKeyword [] nothing ∷ []))

abbrev function : Name → List Forest → List Forest → Forest
function name parameters body = node role.Body kind.Function (codes "declaration") (all (
    id name ∷ node role.Params kind.FormalParameters (codes "formal") (all parameters) ∷ node role.Body kind.FunctionBody [] (all body) ∷ []))

-- `let NAME;`
abbrev pub once : Name → Tree
once name = program (variable (codes "let") name ∷ [])

-- `let NAME; let NAME; let a;`
abbrev pub twice : Name → Tree
twice name = program (variable (codes "let") name ∷ variable (codes "let") name ∷ variable (codes "let") (codes "a") ∷ [])

-- `{ type n = any; { function NAME() {} { var NAME; } } var NAME; } function NAME() {}`
abbrev pub passing : Name → Tree
passing name = program (
    block (
    alias (codes "n")
    ∷ block (function name [] [] ∷ block (variable (codes "var") name ∷ []) ∷ [])
    ∷ variable (codes "var") name ∷ [])
    ∷ function name [] [] ∷ [])

-- `type n = any; function f(NAME) { namespace N { export { NAME as x }; } let N; }`
abbrev pub reaching : Name → Tree
reaching name = program (
    alias (codes "n")
    ∷ function (codes "f")
    (node role.Items kind.FormalParameter [] (node role.Pattern kind.BindingIdentifier name nothing) ∷ [])
    (node role.Body kind.TSNamespaceDeclaration (codes "namespace") (all (
    id (codes "N")
    ∷ node role.Body kind.TSModuleBlock [] (node role.Body kind.ExportNamedDeclaration [] (node role.Specifiers kind.ExportSpecifier [] (all (
    node role.Local kind.IdentifierReference name nothing ∷ node role.Exported kind.IdentifierName (codes "x") nothing ∷ []))))
    ∷ []))
    ∷ variable (codes "let") (codes "N") ∷ [])
    ∷ [])

-- `let x; let x; { let NAME; }`
abbrev pub shadowing : Name → Tree
shadowing name = program (variable (codes "let") (codes "x") ∷ variable (codes "let") (codes "x") ∷ block (variable (codes "let") name ∷ []) ∷ [])
