-- Trees of small programs.
use Rattle.std.specs.Prelude.{List, [], ◌∷◌, codes}
use Rattle.semantic_kinds.specs.MarkSets.{no_marks, set_of}
use Rattle.semantic_kinds.specs.declared.kind.AstType.{AstType}
use Rattle.semantic_kinds.specs.declared.kind.AstType.TheVariants as kind
use Rattle.semantic_kinds.specs.declared.mark.Mark.TheVariants as mark
use Rattle.semantic_kinds.specs.declared.marks.Marks.{Marks}
use Rattle.semantic_kinds.specs.declared.role.Role.{Role}
use Rattle.semantic_kinds.specs.declared.role.Role.TheVariants as role
use Rattle.semantic_syntax.specs.Tables.{Name}
use Rattle.semantic_syntax.specs.declared.source_type.Goal.TheVariants as goal
use Rattle.semantic_syntax.specs.declared.source_type.Lang.TheVariants as lang
use Rattle.semantic_tree.specs.Forest.{Forest, nothing, tree, join}
use Rattle.semantic_tree.specs.Tree.{Tree, numbered_tree}

-- a node without place in a source; ids are given in the end
abbrev marked : Marks → Role → AstType → Name → Forest → Forest
marked marks r k text below = tree r k (record { start = 0; end = 0 }) text marks below 0 nothing

abbrev node : Role → AstType → Name → Forest → Forest
node = marked no_marks

-- nodes side by side
abbrev all : List Forest → Forest
all [] = nothing
all (f ∷ fs) = join f (all fs)

abbrev program : List Forest → Tree
program body = numbered_tree (record {
  source = [];
  source_type = record { goal = goal.Module; lang = lang.Ts };
  comments = [];
  root = record { kind = kind.Program; span = record { start = 0; end = 0 }; text = []; marks = no_marks; children = all body; node_id = 0 };
})

-- `let` with one name, in a role
abbrev let_in : Role → Name → Forest
let_in r name = node r kind.VariableDeclaration (codes "let") (node role.Declarators kind.VariableDeclarator [] (node role.Id kind.BindingIdentifier name nothing))

abbrev statement : Forest → Forest
statement expression = node role.Body kind.ExpressionStatement [] expression

abbrev name_in : Role → Name → Forest
name_in r name = node r kind.IdentifierReference name nothing

-- `let a; { let b; a; }`
abbrev pub shadowed : Name → Tree
shadowed inner =
    program (let_in role.Body (codes "a") ∷ node role.Body kind.BlockStatement [] (all (let_in role.Body inner ∷ statement (name_in role.Expression (codes "a")) ∷ [])) ∷ [])

-- `let a; ({ a });`, with a name for the value and marks for the property
abbrev pub in_object : Name → Marks → Tree
in_object name marks =
    program (let_in role.Body name ∷ statement (node role.Expression kind.ObjectExpression []
    (marked marks role.Properties kind.ObjectProperty (codes "init") (all (node role.Key kind.IdentifierName (codes "a") nothing ∷ name_in role.Value name ∷ [])))) ∷ [])

abbrev pub shorthand : Marks
shorthand = set_of (mark.Shorthand ∷ [])

-- `export let a;`
abbrev pub exported : Tree
exported = program (node role.Body kind.ExportDeclaration [] (let_in role.Declaration (codes "a")) ∷ [])

-- `let a; ({ a } = 0);`
abbrev pub in_target : Tree
in_target =
    program (let_in role.Body (codes "a") ∷ statement (node role.Expression kind.AssignmentExpression (codes "=") (all (
    node role.Left kind.ObjectAssignmentTarget [] (node role.Properties kind.AssignmentTargetPropertyIdentifier [] (name_in role.Binding (codes "a"))) ∷
    marked (set_of (mark.Decimal ∷ [])) role.Right kind.NumericLiteral (codes "0") nothing ∷ []))) ∷ [])

-- `enum E { A }`
abbrev pub member : Tree
member =
    program (node role.Body kind.TSEnumDeclaration [] (all (
    node role.Id kind.BindingIdentifier (codes "E") nothing ∷
    node role.Body kind.TSEnumBody [] (node role.Members kind.TSEnumMember [] (node role.Id kind.IdentifierName (codes "A") nothing)) ∷ [])) ∷ [])
