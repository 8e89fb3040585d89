-- The names of lexical variables, classes and functions, and those of catch patterns, with the nodes that open the scopes where they are declared.
use Rattle.std.specs.Prelude.{ℕ, ◌==◌, List, [], ◌∷◌, ◌++◌, Bool, true, false, ◌&&◌, ◌||◌, not, cond, Option, None, Some, map, codes, bytes_eq}
use Rattle.std.specs.List.{list_any}
use Rattle.semantic_kinds.specs.Classes.{holds_kind}
use Rattle.semantic_kinds.specs.declared.kind.AstType.{AstType}
use Rattle.semantic_kinds.specs.declared.kind.AstType.TheVariants as kind
use Rattle.semantic_kinds.specs.declared.role.Role.{Role}
use Rattle.semantic_kinds.specs.declared.role.Role.TheVariants as role
use Rattle.semantic_syntax.specs.declared.source_type.SourceType.{SourceType}
use Rattle.semantic_syntax.specs.SourceTypes.{is_typescript, is_module}
use Rattle.semantic_syntax.specs.Tables.{Name}
use Rattle.semantic_tree.specs.Forest.{Forest, nothing, tree}
use Rattle.semantic_tree.specs.Tree.{Tree}
use Rattle.semantic_tree.specs.declared.node.Node.{Node}
use Rattle.semantic_tree.specs.Views.{is, is_with_text, child_of, holds}
use Rattle.semantic_model.specs.Names.{bound_names}
use Rattle.semantic_model.specs.Inside.{is_inside, is_parameter_decorator}
use Rattle.semantic_model.specs.Binder.{is_statement}
use Rattle.semantic_model.specs.Declaration.{Declaration, scope_it_stands_in}
use Rattle.semantic_model.specs.Event.{counts_past}

-- a name, declared in the scope that a node opens
pub record WrittenName : Type 0 where
  pub opener : ℕ
  pub name : Name

-- whether the name is among them, in the scope that the node opens
abbrev pub is_written : List WrittenName → ℕ → Name → Bool
is_written ws opener name = list_any (λ w. opener == w.opener && bytes_eq w.name name) ws

-- the nodes that open the innermost scope and, where a parameter stands, the scope around it
pub record Openers : Type 0 where
  pub innermost : ℕ
  pub around : ℕ

-- the nodes that open the scopes where a child in the role stands
abbrev pub openers_at : Node → Role → Openers → Openers
openers_at node r o =
    cond (is_inside node.kind r) (record { innermost = node.node_id; around = o.innermost })
    (cond (is_parameter_decorator node.kind r) (record { innermost = o.around; around = o.around }) o)

-- whether the name of a function or class is known in its own scope alone, as that of an expression is
abbrev pub is_known_inside : Node → Bool
is_known_inside node = holds_kind (kind.Function ∷ kind.Class ∷ []) node.kind && not (is_statement node)

-- the node that opens the scope where a node declares its names
abbrev pub opener_of_names : Node → Openers → ℕ
opener_of_names node o = cond (is_known_inside node) node.node_id o.innermost

-- whether a declaration of variables is no `var`
abbrev pub is_lexical : Option Node → Bool
is_lexical None = false
is_lexical (Some declaration) = not (is_with_text kind.VariableDeclaration (codes "var") declaration)

-- whether a node under a parent declares lexical variables, a class, a function, or the names of a catch pattern
abbrev pub declares_lexically : AstType → Node → Option Node → Bool
declares_lexically kind.VariableDeclarator node parent = is_lexical parent
declares_lexically kind.Function node parent = true
declares_lexically kind.Class node parent = true
declares_lexically kind.CatchParameter node parent = holds (λ p. not (is kind.BindingIdentifier p)) (child_of role.Pattern node)
declares_lexically _ node parent = false

-- the names of the nodes, in the scope of one opener
abbrev pub names_in : ℕ → List Node → List WrittenName
names_in opener nodes = map (λ node. record { opener = opener; name = node.text }) nodes

-- what a node declares
abbrev pub written_by : Node → Option Node → Openers → List WrittenName
written_by node parent o = cond (declares_lexically node.kind node parent) (names_in (opener_of_names node o) (bound_names node)) []

-- what the nodes below a node declare
abbrev pub written_below : Node → Openers → Forest → List WrittenName
written_below parent o nothing = []
written_below parent o (tree r k span text marks below id after) =
    let node : Node = record { kind = k; span = span; text = text; marks = marks; children = below; node_id = id } in
    written_by node (Some parent) (openers_at parent r o) ++ written_below node (openers_at parent r o) below ++ written_below parent o after

-- what a node and those below it declare
abbrev pub written_in : Node → Option Node → Openers → List WrittenName
written_in node parent o = written_by node parent o ++ written_below node o node.children

-- whether functions in blocks move: in sloppy JavaScript alone
abbrev pub is_sloppy : SourceType → Bool
is_sloppy source_type = not (is_typescript source_type) && not (is_module source_type)

-- what a program declares
abbrev pub names_written : Tree → List WrittenName
names_written program = written_in program.root None (record { innermost = 0; around = 0 })

-- whether one of the name that counts stands in the scope that the node opens
abbrev pub any_standing : ℕ → Name → List Declaration → Bool
any_standing opener name [] = false
any_standing opener name (e ∷ es) = (counts_past e && (scope_it_stands_in e).opener == opener && bytes_eq e.naming.name name) || any_standing opener name es
