-- At which nodes the names that are found by role are those that are bound by kind and role.
use Rattle.std.specs.Prelude.{◌≡◌, List, [], ◌∷◌, false, None}
use Rattle.semantic_kinds.specs.Classes.{holds_kind}
use Rattle.semantic_kinds.specs.declared.kind.AstType.{AstType}
use Rattle.semantic_kinds.specs.declared.kind.AstType.TheVariants as kind
use Rattle.semantic_kinds.specs.declared.role.Role.{Role}
use Rattle.semantic_tree.specs.BoundNames as by_role
use Rattle.semantic_tree.specs.Faults.{first_fault}
use Rattle.semantic_tree.specs.Place.{all_placed}
use Rattle.semantic_tree.specs.Tree.{Tree, IsNumbered}
use Rattle.semantic_tree.specs.Views.{is}
use Rattle.semantic_tree.specs.declared.node.Node.{Node}
use Rattle.semantic_tree.specs.declared.place.Place.{Place}
use Rattle.semantic_model.specs.Entries.{Among}
use Rattle.semantic_model.specs.Names as by_kind

-- the kinds of names, patterns, parameters, declarators, and declarations that bind by declarators or under an id
abbrev pub binding_kinds : List AstType
binding_kinds = kind.BindingIdentifier ∷ kind.VariableDeclaration ∷ kind.VariableDeclarator ∷ kind.Function ∷ kind.Class ∷ kind.FormalParameters ∷ kind.FormalParameter ∷ kind.FormalParameterRest ∷ kind.CatchParameter ∷ kind.BindingRestElement ∷ kind.ObjectPattern ∷ kind.BindingProperty ∷ kind.ArrayPattern ∷ kind.AssignmentPattern ∷ kind.TSTypeAliasDeclaration ∷ kind.TSInterfaceDeclaration ∷ kind.TSEnumDeclaration ∷ kind.TSNamespaceDeclaration ∷ kind.TSImportEqualsDeclaration ∷ []

-- the kinds that have expressions, as operands, elements or properties, in roles in which patterns have what they bind
abbrev pub operand_kinds : List AstType
operand_kinds = kind.ArrayExpression ∷ kind.ObjectExpression ∷ kind.SpreadElement ∷ kind.JSXSpreadAttribute ∷ kind.UnaryExpression ∷ kind.AwaitExpression ∷ kind.YieldExpression ∷ kind.ImportExpression ∷ kind.ReturnStatement ∷ kind.ThrowStatement ∷ []

-- a node of the program that has no such expressions
abbrev pub IsPlain : Tree → Place → Node → Type 0
IsPlain p place node = Among (place, node) (all_placed p.root) × (holds_kind operand_kinds node.kind ≡ false)

-- the names of each of these nodes by role are those by kind and role
abbrev pub NamesAlike : Tree → Type 0
NamesAlike p = (place : Place) (node : Node) → IsPlain p place node → by_role.bound_names node ≡ by_kind.bound_names node

-- where the kind of such a node, which is no name itself, binds under one role, as a declaration under its id, they are the names in that role
abbrev pub NamesInRole : Tree → Type 0
NamesInRole p = (place : Place) (node : Node) (r : Role) → IsPlain p place node → is kind.BindingIdentifier node ≡ false → by_kind.binding_roles node.kind ≡ r ∷ [] → by_role.bound_names node ≡ by_kind.names_at r node

-- such a node of another kind has no names by role
abbrev pub NoOtherNames : Tree → Type 0
NoOtherNames p = (place : Place) (node : Node) → IsPlain p place node → holds_kind binding_kinds node.kind ≡ false → by_role.bound_names node ≡ []

-- a program in which a node of the kind has other names by role than by kind and role
pub record NamesDiffer (k : AstType) : Type 0 where
  pub program : Tree
  pub faultless : first_fault program ≡ None
  pub numbered : IsNumbered program.root
  pub place : Place
  pub node : Node
  pub among : Among (place, node) (all_placed program.root)
  pub of_kind : node.kind ≡ k
  pub differ : by_role.bound_names node ≡ by_kind.bound_names node → ⊥
