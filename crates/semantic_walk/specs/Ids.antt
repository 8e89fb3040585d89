-- The names that a node declares, and whether there are ids for what a walk makes.
use Rattle.std.specs.Prelude.{◌≡◌, ◌+◌, ◌<◌, ◌≤◌, List, [], ◌∷◌, ◌++◌, true, false, cond, flat_map, length}
use Rattle.semantic_kinds.specs.declared.kind.AstType.{AstType}
use Rattle.semantic_kinds.specs.declared.kind.AstType.TheVariants as kind
use Rattle.semantic_kinds.specs.declared.role.Role.TheVariants as role
use Rattle.semantic_tree.specs.declared.node.Node.{Node}
use Rattle.semantic_tree.specs.Views.{is, children_of}
use Rattle.semantic_model.specs.Names.{bound_names, names_at}
use Rattle.semantic_model.specs.Place.{parent_holds}
use Rattle.semantic_model.specs.Binder.{member_names}
use Rattle.walk_model.specs.Room.{id_count}
use Rattle.semantic_walk.specs.Binds.{is_bound_inside}
use Rattle.semantic_walk.specs.Paths.{parent_in}
use Rattle.semantic_walk.specs.Walker.{Walker}

-- the names, if there is a node above
abbrev pub under : (above names : List Node) → List Node
under [] names = []
under (parent ∷ above) names = names

-- the names that a node of the kind declares, below those above it
abbrev pub names_by : AstType → (above : List Node) → Node → List Node
names_by kind.VariableDeclarator above node = under above (bound_names node)
names_by kind.Function above node = bound_names node
names_by kind.Class above node = bound_names node
names_by kind.FormalParameter above node = under above (bound_names node)
names_by kind.FormalParameterRest above node = under above (bound_names node)
names_by kind.BindingRestElement above node = cond (parent_holds (is kind.FormalParameters) above) (bound_names node) []
names_by kind.CatchParameter above node = flat_map bound_names (children_of role.Pattern node.children)
names_by kind.ImportSpecifier above node = names_at role.Local node
names_by kind.ImportDefaultSpecifier above node = names_at role.Local node
names_by kind.ImportNamespaceSpecifier above node = names_at role.Local node
names_by kind.TSImportEqualsDeclaration above node = bound_names node
names_by kind.TSTypeAliasDeclaration above node = bound_names node
names_by kind.TSInterfaceDeclaration above node = bound_names node
names_by kind.TSEnumDeclaration above node = bound_names node
names_by kind.TSEnumMember above node = flat_map member_names (children_of role.Id node.children)
names_by kind.TSNamespaceDeclaration above node = bound_names node
names_by kind.TSTypeParameter above node = names_at role.Name node
names_by kind.TSMappedType above node = names_at role.Key node
names_by _ above node = []

-- there is an id for each name that the node declares where the walk stands
abbrev pub HasIds : Walker → Node → Type 0
HasIds w node = length w.made.tables.symbols + length (names_by node.kind (parent_in w.path) node) ≤ id_count

-- the walk may enter the node: there are ids for a reference, and for what the node declares outside of its scope
pub record MayEnter (w : Walker) (node : Node) : Type 0 where
  pub references : length w.made.tables.references < id_count
  pub names : is_bound_inside node ≡ false → HasIds (record w { path = w.path ++ node ∷ [] }) node

-- the walk may open the scope of the node: there are ids for it, and for what the node declares inside
pub record MayOpen (w : Walker) (node : Node) : Type 0 where
  pub scopes : length w.made.tables.scopes < id_count
  pub names : is_bound_inside node ≡ true → HasIds w node
