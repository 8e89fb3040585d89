-- The children of a node in one role.
use Rattle.std.specs.Prelude.{List, [], ◌∷◌, if◌then◌else◌, Option, Some, None}
use Rattle.semantic_tree.specs.Forest.{Forest, nothing, tree}
use Rattle.semantic_kinds.specs.declared.role.Role.{Role}
pub use Rattle.semantic_kinds.specs.Roles.{same_role}
use Rattle.semantic_tree.specs.declared.node.Node.{Node}

-- the trees of a forest as nodes, each with its role
abbrev pub trees : Forest → List (Role × Node)
trees nothing = []
trees (tree role kind span text marks below id after) =
    (role, record { kind = kind; span = span; text = text; marks = marks; children = below; node_id = id }) ∷ trees after

-- the nodes that have a role
abbrev pub nodes_in : Role → List (Role × Node) → List Node
nodes_in role [] = []
nodes_in role (child ∷ rest) = if same_role child.0 role then child.1 ∷ nodes_in role rest else nodes_in role rest

-- the first of a list, if there is one
abbrev pub first_of : List Node → Option Node
first_of [] = None
first_of (node ∷ rest) = Some node
