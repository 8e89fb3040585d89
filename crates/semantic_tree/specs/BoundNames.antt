-- The names that a pattern, a declaration or a parameter list binds.
use Rattle.std.specs.Prelude.{ℕ, ◌+◌, nat_le, List, [], ◌∷◌, ◌++◌, Bool, true, false, ◌&&◌, if◌then◌else◌, not}
use Rattle.std.specs.List.{list_all}
use Rattle.semantic_kinds.specs.Kinds.{same_kind}
use Rattle.semantic_kinds.specs.declared.kind.AstType.{AstType}
use Rattle.semantic_kinds.specs.declared.kind.AstType.TheVariants as kinds
use Rattle.semantic_kinds.specs.declared.role.Role.{Role}
use Rattle.semantic_kinds.specs.declared.role.Role.TheVariants as roles
use Rattle.semantic_tree.specs.Forest.{Forest, nothing, tree}
use Rattle.semantic_tree.specs.Views.{all_in, has_child, is, whose}
use Rattle.semantic_tree.specs.declared.node.Node.{Node}

-- what a child in the role binds, its parent of the kind binds too
abbrev pub binds_by : AstType → Role → Bool
binds_by parent roles.Declarators = true
binds_by parent roles.Id = true
binds_by parent roles.Items = true
binds_by parent roles.Pattern = true
binds_by parent roles.Rest = true
binds_by parent roles.Argument = true
binds_by parent roles.Properties = true
binds_by parent roles.Value = same_kind parent kinds.BindingProperty
binds_by parent roles.Elements = true
binds_by parent roles.Left = same_kind parent kinds.AssignmentPattern
binds_by parent _ = false

-- the binding identifiers that the trees below a parent of the kind bind, in preorder
abbrev pub bound_below : AstType → Forest → List Node
bound_below parent nothing = []
bound_below parent (tree role kind span text marks below id after) =
    (if binds_by parent role then (if same_kind kind kinds.BindingIdentifier then record { kind = kind; span = span; text = text; marks = marks; children = below; node_id = id } ∷ [] else bound_below kind below) else [])
    ++ bound_below parent after

-- the binding identifiers of a node, in preorder
abbrev pub bound_names : Node → List Node
bound_names node = if same_kind node.kind kinds.BindingIdentifier then node ∷ [] else bound_below node.kind node.children

-- the names that a child in a role gives its parent of the kind
abbrev pub given_names : AstType → Role → Node → List Node
given_names parent role child = if binds_by parent role then bound_names child else []

-- the nodes whose ids rise from a number on: each is at least the number, and greater than those of all before it
abbrev pub rising : ℕ → List Node → List Node
rising from [] = []
rising from (node ∷ rest) = if nat_le from node.node_id then node ∷ rising (node.node_id + 1) rest else rising from rest

-- a plain name without initializer
abbrev pub is_plain_parameter : Node → Bool
is_plain_parameter item = whose roles.Pattern (is kinds.BindingIdentifier) item && not (has_child roles.Initializer item)

-- no rest, and each parameter a plain name without initializer
abbrev pub is_simple_parameter_list : Node → Bool
is_simple_parameter_list params = not (has_child roles.Rest params) && list_all is_plain_parameter (all_in roles.Items params)
