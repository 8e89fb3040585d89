-- What is asked of one node: its kind, its text, its marks and its children by role.
use Rattle.std.specs.Prelude.{ℕ, List, Bool, true, false, ◌&&◌, ◌||◌, Option, Some, None, ◌==◌, codes}
use Rattle.std.specs.List.{list_any}
use Rattle.std.specs.Str.{bytes_eq}
use Rattle.semantic_kinds.specs.Kinds.{same_kind}
use Rattle.semantic_kinds.specs.MarkSets.{has_mark}
use Rattle.semantic_kinds.specs.declared.kind.AstType.{AstType}
use Rattle.semantic_kinds.specs.declared.kind.AstType.TheVariants as kinds
use Rattle.semantic_kinds.specs.declared.role.Role.{Role}
use Rattle.semantic_kinds.specs.declared.role.Role.TheVariants as roles
use Rattle.semantic_kinds.specs.declared.mark.Mark.{Mark}
use Rattle.semantic_tree.specs.Forest.{Forest, nothing, tree}
use Rattle.semantic_tree.specs.Nodes.{same_role, trees, nodes_in, first_of}
use Rattle.semantic_tree.specs.declared.node.Node.{Node}

-- the role is one of the list
abbrev pub is_role_of : Role → List Role → Bool
is_role_of role among = list_any (same_role role) among

-- some tree of the forest has one of the roles
abbrev pub has_role : List Role → Forest → Bool
has_role among nothing = false
has_role among (tree role kind span text marks below id after) = is_role_of role among || has_role among after

-- the trees of a forest that have the role, as nodes
abbrev pub children_of : Role → Forest → List Node
children_of role forest = nodes_in role (trees forest)

-- the children in a role
abbrev pub all_in : Role → Node → List Node
all_in role node = children_of role node.children

-- the first child in a role
abbrev pub child_of : Role → Node → Option Node
child_of role node = first_of (all_in role node)

-- there is a node
abbrev pub is_there : Option Node → Bool
is_there None = false
is_there (Some node) = true

-- there is a child in the role
abbrev pub has_child : Role → Node → Bool
has_child role node = is_there (child_of role node)

-- the node is of the kind
abbrev pub is : AstType → Node → Bool
is kind node = same_kind node.kind kind

-- the node has the mark
abbrev pub has : Mark → Node → Bool
has mark node = has_mark node.marks mark

-- the text is this word
abbrev pub has_text : List ℕ → Node → Bool
has_text word node = bytes_eq node.text word

-- the node is of the kind and has the text
abbrev pub is_with_text : AstType → List ℕ → Node → Bool
is_with_text kind word node = is kind node && has_text word node

-- the node has the directive that makes its code strict
abbrev pub has_use_strict : Node → Bool
has_use_strict node = list_any (is_with_text kinds.Directive (codes "use strict")) (all_in roles.Directives node)

-- there is a node, and it passes the test
abbrev pub holds : (Node → Bool) → Option Node → Bool
holds test None = false
holds test (Some node) = test node

-- there is a child in the role, and the first passes the test
abbrev pub whose : Role → (Node → Bool) → Node → Bool
whose role test node = holds test (child_of role node)

-- the inner node is a child of the outer one in the role
abbrev pub is_child_in : Role → Node → Node → Bool
is_child_in role outer inner = list_any (λ child. child.node_id == inner.node_id) (all_in role outer)
