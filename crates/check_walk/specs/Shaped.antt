-- The shape of classes: a class ends with its body, which alone has the role of a body.
use Rattle.std.specs.Prelude.{Bool, true, ◌&&◌, not, cond}
use Rattle.semantic_kinds.specs.Kinds.{same_kind}
use Rattle.semantic_kinds.specs.Roles.{same_role}
use Rattle.semantic_kinds.specs.declared.kind.AstType.{AstType}
use Rattle.semantic_kinds.specs.declared.kind.AstType.TheVariants as kind
use Rattle.semantic_kinds.specs.declared.role.Role.{Role}
use Rattle.semantic_kinds.specs.declared.role.Role.TheVariants as role
use Rattle.semantic_tree.specs.Forest.{Forest, nothing, tree}
use Rattle.class_table.specs.Bodies.{end_rightly}

-- the second holds just where the first does
abbrev pub agree : Bool → Bool → Bool
agree a b = cond a b (not b)

-- a child of a class has the role of a body just where it is a class body
abbrev pub has_own_role : AstType → Role → AstType → Bool
has_own_role parent r k = cond (same_kind parent kind.Class) (agree (same_role r role.Body) (same_kind k kind.ClassBody)) true

-- the same of the children of a node of the kind
abbrev pub have_own_role : AstType → Forest → Bool
have_own_role parent nothing = true
have_own_role parent (tree r k span text marks below id after) = has_own_role parent r k && have_own_role parent after

-- the children of a node of the kind: a class ends with its body, which alone has the role of a body, and no other node has a class body
abbrev pub is_class_shape : AstType → Forest → Bool
is_class_shape parent f = end_rightly parent f && have_own_role parent f

-- the children of each node of a forest
abbrev pub are_class_shapes : Forest → Bool
are_class_shapes nothing = true
are_class_shapes (tree r k span text marks below id after) = is_class_shape k below && (are_class_shapes below && are_class_shapes after)
