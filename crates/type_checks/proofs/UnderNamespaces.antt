-- Namespaces without those directly round them.
use Rattle.std.proofs.Common.{◌≡◌, true, false, Some, None}
use Rattle.semantic_kinds.specs.declared.role.Role.TheVariants as roles
use Rattle.semantic_tree.specs.declared.node.Node.{Node}
use Rattle.semantic_tree.specs.Views.{child_of}
use Rattle.semantic_tree.proofs.Wrappers.{unwrapped_child_in, unwrapped_alone, unwrapped_none}
use Rattle.check_model.specs.Groups.{is_namespace, under_namespaces}

pub under_namespace : (node body : Node) → is_namespace node.kind ≡ true → child_of roles.Body node ≡ Some body → under_namespaces node ≡ under_namespaces body
under_namespace node body h k = unwrapped_child_in is_namespace roles.Body node body h k

pub under_nothing : (node : Node) → child_of roles.Body node ≡ None → under_namespaces node ≡ node
under_nothing node h = unwrapped_alone is_namespace roles.Body node h

pub under_none : (node : Node) → is_namespace node.kind ≡ false → under_namespaces node ≡ node
under_none node h = unwrapped_none is_namespace roles.Body node h

pub ruleset under = (under_namespace, under_nothing, under_none)
