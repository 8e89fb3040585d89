-- Statements without the labels round them.
use Rattle.std.proofs.Common.{◌≡◌, true, false, Some, None}
use Rattle.semantic_kinds.specs.declared.role.Role.TheVariants as roles
use Rattle.semantic_tree.specs.declared.node.Node.{Node}
use Rattle.semantic_tree.specs.Views.{child_of}
use Rattle.semantic_tree.proofs.Wrappers.{unwrapped_child_in, unwrapped_alone, unwrapped_none}
use Rattle.check_model.specs.Groups.{is_label, under_labels}

pub under_label : (node body : Node) → is_label node.kind ≡ true → child_of roles.Body node ≡ Some body → under_labels node ≡ under_labels body
under_label node body h k = unwrapped_child_in is_label roles.Body node body h k

pub under_nothing : (node : Node) → child_of roles.Body node ≡ None → under_labels node ≡ node
under_nothing node h = unwrapped_alone is_label roles.Body node h

pub under_none : (node : Node) → is_label node.kind ≡ false → under_labels node ≡ node
under_none node h = unwrapped_none is_label roles.Body node h

pub ruleset under = (under_label, under_nothing, under_none)
