use Rattle.std.proofs.Common.{◌≡◌}
use Rattle.std.specs.List.{list_all}
use Rattle.semantic_kinds.specs.declared.role.Role.TheVariants as roles
use Rattle.semantic_tree.specs.ChildIter.{left_of}
use Rattle.semantic_tree.specs.Views.{all_in}
use Rattle.semantic_tree.specs.BoundNames.{is_plain_parameter}
use Rattle.semantic_tree.proofs.view.AstKind.is_simple_parameter_list.Given as goal

-- the items so far are plain
abbrev pub invariant-loop-item : goal.invariant-loop-item
invariant-loop-item l = list_all is_plain_parameter (left_of l.item-iterator) ≡ list_all is_plain_parameter (all_in roles.Items l.self.node.now)
