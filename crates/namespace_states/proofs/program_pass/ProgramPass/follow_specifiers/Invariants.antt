use Rattle.std.proofs.Common.{◌≡◌, map}
use Rattle.semantic_kinds.specs.declared.role.Role.TheVariants as role
use Rattle.semantic_tree.specs.ChildIter.{left_of}
use Rattle.semantic_tree.specs.Views.{children_of}
use Rattle.semantic_model.specs.Namespace.{specifier_reached, specifiers_reached}
use Rattle.namespace_states.specs.Led.{led_by}
use Rattle.namespace_states.proofs.program_pass.ProgramPass.follow_specifiers.Given as goal

-- with those that are left, all specifiers are followed
abbrev pub invariant-loop-specifier : goal.invariant-loop-specifier
invariant-loop-specifier l = record {
  lists : l.self.lists ≡ l.initial.self.lists;
  rest : led_by l.self.led l.fn.statement.node.now.node_id (specifiers_reached (map (specifier_reached l.initial.self.lists) (left_of l.specifier-iterator)))
      ≡ led_by l.initial.self.led l.fn.statement.node.now.node_id (specifiers_reached (map (specifier_reached l.initial.self.lists) (children_of role.Specifiers l.fn.statement.node.now.children)));
}
