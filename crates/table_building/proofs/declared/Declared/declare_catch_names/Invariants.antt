use Rattle.std.proofs.Common.{◌≡◌, ◌+◌, ◌-◌, ◌^◌, ◌≤◌, length, flat_map}
use Rattle.semantic_kinds.specs.declared.role.Role.TheVariants as role
use Rattle.semantic_tree.specs.ChildIter.{left_of}
use Rattle.semantic_tree.specs.Views.{all_in}
use Rattle.semantic_model.specs.Names.{bound_names}
use Rattle.table_building.specs.Growth.{Goes}
use Rattle.table_building.specs.Each.{declare_patterns}
use Rattle.table_building.proofs.declared.Declared.declare_catch_names.Given as goal

-- to declare what is left is to declare all
abbrev pub invariant-loop-pattern : goal.invariant-loop-pattern
invariant-loop-pattern l = record {
  rest : declare_patterns l.self l.scope l.parameter.node.now (left_of l.pattern-iterator)
      ≡ declare_patterns l.initial.self l.scope l.parameter.node.now (all_in role.Pattern l.parameter.node.now);
  room : length l.self.tables.symbols + length (flat_map bound_names (left_of l.pattern-iterator)) ≤ 2 ^ 32 - 1;
  goes : Goes l.initial.self l.self;
}
