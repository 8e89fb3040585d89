use Rattle.std.proofs.Common.{◌≡◌, ◌+◌, ◌-◌, ◌^◌, ◌≤◌, length, flat_map}
use Rattle.semantic_kinds.specs.declared.role.Role.TheVariants as role
use Rattle.semantic_tree.specs.ChildIter.{left_of}
use Rattle.semantic_tree.specs.Views.{all_in}
use Rattle.semantic_model.specs.Binder.{member_names}
use Rattle.table_building.specs.Growth.{Goes}
use Rattle.table_building.specs.Each.{declare_members}
use Rattle.table_building.proofs.declared.Declared.declare_member.Given as goal

-- to declare what is left is to declare all
abbrev pub invariant-loop-id : goal.invariant-loop-id
invariant-loop-id l = record {
  rest : declare_members l.self l.scope l.member.node.now (left_of l.id-iterator)
      ≡ declare_members l.initial.self l.scope l.member.node.now (all_in role.Id l.member.node.now);
  room : length l.self.tables.symbols + length (flat_map member_names (left_of l.id-iterator)) ≤ 2 ^ 32 - 1;
  goes : Goes l.initial.self l.self;
}
