use Rattle.std.proofs.Common.{◌≡◌, ◌+◌, ◌-◌, ◌^◌, ◌≤◌, length, map, flat_map}
use Rattle.semantic_tree.specs.ChildIter.{left_of}
use Rattle.table_building.specs.Growth.{Goes}
use Rattle.table_building.specs.Named.{named_by}
use Rattle.std.proofs.Common.{false}
use Rattle.semantic_model.specs.Names.{bound_names, names_at}
use Rattle.table_building.specs.Each.{declare_each}
use Rattle.table_building.proofs.declared.Declared.declare_under.Given as goal

-- to declare what is left is to declare all
abbrev pub invariant-loop-part : goal.invariant-loop-part
invariant-loop-part l = record {
  rest : declare_each l.self l.scope (map (named_by l.node.node.now l.row false) (flat_map bound_names (left_of l.part-iterator)))
      ≡ declare_each l.initial.self l.scope (map (named_by l.node.node.now l.row false) (names_at l.fn.role l.node.node.now));
  room : length l.self.tables.symbols + length (flat_map bound_names (left_of l.part-iterator)) ≤ 2 ^ 32 - 1;
  goes : Goes l.initial.self l.self;
}
