use Rattle.std.proofs.Common.{◌≡◌, ◌+◌, ◌-◌, ◌^◌, ◌≤◌, length, map}
use Rattle.node_rules.specs.BoundIdentifiers.{names_left}
use Rattle.table_building.specs.Growth.{Goes}
use Rattle.table_building.specs.Named.{named_by}
use Rattle.semantic_walk.specs.Binds.{moving}
use Rattle.semantic_walk.proofs.walk.Walk.bind_block_names.Given as goal

-- to declare what is left is to declare all
abbrev pub invariant-loop-name : goal.invariant-loop-name
invariant-loop-name l = record {
  rest : moving l.self (map (named_by l.function.node.now l.row l.is_pure) (names_left l.name-iterator))
      ≡ moving l.initial.self (map (named_by l.function.node.now l.row l.is_pure) l.names);
  room : length l.self.made.tables.symbols + length (names_left l.name-iterator) ≤ 2 ^ 32 - 1;
  goes : Goes l.initial.self.made l.self.made;
}
