use Rattle.std.proofs.Common.{◌≡◌, ◌+◌, ◌-◌, ◌^◌, ◌≤◌, length, map}
use Rattle.node_rules.specs.BoundIdentifiers.{names_left}
use Rattle.table_building.specs.Growth.{Goes}
use Rattle.table_building.specs.Named.{named_by}
use Rattle.table_building.specs.Each.{hoist_each}
use Rattle.table_building.proofs.declared.Declared.hoist_listed.Given as goal

-- to declare what is left is to declare all
abbrev pub invariant-loop-name : goal.invariant-loop-name
invariant-loop-name l = record {
  rest : hoist_each l.self l.route.passed.items l.route.target (map (named_by l.node.node.now l.row l.is_pure) (names_left l.name-iterator))
      ≡ hoist_each l.initial.self l.route.passed.items l.route.target (map (named_by l.node.node.now l.row l.is_pure) l.names);
  room : length l.self.tables.symbols + length (names_left l.name-iterator) ≤ 2 ^ 32 - 1;
  goes : Goes l.initial.self l.self;
}
