use Rattle.std.proofs.Common.{◌≡◌, drop}
use Rattle.scoping_rows.specs.Names.{name_of}
use Rattle.walk_model.specs.Hoists.{remember_all}
use Rattle.table_building.specs.Growth.{Goes}
use Rattle.table_building.proofs.declared.Declared.remember_all.Given as goal

-- to go on from here is to go over all
abbrev pub invariant-loop-scope : goal.invariant-loop-scope
invariant-loop-scope l = record {
  items : l.scope-items ≡ l.route.passed.items;
  rest : remember_all l.self (drop l.scope-index l.scope-items) (name_of l.name) l.symbol ≡ remember_all l.initial.self l.route.passed.items (name_of l.name) l.symbol;
  goes : Goes l.initial.self l.self;
}
