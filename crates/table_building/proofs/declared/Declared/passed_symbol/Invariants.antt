use Rattle.std.proofs.Common.{◌≡◌, length, drop}
use Rattle.walk_model.specs.Hoists.{against_way, passed_symbol}
use Rattle.table_building.specs.Growth.{Goes}
use Rattle.table_building.specs.Named.{naming}
use Rattle.table_building.proofs.declared.Declared.passed_symbol.Given as goal

-- to ask from here on is to ask all
abbrev pub invariant-loop-scope : goal.invariant-loop-scope
invariant-loop-scope l = record {
  items : l.scope-items ≡ l.route.passed.items;
  noted : against_way l.self (naming l.declaration) (drop l.scope-index l.scope-items) ≡ against_way l.initial.self (naming l.declaration) l.route.passed.items;
  asked : passed_symbol l.self (drop l.scope-index l.scope-items) (naming l.declaration).name ≡ passed_symbol l.initial.self l.route.passed.items (naming l.declaration).name;
  symbols : length l.self.tables.symbols ≡ length l.initial.self.tables.symbols;
  goes : Goes l.initial.self l.self;
}
