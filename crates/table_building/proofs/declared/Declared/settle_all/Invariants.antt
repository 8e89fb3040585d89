use Rattle.std.proofs.Common.{◌≡◌, ◌-◌, map, drop}
use Rattle.walk_model.specs.WalkState.{WalkState}
use Rattle.walk_model.specs.Settles.{settle}
use Rattle.table_building.specs.Growth.{Grows}
use Rattle.resolver.specs.Terms.{outcome_of}
use Rattle.table_building.proofs.declared.Declared.settle_all.Given as goal

-- to settle what is left is to settle all
abbrev pub invariant-loop-position : goal.invariant-loop-position
invariant-loop-position l = record {
  waiting : l.self.waiting ≡ l.initial.self.waiting;
  rest : ◌≡◌ {A = WalkState} (record l.self { tables = settle l.self.tables (drop l.position l.self.waiting) (map outcome_of (drop (l.position - l.fn.start) l.items)) })
      (record l.initial.self { tables = settle l.initial.self.tables (drop l.fn.start l.initial.self.waiting) (map outcome_of l.items) });
  grows : Grows l.initial.self.tables l.self.tables;
}
