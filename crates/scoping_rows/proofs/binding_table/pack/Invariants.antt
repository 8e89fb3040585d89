use Rattle.std.proofs.Common.{◌≡◌, length}
use Rattle.scoping_rows.specs.Flat.{filled, IsIndexed, KeepsElsewhere}
use Rattle.scoping_rows.specs.Kept.{rows_without_types, IsPacked}
use Rattle.scoping_rows.proofs.binding_table.pack.Given as goal

abbrev pub invariant-loop-position : goal.invariant-loop-position
invariant-loop-position l = record {
  positions : IsIndexed l.positions.entries l.scope l.slots;
  elsewhere : KeepsElsewhere l.initial.positions.entries l.positions.entries l.scope;
  count : length l.slots ≡ length l.initial.slots;
  kept : rows_without_types l.rows (filled l.slots) ≡ rows_without_types l.rows (filled l.initial.slots);
  packed : IsPacked l.rows l.slots l.packed l.position;
}
