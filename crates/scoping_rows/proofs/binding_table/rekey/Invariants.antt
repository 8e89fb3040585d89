use Rattle.std.proofs.Common.{◌≤◌, ◌+◌, length}
use Rattle.indexmap.specs.IndexMap.{spare}
use Rattle.scoping_rows.specs.Flat.{far, IsRekeyed}
use Rattle.scoping_rows.proofs.binding_table.rekey.Given as goal

abbrev pub invariant-loop-position : goal.invariant-loop-position
invariant-loop-position l = record {
  room : length l.slots ≤ spare l.positions + l.position;
  moved : IsRekeyed l.initial.positions.entries l.positions.entries l.from l.to (far l.slots) l.position;
}
