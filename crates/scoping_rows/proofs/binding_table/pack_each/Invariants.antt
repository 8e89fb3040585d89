use Rattle.std.proofs.Common.{map}
use Rattle.scoping_rows.specs.Flat.{filled, AreIndexed}
use Rattle.scoping_rows.specs.Kept.{rows_without_types}
use Rattle.scoping_rows.proofs.Sweeps.{IsSwept}
use Rattle.scoping_rows.proofs.binding_table.pack_each.Given as goal

abbrev pub invariant-loop-scope : goal.invariant-loop-scope
invariant-loop-scope l = record {
  positions : AreIndexed l.positions.entries l.scopes.items;
  swept : IsSwept (λ _. rows_without_types l.rows) (map filled l.initial.scopes.items) (map filled l.scopes.items) l.scope;
}
