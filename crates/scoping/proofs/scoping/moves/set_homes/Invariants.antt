use Rattle.std.proofs.Common.{◌≡◌, ◌<◌, fold, length}
use Rattle.std.specs.List.{AllByRecursion}
use Rattle.scoping_rows.specs.Row.{row_moved}
use Rattle.scoping.proofs.scoping.moves.set_homes.Given as goal

abbrev pub invariant-loop-symbol : goal.invariant-loop-symbol
invariant-loop-symbol l = record {
  rest : fold (row_moved l.scope) l.rows.items l.symbol-iterator ≡ fold (row_moved l.scope) l.initial.rows.items l.initial.symbol-iterator;
  within : AllByRecursion (λ y. y < length l.rows.items) l.symbol-iterator;
}
