use Rattle.scoping_rows.specs.Kept.{without_type_uses}
use Rattle.scoping_rows.proofs.Rows.{rows}
use Rattle.scoping_rows.proofs.Sweeps.{IsSwept}
use Rattle.scoping_rows.proofs.use_list.retain_values_in_each.Given as goal

abbrev pub invariant-loop-list : goal.invariant-loop-list
invariant-loop-list l = IsSwept (λ _. without_type_uses l.references) (rows l.initial.list-items) (rows l.list-items) l.list-index
