use Rattle.std.proofs.Common.{◌≡◌, ◌++◌, drop}
use Rattle.reachability.specs.Rows.{lists}
use Rattle.link_search.specs.Reached.{backward_from}
use Rattle.link_search.proofs.terminals.backward_pairs.Given as goal

abbrev pub invariant-loop-from : goal.invariant-loop-from
invariant-loop-from l = l.pairs.items ++ backward_from l.from (drop l.from (lists l.rows)) ≡ backward_from 0 (lists l.rows)
