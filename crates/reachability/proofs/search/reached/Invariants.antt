use Rattle.std.proofs.Common.{◌-◌, length}
use Rattle.reachability.specs.Rows.{lists}
use Rattle.reachability.proofs.Closing.{Stands}
use Rattle.reachability.proofs.search.reached.Given as goal

abbrev pub invariant-loop-next : goal.invariant-loop-next
invariant-loop-next l = Stands (lists l.rows) l.seeds (length l.rows) l.next l.marking

abbrev pub decreases-loop-next : goal.decreases-loop-next
decreases-loop-next l = length l.rows - l.next
