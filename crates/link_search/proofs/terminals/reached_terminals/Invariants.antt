use Rattle.std.proofs.Common.{length}
use Rattle.reachability.specs.Rows.{lists}
use Rattle.link_search.proofs.Spreads.{Knows, work}
use Rattle.link_search.proofs.terminals.reached_terminals.Given as goal

abbrev pub invariant-loop-b : goal.invariant-loop-b
invariant-loop-b l = Knows (lists l.rows) l.ends (length (lists l.rows)) l.spreading

abbrev pub decreases-loop-b : goal.decreases-loop-b
decreases-loop-b l = work l.spreading
