use Rattle.std.proofs.Common.{◌-◌, ◌*◌, length}
use Rattle.reachability.specs.Rows.{lists}
use Rattle.link_search.specs.Graph.{AreRowsSoFar}
use Rattle.link_search.proofs.graph.graph_of.Given as goal

abbrev pub invariant-loop-found : goal.invariant-loop-found
invariant-loop-found g l = AreRowsSoFar (g.W.Ways.firsts l.ways) (g.W.Ways.seconds l.ways) (g.W.Ways.leads l.ways) l.starts l.pairs.keys (lists l.rows.items)

abbrev pub decreases-loop-found : goal.decreases-loop-found
decreases-loop-found g l = g.W.Ways.firsts l.ways * g.W.Ways.seconds l.ways - length (lists l.rows.items)
