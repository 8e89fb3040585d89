use Rattle.std.proofs.Common.{◌≡◌, ◌≤◌, ◌++◌, length, map, drop}
use Rattle.std.specs.List.{sum_by}
use Rattle.semantic_syntax.specs.Counts.{raised}
use Rattle.semantic_syntax.specs.Outcome.{last_outcome, last_probes}
use Rattle.resolver.specs.Terms.{outcome_of, pending_of}
use Rattle.resolver.proofs.resolve.resolve_all.Given as goal

abbrev pub invariant-loop-start : goal.invariant-loop-start
invariant-loop-start g l =
    let source = g.B.BindingSource.meaning l.source in
    record {
      within : l.start ≤ length l.pending;
      outcomes : map outcome_of l.outcomes ++ map (last_outcome source) (map pending_of (drop l.start l.pending)) ≡ map (last_outcome source) (map pending_of l.pending);
      cost : raised l.steps (sum_by (last_probes source) (map pending_of (drop l.start l.pending))) ≡ raised l.fn.steps (sum_by (last_probes source) (map pending_of l.pending));
      risen : l.fn.steps ≤ l.steps;
    }

abbrev pub decreases-loop-start : goal.decreases-loop-start
decreases-loop-start g l = length (drop l.start l.pending)
