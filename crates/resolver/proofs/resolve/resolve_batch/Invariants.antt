use Rattle.std.proofs.Common.{◌≡◌, ◌++◌, map, take}
use Rattle.std.specs.List.{sum_by}
use Rattle.semantic_syntax.specs.Counts.{raised}
use Rattle.semantic_syntax.specs.Outcome.{last_outcome, last_probes}
use Rattle.resolver.specs.Terms.{outcome_of, pending_of}
use Rattle.resolver.proofs.resolve.resolve_batch.Given as goal

abbrev pub invariant-loop-entry : goal.invariant-loop-entry
invariant-loop-entry g l =
    let source = g.B.BindingSource.meaning l.source in
    record {
      outcomes : map outcome_of l.outcomes ≡ map outcome_of l.fn.outcomes ++ map (last_outcome source) (map pending_of (take l.entry-index l.batch));
      cost : l.steps ≡ raised l.fn.steps (sum_by (last_probes source) (map pending_of (take l.entry-index l.batch)));
    }
