use Rattle.std.proofs.Common.{◌≡◌, map, take, drop}
use Rattle.std.specs.List.{sum_by}
use Rattle.semantic_syntax.specs.Counts.{raised}
use Rattle.semantic_syntax.specs.Outcome.{header_outcome, header_probes}
use Rattle.resolver.specs.Terms.{outcome_of, pending_of}
use Rattle.resolver.proofs.resolve.resolve_header.Given as goal

abbrev pub invariant-loop-entry : goal.invariant-loop-entry
invariant-loop-entry g l =
    let source = g.B.BindingSource.meaning l.source in
    record {
      outcomes : map outcome_of l.outcomes ≡ map (header_outcome source l.scope) (map pending_of (take l.entry-index (drop l.start l.pending)));
      cost : l.steps ≡ raised l.fn.steps (sum_by (header_probes source l.scope) (map pending_of (take l.entry-index (drop l.start l.pending))));
    }
