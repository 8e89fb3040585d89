use Rattle.std.proofs.Common.{drop}
use Rattle.semantic_syntax.proofs.Results.{on_err}
use Rattle.semantic_syntax.specs.Outcome.{header_probes}
use Rattle.resolver.proofs.Asking.{asked_within}
use Rattle.resolver.proofs.resolve.resolve_header.Goals as goal

pub returns-in_err-push-clause-given_up : goal.returns-in_err-push-clause-given_up
returns-in_err-push-clause-given_up g c =
    let more = rw c.entries_from-entry-items.ensures at c.loop-entry-test.true in
    let item = rw c.entries_from-entry-items.ensures at c.entry-item.is in
    on_err c.from_residual.result
    (asked_within (header_probes (g.B.BindingSource.meaning c.args.source.now) c.args.scope) (drop c.args.start c.args.pending.now) c.loop-entry.entry-index c.entry-item.result _ _ _
    more item c.loop-entry.invariant.cost c.resolve_in_header-outcome.ensures.cost)
