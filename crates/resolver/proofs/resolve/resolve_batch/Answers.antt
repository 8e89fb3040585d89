use Rattle.semantic_syntax.proofs.Results.{on_err}
use Rattle.semantic_syntax.specs.Outcome.{last_probes}
use Rattle.resolver.proofs.Asking.{asked_within}
use Rattle.resolver.proofs.resolve.resolve_batch.Goals as goal

pub returns-in_err-push-clause-given_up : goal.returns-in_err-push-clause-given_up
returns-in_err-push-clause-given_up g c =
    on_err c.from_residual.result
    (asked_within (last_probes (g.B.BindingSource.meaning c.args.source.now)) c.args.batch.now c.loop-entry.entry-index c.entry-item.result _ _ _
    c.loop-entry-test.true c.entry-item.is c.loop-entry.invariant.cost c.resolve_last-outcome.ensures.cost)
