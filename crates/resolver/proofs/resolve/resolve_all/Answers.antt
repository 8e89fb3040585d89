use Rattle.std.proofs.Common.{arith, length, map, drop, ap, sym, ◌++◌, ◌∙◌}
use Rattle.semantic_syntax.proofs.Results.{on_err}
use Rattle.semantic_syntax.specs.Outcome.{last_outcome, last_probes}
use Rattle.resolver.specs.Terms.{outcome_of, pending_of}
use Rattle.resolver.proofs.Batches.{outcomes_further, outcomes_over, cost_further, given_up_within}
use Rattle.resolver.proofs.NonePending.{all_settled}
use Rattle.resolver.proofs.resolve.resolve_all.Goals as goal

pub returns-in_err-resolve_batch-clause-given_up : goal.returns-in_err-resolve_batch-clause-given_up
returns-in_err-resolve_batch-clause-given_up g c =
    let told = rw c.entries_from-entries.ensures at c.in_err-resolve_batch.ensures.given_up in
    on_err c.from_residual.result (given_up_within c.args.pending.now c.loop-start.start c.min-size.result _ _ _ _ _ told c.loop-start.invariant.cost)

pub loop-start-preserved : goal.loop-start-preserved
loop-start-preserved g c =
    let so_far = c.loop-start.invariant in
    let told = rw c.entries_from-entries.ensures at c.in_ok-resolve_batch.ensures.outcomes in
    let cost = rw c.entries_from-entries.ensures at c.in_ok-resolve_batch.ensures.cost in
    record {
      within = omega (arith, so_far.within, c.min-size.ensures, ap length c.entries_from-entries.ensures);
      outcomes = outcomes_further c.args.pending.now c.loop-start.start c.min-size.result _ _ _ _ told so_far.outcomes;
      cost = cost_further c.args.pending.now c.loop-start.start c.min-size.result _ _ _ _ _ cost so_far.cost;
      risen = omega (arith, so_far.risen, c.resolve_batch.ensures.risen);
    }

pub returns-clause-settled : goal.returns-clause-settled
returns-clause-settled g c =
    let over = rw c.entries_from-entries.ensures at c.loop-start-test.false in
    all_settled (g.B.BindingSource.meaning c.args.source.now) _ (map pending_of c.args.pending.now)
    (outcomes_over c.args.pending.now c.loop-start.start 0 _ _ _ c.loop-start.invariant.outcomes over)
