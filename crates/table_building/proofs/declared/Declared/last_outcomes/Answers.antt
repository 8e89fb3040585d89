use Rattle.std.proofs.Common.{length, All}
use Rattle.std.proofs.lemmas.Result.{IfOk-weaker}
use Rattle.resolver.specs.declared.outcomes.Outcome.{Outcome}
use Rattle.resolver.specs.Terms.{outcome_of}
use Rattle.table_building.specs.Settled.{IsOutcomeWithin}
use Rattle.table_building.proofs.Waiting.{scopes_exist, references_exist, last-within}
use Rattle.table_building.proofs.declared.Declared.last_outcomes.Goals as goal

pub resolve_all-requires-clause-lookup_scopes : goal.resolve_all-requires-clause-lookup_scopes
resolve_all-requires-clause-lookup_scopes g c = scopes_exist c.self.inside.scoping c.self.inside.pending c.self.invariant.waiting

pub resolve_all-requires-clause-references : goal.resolve_all-requires-clause-references
resolve_all-requires-clause-references g c = references_exist c.self.inside.scoping c.self.inside.pending c.self.invariant.waiting

pub returns-clause-within : goal.returns-clause-within
returns-clause-within g c =
    let t = c.self.inside.scoping in
    rw (← c.self.view_is)
    (IfOk-weaker c.resolve_all.result _ (All (λ (o : Outcome). IsOutcomeWithin (length t.symbols) (length t.scopes) (outcome_of o)))
    (λ os are. last-within t c.attest.ensures.source os _ c.self.invariant.waiting are)
    c.resolve_all.ensures.outcomes)

pub returns-clause-outcomes : goal.returns-clause-outcomes
returns-clause-outcomes g c = rw (← c.self.view_is) c.resolve_all.ensures.outcomes

pub returns-clause-cost : goal.returns-clause-cost
returns-clause-cost g c = rw (← c.self.view_is) c.resolve_all.ensures.cost
