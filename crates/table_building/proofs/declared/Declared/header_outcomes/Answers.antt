use Rattle.std.proofs.Common.{◌≡◌, ◌<◌, ◌≤◌, sym, subst, length, List, map, drop, All, OnOk, OnErr, IfOk}
use Rattle.std.specs.List.{sum_by}
use Rattle.std.proofs.lemmas.List.{drop-map}
use Rattle.std.proofs.lemmas.List.Elements.{All-drop}
use Rattle.semantic_syntax.specs.Counts.{raised}
use Rattle.semantic_syntax.specs.Told.{source_of}
use Rattle.semantic_syntax.specs.Outcome.{Pending, header_outcome, header_probes}
use Rattle.std.proofs.lemmas.Result.{IfOk-weaker}
use Rattle.resolver.specs.declared.outcomes.Outcome.{Outcome}
use Rattle.resolver.specs.declared.pending.UnresolvedReference.{UnresolvedReference}
use Rattle.resolver.specs.Terms.{outcome_of, pending_of}
use Rattle.table_building.specs.Settled.{IsOutcomeWithin}
use Rattle.table_building.specs.Waiting.{AreWaiting}
use Rattle.table_building.proofs.Waiting.{scopes_exist, references_exist, waiting_drop, header-within}
use Rattle.table_building.proofs.declared.Declared.header_outcomes.Given as given
use Rattle.table_building.proofs.declared.Declared.header_outcomes.Goals as goal

pub resolve_header-requires-clause-lookup_scopes : goal.resolve_header-requires-clause-lookup_scopes
resolve_header-requires-clause-lookup_scopes g c =
    All-drop (λ (u : UnresolvedReference). u.lookup_scope_id < length c.self.inside.scoping.scopes) c.args.start c.self.inside.pending
    (scopes_exist c.self.inside.scoping c.self.inside.pending c.self.invariant.waiting)

pub resolve_header-requires-clause-references : goal.resolve_header-requires-clause-references
resolve_header-requires-clause-references g c =
    All-drop (λ (u : UnresolvedReference). u.reference_id < length c.self.inside.scoping.references) c.args.start c.self.inside.pending
    (references_exist c.self.inside.scoping c.self.inside.pending c.self.invariant.waiting)

module _ (g : given.Over) (c : goal.After-resolve_header g) where
  -- those that wait from the start on
  since : map pending_of (drop c.args.start c.self.inside.pending) ≡ drop c.args.start (map pending_of c.self.inside.pending)
  since = sym (drop-map pending_of c.args.start c.self.inside.pending)

pub returns-clause-outcomes : goal.returns-clause-outcomes
returns-clause-outcomes g c =
    rw (← c.self.view_is)
    (subst (λ (es : List Pending). IfOk c.resolve_header.result (λ (o : List Outcome). map outcome_of o ≡ map (header_outcome (source_of c.self.inside.scoping) c.args.scope) es)) (since g c)
    c.resolve_header.ensures.outcomes)

pub returns-clause-within : goal.returns-clause-within
returns-clause-within g c =
    let t = c.self.inside.scoping in
    let waiting = subst (AreWaiting t) (sym (since g c)) (waiting_drop t c.args.start (map pending_of c.self.inside.pending) c.self.invariant.waiting) in
    rw (← c.self.view_is)
    (IfOk-weaker c.resolve_header.result _ (All (λ (o : Outcome). IsOutcomeWithin (length t.symbols) (length t.scopes) (outcome_of o)))
    (λ os are. header-within t c.attest.ensures.source os _ waiting c.args.scope (rw (← c.self.view_is) at c.requires.scope) are)
    c.resolve_header.ensures.outcomes)

pub returns-clause-cost : goal.returns-clause-cost
returns-clause-cost g c =
    rw (← c.self.view_is)
    (subst (λ (es : List Pending). OnOk c.resolve_header.result (c.resolve_header.new.steps ≡ raised c.args.steps.now (sum_by (header_probes (source_of c.self.inside.scoping) c.args.scope) es))) (since g c)
    c.resolve_header.ensures.cost)

pub returns-clause-given_up : goal.returns-clause-given_up
returns-clause-given_up g c =
    rw (← c.self.view_is)
    (subst (λ (es : List Pending). OnErr c.resolve_header.result (c.resolve_header.new.steps ≤ raised c.args.steps.now (sum_by (header_probes (source_of c.self.inside.scoping) c.args.scope) es))) (since g c)
    c.resolve_header.ensures.given_up)
