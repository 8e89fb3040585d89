use Rattle.std.proofs.Common.{◌≡◌, ◌∙◌, ap, length, All, subst, sym}
use Rattle.semantic_syntax.specs.Tables.{Tables}
use Rattle.walk_model.specs.WalkState.{WalkState}
use Rattle.resolver.specs.declared.outcomes.Outcome.{Outcome}
use Rattle.resolver.specs.Terms.{outcome_of}
use Rattle.table_building.specs.Settled.{IsOutcomeWithin}
use Rattle.table_building.proofs.Settling.{settled_made}
use Rattle.table_building.proofs.Waiting.{waiting_applied, outcomes-grow}
use Rattle.table_building.proofs.declared.Declared.settle.Goals as goal

pub invariant_of-self : goal.invariant_of-self
invariant_of-self c =
    let same : c.self.inside.scoping ≡ c.settle_all.new.self.tables = ap (λ (w : WalkState). w.tables) c.self.view_is in
    let within = subst (λ (t : Tables). All (λ (o : Outcome). IsOutcomeWithin (length t.symbols) (length t.scopes) (outcome_of o)) c.args.outcomes.now) (sym same)
    (outcomes-grow _ _ c.args.outcomes.now c.in_ok-settle_all.ensures.grows c.requires.outcomes) in
    record {
      remembered = c.self.invariant.remembered;
      waiting = rw c.apply.ensures (waiting_applied _ c.args.start c.self.inside.pending c.args.outcomes.now c.self.invariant.waiting within);
    }

pub returns-clause-made : goal.returns-clause-made
returns-clause-made c =
    settled_made c.self.inside c.args.self.now c.args.start c.args.outcomes.now c.apply.new.self (c.self.view_is ∙ c.in_ok-settle_all.ensures.made) c.apply.ensures
